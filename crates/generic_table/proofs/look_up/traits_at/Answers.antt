use Rattle.std.proofs.Common.{◌≡◌, ◌<◌, ◌≤◌, ℕ, length, get_or, Some, option_map, ap, sym, ◌∙◌, arith, refl}
use Rattle.std.proofs.lemmas.Option.{slice_get-get_or, slice_get_past}
use Rattle.generic_table.specs.Cut.{Operation}
use Rattle.generic_table.specs.Table.{operations}
use Rattle.generic_table.proofs.RisingLemmas.{no_operation}
use Rattle.generic_table.proofs.TableFacts.{no_row, operations-length, row_facts}
use Rattle.generic_table.proofs.look_up.traits_at.Goals as goal

pub bounds-rows-row : goal.bounds-rows-row
bounds-rows-row c = let same = ap length c.rows.ensures in omega (arith, c.if-row-count.true, c.count.ensures, operations-length, same)

pub returns-then-row-count : goal.returns-then-row-count
returns-then-row-count c =
    let lt : c.args.row < length operations = omega (arith, c.if-row-count.true, c.count.ensures, c.from-row.ensures) in
    let less : c.from-row.result < length operations = omega (arith, c.if-row-count.true, c.count.ensures) in
    let same : c.from-row.result ≡ c.args.row = omega (arith, c.from-row.ensures) in
    let row = row_facts c.from-row.result _ c.rows.result.now no_row less c.rows.ensures refl in
    ap Some (row.said no_operation ∙ ap (λ (i : ℕ). (get_or operations i no_operation).1) same)
    ∙ ap (option_map (λ (o : Operation). o.1)) (sym (slice_get-get_or operations c.args.row no_operation lt))

pub returns-else-row-count : goal.returns-else-row-count
returns-else-row-count c =
    let le : length operations ≤ c.args.row = omega (arith, c.if-row-count.false, c.count.ensures, c.from-row.ensures) in
    ap (option_map (λ (o : Operation). o.1)) (sym (slice_get_past operations c.args.row le))
