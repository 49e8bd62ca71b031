use Rattle.std.proofs.Common.{◌≡◌, ◌<◌, ◌≤◌, ℕ, length, get_or, Some, option_map, ap, sym, ◌∙◌, arith}
use Rattle.std.proofs.lemmas.Option.{slice_get-get_or, slice_get_past}
use Rattle.generic_table.specs.Cut.{Operation}
use Rattle.generic_table.specs.Table.{operations}
use Rattle.generic_table.proofs.RisingLemmas.{no_operation}
use Rattle.generic_table.proofs.look_up.name_at.Goals as goal

pub name_of-requires : goal.name_of-requires
name_of-requires c = omega (arith, c.if-row-count.true, c.count.ensures)

pub returns-then-row-count : goal.returns-then-row-count
returns-then-row-count c =
    let lt : c.args.row < length operations = omega (arith, c.if-row-count.true, c.count.ensures, c.from-row.ensures) in
    let same : c.from-row.result ≡ c.args.row = omega (arith, c.from-row.ensures) in
    ap Some (c.name_of.ensures no_operation ∙ ap (λ (i : ℕ). (get_or operations i no_operation).0) same)
    ∙ ap (option_map (λ (o : Operation). o.0)) (sym (slice_get-get_or operations c.args.row no_operation lt))

pub returns-else-row-count : goal.returns-else-row-count
returns-else-row-count c =
    let le : length operations ≤ c.args.row = omega (arith, c.if-row-count.false, c.count.ensures, c.from-row.ensures) in
    ap (option_map (λ (o : Operation). o.0)) (sym (slice_get_past operations c.args.row le))
