use Rattle.std.proofs.Common.{◌≡◌, ℕ, ◌+◌, ◌^◌, ◌<◌, ◌≤◌, length, Option, Some, None, sym, ap, subst, ◌∙◌, ⊎_elim, arith}
use Rattle.std.proofs.lemmas.Bool.{cases_lt}
use Rattle.ir_text_names.specs.Numbers.{results_before}
use Rattle.ir_text_names.specs.Types.{next_operation}
use Rattle.ir_text_names.specs.TypeTables.{row_in, IsNarrow}
use Rattle.ir_text_names.proofs.Numbering.{number_at_most}
use Rattle.ir_text_names.proofs.PlacedRows.{next_is}
use Rattle.ir_text_names.proofs.SortedRows.{result_is, result_past}
use Rattle.ir_text_names.proofs.value_types.result_type.Goals as goal

abbrev no_row_there : Option ℕ
no_row_there = None

none_there : (i : ℕ) → no_row_there ≡ Some i → ⊥
none_there i e = cc

pub number_at-before-requires : goal.number_at-before-requires
number_at-before-requires c = omega (arith, c.requires.tables.before_room, c.args.tables.now.before.ok.0, c.requires.within)

pub number_at-operation-requires : goal.number_at-operation-requires
number_at-operation-requires c = omega (arith, c.requires.tables.next_room, c.args.tables.now.next.ok.0, c.requires.within)

pub find_spot-requires-clause-within : goal.find_spot-requires-clause-within
find_spot-requires-clause-within c = c.requires.tables.results.within

pub find_spot-requires-clause-number : goal.find_spot-requires-clause-number
find_spot-requires-clause-number c =
    let tables = c.args.tables.now in
    let rows = tables.rows.now in
    let d = c.args.definition in
    let known = next_is rows d c.requires.within in
    let most = number_at_most rows (next_operation rows d) (length rows) known.1 in
    let operation = c.number_at-operation.ensures ∙ c.requires.tables.next d c.requires.within in
    omega (arith, operation, most, c.requires.tables.results.room)

pub returns-in-Some : goal.returns-in-Some
returns-in-Some c =
    λ s.
    let tables = c.args.tables.now in
    let rows = tables.rows.now in
    let d = c.args.definition in
    let before = results_before tables.text.now rows d in
    let held = c.number_at-before.result in
    let operation = c.number_at-operation.ensures ∙ c.requires.tables.next d c.requires.within in
    let narrow = subst (IsNarrow before) (sym c.number_at-before.ensures) (c.requires.tables.before d c.requires.within) in
    let found : c.find_spot.result ≡ row_in tables.results c.number_at-operation.result (held + c.args.number) = c.find_spot.ensures ∙ ap (row_in tables.results c.number_at-operation.result) c.in-Some.ensures.1 in
    let both = result_is rows tables.results d c.number_at-operation.result before held c.args.number s c.requires.within c.requires.tables.few c.requires.tables.results operation narrow in
    (λ e. both.0 (sym found ∙ e), λ at. found ∙ both.1 at)

pub returns-in-None : goal.returns-in-None
returns-in-None c =
    λ s.
    let tables = c.args.tables.now in
    let rows = tables.rows.now in
    let d = c.args.definition in
    let before = results_before tables.text.now rows d in
    let held = c.number_at-before.result in
    let narrow = subst (IsNarrow before) (sym c.number_at-before.ensures) (c.requires.tables.before d c.requires.within) in
    let past : 2 ^ 64 ≤ held + c.args.number = ⊎_elim (λ (l : held + c.args.number < 2 ^ 64). absurd (c.in-None.ensures l)) (λ (l : 2 ^ 64 ≤ held + c.args.number). l) (cases_lt (held + c.args.number) (2 ^ 64)) in
    (λ e. absurd (none_there s e), λ at. absurd (result_past rows d before held c.args.number s c.requires.tables.few narrow past at.1))
