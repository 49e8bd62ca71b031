use Rattle.std.proofs.Common.{◌≡◌, ℕ, List, ◌<◌, length, get_or, Option, None, true, sym, ap, subst, subst₂, ◌∙◌, inl}
use Rattle.ir_text_names.specs.declared.firsts.Found.{Found}
use Rattle.ir_text_names.specs.declared.fault.Wrong.TheVariants as wrongs
use Rattle.ir_text_names.specs.Firsts.{IsFirst, IsFirstWrong, told, sooner}
use Rattle.ir_text_names.specs.Indices.{IsEntryBeyond}
use Rattle.ir_text_names.specs.Types.{IsTypeOther}
use Rattle.ir_text_names.specs.Values.{IsValueWrong, IsValueAgain, IsNamedUnlessAgain}
use Rattle.ir_text_tree.specs.declared.row.Row.{Row}
use Rattle.ir_text_names.proofs.Indices.{use_wrong}
use Rattle.ir_text_names.proofs.TypeFaults.{all_uses}
use Rattle.ir_text_names.proofs.ValueFaults.{value_wrong, all_named}
use Rattle.ir_text_names.proofs.value_names.value_table.Goals as goal

pub beyond-past-requires-clause-room : goal.beyond-past-requires-clause-room
beyond-past-requires-clause-room c = c.in_ok-entries.ensures.table.0

pub beyond-past-requires-clause-named : goal.beyond-past-requires-clause-named
beyond-past-requires-clause-named c = c.in_ok-entries.ensures.table.1

pub beyond-past-requires-clause-well : goal.beyond-past-requires-clause-well
beyond-past-requires-clause-well c =
    subst₂ (λ (t : List ℕ) (r : List Row). (c.are_well-well.result ≡ true) → IsFirst (IsEntryBeyond t r c.in_ok-entries.entries.table) (length r) None) c.in_ok-tables.ensures.text c.in_ok-tables.ensures.rows c.are_well-well.ensures.numbers

pub other_type-odd-requires-clause-tables : goal.other_type-odd-requires-clause-tables
other_type-odd-requires-clause-tables c = c.in_ok-tables.ensures.tables

pub other_type-odd-requires-clause-again : goal.other_type-odd-requires-clause-again
other_type-odd-requires-clause-again c =
    subst₂ (λ (t : List ℕ) (r : List Row). IsFirst (IsValueAgain t r) (length r) c.in_ok-before.before.again) (sym c.in_ok-tables.ensures.text) (sym c.in_ok-tables.ensures.rows) c.in_ok-before.ensures.again

pub other_type-odd-requires-clause-room : goal.other_type-odd-requires-clause-room
other_type-odd-requires-clause-room c = c.in_ok-entries.ensures.table.0 ∙ ap length (sym c.in_ok-tables.ensures.rows)

pub other_type-odd-requires-clause-named : goal.other_type-odd-requires-clause-named
other_type-odd-requires-clause-named c =
    subst₂ (λ (t : List ℕ) (r : List Row). (u : ℕ) → u < length r → IsNamedUnlessAgain t r u (get_or c.in_ok-entries.entries.table u None)) (sym c.in_ok-tables.ensures.text) (sym c.in_ok-tables.ensures.rows) c.in_ok-entries.ensures.table.1

first_of_both : (found a b : Option Found) (again unknown : Option ℕ) → found ≡ sooner a b → a ≡ told again wrongs.ValueTwice → b ≡ told unknown wrongs.UnknownValue → sooner (told again wrongs.ValueTwice) (told unknown wrongs.UnknownValue) ≡ found
first_of_both found a b again unknown e f g = sym (e ∙ ap (λ (x : Option Found). sooner x b) f ∙ ap (sooner (told again wrongs.ValueTwice)) g)

pub returns-clause-table : goal.returns-clause-table
returns-clause-table c =
    λ well.
    all_named c.args.text.now c.args.rows.now c.in_ok-entries.entries.table c.in_ok-entries.ensures.table.0 c.in_ok-entries.ensures.table.1 (λ k lt v w. well k lt v (inl (inl w)))

pub returns-clause-found : goal.returns-clause-found
returns-clause-found c =
    let text = c.args.text.now in
    let rows = c.args.rows.now in
    let again = c.in_ok-before.before.again in
    let missing = c.in_ok-entries.entries.missing in
    let both = first_of_both c.sooner-named.result c.told-twice.result c.told-unknown.result again missing c.sooner-named.ensures c.told-twice.ensures c.told-unknown.ensures in
    let named : IsFirstWrong (IsValueWrong text rows) (length rows) c.sooner-named.result =
    subst (IsFirstWrong (IsValueWrong text rows) (length rows)) both
    (value_wrong text rows (length rows) (λ (u : ℕ). get_or c.in_ok-entries.entries.table u None) again missing c.in_ok-entries.ensures.table.1 c.in_ok-before.ensures.again c.in_ok-entries.ensures.missing) in
    let names = use_wrong text rows c.sooner-named.result c.told-numbered.result c.sooner-names.result c.beyond-past.result c.told-numbered.ensures c.sooner-names.ensures named c.beyond-past.ensures in
    let odd : IsFirst (IsTypeOther text rows) (length rows) c.other_type-odd.result =
    subst₂ (λ (t : List ℕ) (r : List Row). IsFirst (IsTypeOther t r) (length r) c.other_type-odd.result) c.in_ok-tables.ensures.text c.in_ok-tables.ensures.rows c.other_type-odd.ensures in
    all_uses text rows c.sooner-names.result c.told-typed.result c.sooner-found.result c.other_type-odd.result c.told-typed.ensures c.sooner-found.ensures names odd
