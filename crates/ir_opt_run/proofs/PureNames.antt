-- What is pure by the dialect is pure by the table, and what has a name of the table is a row of it.
use Rattle.std.proofs.Common.{◌≡◌, ◌≢◌, ◌∙◌, ℕ, Bool, List, [], Option, Some, None, true, false, is_some, if◌then◌else◌, refl, sym, subst, slice_get}
use Rattle.std.proofs.lemmas.Bool.{false≢true}
use Rattle.std.specs.Option.{option_map}
use Rattle.ir_text_described.specs.Words.{Words}
use Rattle.generic_table.specs.Cut.{Operation}
use Rattle.generic_table.specs.Table.{operations}
use Rattle.generic_dialect.specs.declared.generic.GenericSaved.{GenericSaved}
use Rattle.generic_dialect.specs.declared.kinds.Kind.{Kind}
use Rattle.generic_dialect.specs.declared.kinds.Kind.TheVariants.{Listed, Open}
use Rattle.generic_dialect.specs.Implemented.{kind_implements, listed_implements, row_implements}
use Rattle.generic_dialect.specs.Kinds.{kind_of, listed_kind, listed_name}
use Rattle.generic_text.specs.GenericTexts.{text_at}
use Rattle.generic_text.specs.GenericWords.{told_name}
use Rattle.ir_opt_run.specs.GenericBehaviour.{generic}
use Rattle.ir_opt_run.specs.PureNames.{IsListedPure, IsRow, ListedAreRows, PureAreListed}

pure_row : (saved : List GenericSaved) (row : ℕ) (found : Option Operation) → slice_get operations row ≡ found → row_implements found 6 ≡ true
    → IsListedPure (told_name saved (option_map (λ (operation : Operation). operation.0) found) (Listed row))
pure_row saved row (Some operation) at pure = record { row = row; operation = operation; listed = at; named = refl; pure = pure }
pure_row saved row None at pure = absurd (false≢true pure)

pure_kind : (saved : List GenericSaved) (k : Kind) → kind_implements k 6 ≡ true → IsListedPure (told_name saved (listed_name k) k)
pure_kind saved (Listed row) pure = pure_row saved row (slice_get operations row) refl pure
pure_kind saved (Open name ends) pure = absurd (false≢true pure)

pub pure_are_listed : PureAreListed
pure_are_listed words words_are kind pure = subst (λ (w : Words generic). IsListedPure (w.operation_name kind)) (sym words_are.are) (pure_kind words_are.saved (kind_of kind) pure)

-- a kind's row of the table, without the number of the kind
record IsKindRow (k : Kind) (name : List ℕ) : Type 0 where
  row : ℕ
  operation : Operation
  listed : slice_get operations row ≡ Some operation
  named : operation.0 ≡ name
  implemented : (interface : ℕ) → kind_implements k interface ≡ listed_implements operation.1 interface

listed_row : (saved : List GenericSaved) (row : ℕ) (found : Option Operation) → slice_get operations row ≡ found → told_name saved (option_map (λ (operation : Operation). operation.0) found) (Listed row) ≢ []
    → ((interface : ℕ) → kind_implements (Listed row) interface ≡ row_implements found interface) → IsKindRow (Listed row) (told_name saved (option_map (λ (operation : Operation). operation.0) found) (Listed row))
listed_row saved row (Some operation) at some does = record { row = row; operation = operation; listed = at; named = refl; implemented = does }
listed_row saved row None at some does = absurd (some refl)

unlisted_is_none : (text : List ℕ) (b : Bool) → is_some (listed_kind text) ≡ b → is_some (listed_kind (if b then [] else text)) ≡ true → (if b then [] else text) ≢ [] → ⊥
unlisted_is_none text true is listed some = some refl
unlisted_is_none text false is listed some = false≢true (sym is ∙ listed)

kind_row : (saved : List GenericSaved) (k : Kind) → is_some (listed_kind (told_name saved (listed_name k) k)) ≡ true → told_name saved (listed_name k) k ≢ [] → IsKindRow k (told_name saved (listed_name k) k)
kind_row saved (Listed row) listed some = listed_row saved row (slice_get operations row) refl some (λ interface. refl)
kind_row saved (Open name ends) listed some = absurd (unlisted_is_none (text_at saved name.0) (is_some (listed_kind (text_at saved name.0))) refl listed some)

rows_are : (kind : ℕ) (name : List ℕ) → IsKindRow (kind_of kind) name → IsRow kind name
rows_are kind name r = record { row = r.row; operation = r.operation; listed = r.listed; named = r.named; implemented = r.implemented }

pub listed_are_rows : ListedAreRows
listed_are_rows words words_are kind =
    subst (λ (w : Words generic). is_some (listed_kind (w.operation_name kind)) ≡ true → w.operation_name kind ≢ [] → IsRow kind (w.operation_name kind)) (sym words_are.are)
    (λ listed some. rows_are kind _ (kind_row words_are.saved (kind_of kind) listed some))
