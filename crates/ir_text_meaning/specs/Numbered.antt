-- Operands and results by their numbers: which parts they are, and what stands in front of them.
use Rattle.std.specs.Prelude.{◌≡◌, ◌≢◌, ◌⊎◌, ℕ, suc, ◌+◌, List, [], ◌∷◌, Option, Some, None}
use Rattle.std.specs.Option.{unwrap_or}
use Rattle.ir_text_tree.specs.declared.row.Part.TheVariants as parts
use Rattle.ir_text_tree.specs.declared.row.Span.{Span}
use Rattle.ir_text_tree.specs.Rows.{row}
use Rattle.ir_text_tree.specs.Trees.{ResultName, Body}
use Rattle.ir_text_names.specs.Rows.{piece}
use Rattle.ir_text_names.specs.Numbers.{number_in}
use Rattle.ir_text_meaning.specs.Parts.{Operation, result_parts, HasOperation, IsAmong}
use Rattle.ir_text_meaning.specs.Regions.{IsWithin}
use Rattle.ir_text_meaning.specs.Owners.{IsName, result_type_count}

-- how many parts a number behind a name is
abbrev pub mark_size : Option Span → ℕ
mark_size None = 0
mark_size (Some at) = 1

-- how many values stand under a name: what the number behind it says, 0 where that is no number, and 1 where none stands there
abbrev pub values_of : List ℕ → Option Span → ℕ
values_of text None = 1
values_of text (Some at) = unwrap_or (number_in (piece text at)) 0

-- how many values these results are
abbrev pub value_count : List ℕ → List ResultName → ℕ
value_count text [] = 0
value_count text (r ∷ rs) = values_of text r.count + value_count text rs

-- Part d is that result's name, and so many values stand in front of it; the first of these results begins with part n.
abbrev pub IsResultAt : List ℕ → List ResultName → ℕ → ℕ → ResultName → ℕ → Type 0
IsResultAt text [] n d r before = ⊥
IsResultAt text (x ∷ rs) n d r before = ((x ≡ r) × (n ≡ d) × (before ≡ 0)) ⊎ ((more : ℕ) × IsResultAt text rs (suc n + mark_size x.count) d r more × (before ≡ values_of text x.count + more))

-- Part i is the name of an operation that has not as many result types as values.
abbrev pub HasOtherResultsAt : List ℕ → Body → ℕ → Type 0
HasOtherResultsAt text b i = (name : IsName b i) × (value_count text name.owner.head.results ≢ result_type_count name.owner.tail.result_types)

-- Part i says how many values stand under a name, and is no decimal number, or 0.
pub record IsNoCountAt (text : List ℕ) (b : Body) (i : ℕ) : Type 0 where
  pub body : Body
  pub body_at : ℕ
  pub owner : Operation
  pub owner_at : ℕ
  pub said : Span
  pub in_tree : IsWithin body body_at b 0
  pub in_body : HasOperation body body_at owner owner_at
  pub is_count : IsAmong (result_parts owner.head) owner_at i (row parts.Count said)
  pub is_none : unwrap_or (number_in (piece text said)) 0 ≡ 0
