-- The types of operands, and of the values that they name.
use Rattle.std.specs.Prelude.{◌≡◌, ◌≢◌, ◌⊎◌, ℕ, zero, suc, ◌+◌, ◌<◌, ◌^◌, List, [], ◌∷◌, Some}
use Rattle.ir_text_tree.specs.declared.row.Part.TheVariants as parts
use Rattle.ir_text_tree.specs.declared.row.Span.{Span}
use Rattle.ir_text_tree.specs.declared.text_step.TextKind.{TextKind}
use Rattle.ir_text_tree.specs.Rows.{row}
use Rattle.ir_text_tree.specs.Trees.{Text, text_span, bare_span, ResultName, ResultTypes, bare, listed, Use, Label, Body}
use Rattle.ir_text_names.specs.Rows.{piece}
use Rattle.ir_text_meaning.specs.Parts.{Operation, label_parts, named_size, HasOperation, HasLabel, IsAmong}
use Rattle.ir_text_meaning.specs.Regions.{IsWithin}
use Rattle.ir_text_meaning.specs.Meanings.{MeansValue}
use Rattle.ir_text_meaning.specs.Numbered.{IsResultAt}
use Rattle.ir_text_meaning.specs.Values.{number_of_use, IsUseAt, IsUseIn, IsNoneAgain}

-- where the type with that number among these stands, counted from 0
abbrev pub IsNth : {k : TextKind} → List (Text k) → ℕ → Span → Type 0
IsNth [] p s = ⊥
IsNth (t ∷ ts) zero s = text_span t ≡ s
IsNth (t ∷ ts) (suc p) s = IsNth ts p s

abbrev pub IsNthResult : ResultTypes → ℕ → Span → Type 0
IsNthResult (bare name is_name group) p s = (p ≡ 0) × (bare_span name.span group ≡ s)
IsNthResult (listed ts) p s = IsNth ts p s

-- There stands the type of operand u: its operation has as many operand types before it as operands before the operand.
abbrev pub IsTypeOfUse : Body → ℕ → Span → Type 0
IsTypeOfUse b u s = (c : Body) × (n : ℕ) × (o : Operation) × (k : ℕ) × (w : Use) × (place : ℕ) × IsWithin c n b 0 × HasOperation c n o k × IsUseAt o.head.operands (k + named_size o.head) u w place × IsNth o.tail.operand_types place s

-- There stands the type of the value with number q under the name that part d gives: as many result types stand before it as values, up to what a machine's word can hold; an argument's stands behind its name.
abbrev pub IsTypeOfValue : List ℕ → Body → ℕ → ℕ → Span → Type 0
IsTypeOfValue text b d q s =
    ((c : Body) × (n : ℕ) × (o : Operation) × (k : ℕ) × (r : ResultName) × (before : ℕ) × IsWithin c n b 0 × HasOperation c n o k × IsResultAt text o.head.results k d r before × (before + q < 2 ^ 64) × IsNthResult o.tail.result_types (before + q) s)
    ⊎ ((c : Body) × (n : ℕ) × (l : Label) × (k : ℕ) × (name : Span) × IsWithin c n b 0 × HasLabel c n l k × IsAmong (label_parts l) k d (row parts.Argument name) × IsAmong (label_parts l) k (d + 1) (row parts.ArgumentType s))

-- The type of operand u is another text than that of the value that it is under the name that part d gives.
abbrev pub HasOtherTypeThere : List ℕ → Body → ℕ → ℕ → Type 0
HasOtherTypeThere text b u d = (w : Use) × (q : ℕ) × (s : Span) × (t : Span) × IsUseIn b u w × (number_of_use text w.index ≡ Some q) × (q < 2 ^ 64) × IsTypeOfValue text b d q s × IsTypeOfUse b u t × (piece text t ≢ piece text s)

-- No value of the tree is defined again, and the operand has another type than the value that it names.
abbrev pub IsTypeOtherAt : List ℕ → Body → ℕ → Type 0
IsTypeOtherAt text b u = IsNoneAgain text b × ((d : ℕ) × MeansValue text b u d × HasOtherTypeThere text b u d)
