-- Which of several values under one name an operand is.
use Rattle.std.specs.Prelude.{◌≡◌, ◌⊎◌, ℕ, suc, ◌+◌, ◌<◌, ◌^◌, List, [], ◌∷◌, drop, Option, Some, None}
use Rattle.ir_text_tree.specs.declared.row.Part.TheVariants as parts
use Rattle.ir_text_tree.specs.declared.row.Span.{Span}
use Rattle.ir_text_tree.specs.Rows.{row}
use Rattle.ir_text_tree.specs.Trees.{ResultName, Use, Label, Body}
use Rattle.ir_text_names.specs.Rows.{piece}
use Rattle.ir_text_names.specs.Numbers.{number_in}
use Rattle.ir_text_meaning.specs.Parts.{Operation, label_parts, named_size, HasOperation, HasLabel, IsAmong}
use Rattle.ir_text_meaning.specs.Regions.{IsWithin}
use Rattle.ir_text_meaning.specs.Meanings.{MeansValue}
use Rattle.ir_text_meaning.specs.Faults.{MeansValueAgain}
use Rattle.ir_text_meaning.specs.Numbered.{mark_size, values_of, IsResultAt}

-- which of the values under a name is meant, counted from 0: what the number behind the name says, if one stands there, without its mark
abbrev pub number_of_use : List ℕ → Option Span → Option ℕ
number_of_use text None = Some 0
number_of_use text (Some at) = number_in (drop 1 (piece text at))

-- Part u is that operand, and so many operands stand in front of it; the first of these operands begins with part n.
abbrev pub IsUseAt : List Use → ℕ → ℕ → Use → ℕ → Type 0
IsUseAt [] n u w place = ⊥
IsUseAt (v ∷ us) n u w place = ((v ≡ w) × (n ≡ u) × (place ≡ 0)) ⊎ ((more : ℕ) × IsUseAt us (suc n + mark_size v.index) u w more × (place ≡ suc more))

-- Part u is an operand of the tree, and this one.
abbrev pub IsUseIn : Body → ℕ → Use → Type 0
IsUseIn b u w = (c : Body) × (n : ℕ) × (o : Operation) × (k : ℕ) × (place : ℕ) × IsWithin c n b 0 × HasOperation c n o k × IsUseAt o.head.operands (k + named_size o.head) u w place

-- Part d defines so many values: those under a result's name, or one argument.
abbrev pub DefinesValues : List ℕ → Body → ℕ → ℕ → Type 0
DefinesValues text b d size =
    ((c : Body) × (n : ℕ) × (o : Operation) × (k : ℕ) × (r : ResultName) × (before : ℕ) × IsWithin c n b 0 × HasOperation c n o k × IsResultAt text o.head.results k d r before × (size ≡ values_of text r.count))
    ⊎ ((c : Body) × (n : ℕ) × (l : Label) × (k : ℕ) × (name : Span) × IsWithin c n b 0 × HasLabel c n l k × IsAmong (label_parts l) k d (row parts.Argument name) × (size ≡ 1))

-- The operand's number is one of the values that part d defines; a number that a machine's word can't hold is none.
abbrev pub IsOneOfThose : List ℕ → Body → ℕ → ℕ → Type 0
IsOneOfThose text b u d = (w : Use) × (k : ℕ) × (size : ℕ) × IsUseIn b u w × (number_of_use text w.index ≡ Some k) × (k < 2 ^ 64) × DefinesValues text b d size × (k < size)

-- no value of the tree is defined again
abbrev pub IsNoneAgain : List ℕ → Body → Type 0
IsNoneAgain text b = (i j : ℕ) → ¬ MeansValueAgain text b i j

-- No value of the tree is defined again, and the operand names a definition, but its number is none of the values there.
abbrev pub IsBeyondThose : List ℕ → Body → ℕ → Type 0
IsBeyondThose text b u = IsNoneAgain text b × ((d : ℕ) × MeansValue text b u d × ¬ IsOneOfThose text b u d)
