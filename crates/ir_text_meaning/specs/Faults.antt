-- What is wrong with the names in a tree.
use Rattle.std.specs.Prelude.{◌≡◌, ◌⊎◌, ℕ, ◌<◌, List}
use Rattle.ir_text_tree.specs.declared.row.Span.{Span}
use Rattle.ir_text_tree.specs.Trees.{Body}
use Rattle.ir_text_names.specs.declared.fault.Wrong.{Wrong}
use Rattle.ir_text_names.specs.declared.fault.Wrong.TheVariants as wrongs
use Rattle.ir_text_names.specs.Rows.{piece}
use Rattle.ir_text_meaning.specs.Regions.{IsWithin}
use Rattle.ir_text_meaning.specs.Meanings.{HasDefinition, HasOperand, HasSuccessor, HasBlock, MeansValue, MeansBlock, MeansKeyAgain}

-- Part i defines a value, and part j, which stands before it, defines one of its name in the same region, in one around that or in one in it.
pub record MeansValueAgain (text : List ℕ) (b : Body) (i j : ℕ) : Type 0 where
  pub body : Body
  pub body_at : ℕ
  pub other : Body
  pub other_at : ℕ
  pub later : Span
  pub earlier : Span
  pub in_tree : IsWithin body body_at b 0
  pub other_in_tree : IsWithin other other_at b 0
  pub around : IsWithin body body_at other other_at ⊎ IsWithin other other_at body body_at
  pub is_later : HasDefinition body body_at i later
  pub is_earlier : HasDefinition other other_at j earlier
  pub before : j < i
  pub same : piece text earlier ≡ piece text later

-- With part i a block begins, and with part j, which stands before it, one of its name in the same region.
pub record MeansBlockAgain (text : List ℕ) (b : Body) (i j : ℕ) : Type 0 where
  pub body : Body
  pub body_at : ℕ
  pub later : Span
  pub earlier : Span
  pub in_tree : IsWithin body body_at b 0
  pub is_later : HasBlock body body_at i later
  pub is_earlier : HasBlock body body_at j earlier
  pub before : j < i
  pub same : piece text earlier ≡ piece text later

-- part u is an operand
abbrev pub IsOperandIn : Body → ℕ → Type 0
IsOperandIn b u = (c : Body) × (n : ℕ) × (name : Span) × IsWithin c n b 0 × HasOperand c n u name

-- part s is a successor
abbrev pub IsSuccessorIn : Body → ℕ → Type 0
IsSuccessorIn b s = (c : Body) × (n : ℕ) × (name : Span) × IsWithin c n b 0 × HasSuccessor c n s name

-- the part is an operand and names no value
abbrev pub MeansNoValue : List ℕ → Body → ℕ → Type 0
MeansNoValue text b u = IsOperandIn b u × ((d : ℕ) → ¬ MeansValue text b u d)

-- the part is a successor and names no block
abbrev pub MeansNoBlock : List ℕ → Body → ℕ → Type 0
MeansNoBlock text b s = IsSuccessorIn b s × ((l : ℕ) → ¬ MeansBlock text b s l)

-- the faults of names: a part is given again, or names nothing
abbrev pub IsNameFault : List ℕ → Body → Wrong → ℕ → Type 0
IsNameFault text b wrongs.BlockTwice i = (j : ℕ) × MeansBlockAgain text b i j
IsNameFault text b wrongs.UnknownBlock i = MeansNoBlock text b i
IsNameFault text b wrongs.KeyTwice i = (j : ℕ) × MeansKeyAgain text b i j
IsNameFault text b wrongs.ValueTwice i = (j : ℕ) × MeansValueAgain text b i j
IsNameFault text b wrongs.UnknownValue i = MeansNoValue text b i
IsNameFault text b _ i = ⊥

-- No name in the tree is given again where it may not, and each names something.
abbrev pub AreNamesGood : List ℕ → Body → Type 0
AreNamesGood text b = (v : Wrong) (i : ℕ) → ¬ IsNameFault text b v i
