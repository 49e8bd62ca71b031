-- All that can be wrong with the names, numbers and types in a tree.
use Rattle.std.specs.Prelude.{◌⊎◌, ℕ, List}
use Rattle.ir_text_tree.specs.Trees.{Body}
use Rattle.ir_text_names.specs.declared.fault.Wrong.{Wrong}
use Rattle.ir_text_names.specs.declared.fault.Wrong.TheVariants as wrongs
use Rattle.ir_text_meaning.specs.Faults.{MeansValueAgain, MeansBlockAgain, MeansNoValue, MeansNoBlock}
use Rattle.ir_text_meaning.specs.Meanings.{MeansKeyAgain}
use Rattle.ir_text_meaning.specs.Numbered.{HasOtherResultsAt, IsNoCountAt}
use Rattle.ir_text_meaning.specs.Owners.{HasOtherTypesAt}
use Rattle.ir_text_meaning.specs.Values.{IsBeyondThose}
use Rattle.ir_text_meaning.specs.ValueTypes.{IsTypeOtherAt}

-- Part i of the tree has that fault: a name is given again or means nothing, a number is none or of no value, there are other numbers of types, or types differ.
abbrev pub IsFaultAt : List ℕ → Body → Wrong → ℕ → Type 0
IsFaultAt text b wrongs.BlockTwice i = (j : ℕ) × MeansBlockAgain text b i j
IsFaultAt text b wrongs.UnknownBlock i = MeansNoBlock text b i
IsFaultAt text b wrongs.KeyTwice i = (j : ℕ) × MeansKeyAgain text b i j
IsFaultAt text b wrongs.OperandTypes i = HasOtherTypesAt b i
IsFaultAt text b wrongs.ResultCount i = IsNoCountAt text b i
IsFaultAt text b wrongs.ResultTypes i = HasOtherResultsAt text b i
IsFaultAt text b wrongs.ValueTwice i = (j : ℕ) × MeansValueAgain text b i j
IsFaultAt text b wrongs.UnknownValue i = MeansNoValue text b i ⊎ IsBeyondThose text b i
IsFaultAt text b wrongs.TypeOther i = IsTypeOtherAt text b i

-- No part of the tree has such a fault.
abbrev pub IsWellNamed : List ℕ → Body → Type 0
IsWellNamed text b = (v : Wrong) (i : ℕ) → ¬ IsFaultAt text b v i
