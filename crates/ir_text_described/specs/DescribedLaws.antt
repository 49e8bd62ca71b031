-- What is known of operations that a tree describes.
use Rattle.std.specs.Prelude.{◌≡◌, ℕ, ◌<◌, Bool, List, length, Option, Some}
use Rattle.ir_model.specs.declared.ids.ArenaIndex.{ArenaIndex}
use Rattle.ir_model.specs.ContextIds.{context_ids}
use Rattle.ir_model.specs.Forest.{Dialect, Forest}
use Rattle.ir_text_tree.specs.declared.row.Part.TheVariants as parts
use Rattle.ir_text_tree.specs.declared.row.Row.{Row}
use Rattle.ir_text_names.specs.Blocks.{IsBlockAgain, IsBlockNamed}
use Rattle.ir_text_names.specs.Values.{IsDefinition, IsValueAgain, IsValueNamed}
use Rattle.ir_text_described.specs.Words.{Words}
use Rattle.ir_text_described.specs.Trees.{NamedTree, part_at}
use Rattle.ir_text_described.specs.Described.{IsDescribedBy}
use Rattle.ir_text_described.specs.Alike.{AreAlike}

-- What the rows of the tree name is defined in it: a value by the name of a result or an argument, a block by its label.
pub record NamesAreDefined (t : NamedTree) : Type 0 where
  pub values : (u d : ℕ) → u < length t.rows → t.value_named u ≡ Some d → IsDefinition t.rows d
  pub blocks : (u l : ℕ) → u < length t.rows → t.block_named u ≡ Some l → part_at t l ≡ parts.Label

-- Each row of the tree names what a name with its text means there.
pub record NamesAreMeant (t : NamedTree) : Type 0 where
  pub values : (u : ℕ) → u < length t.rows → IsValueNamed t.text t.rows u (t.value_named u)
  pub blocks : (u : ℕ) → u < length t.rows → IsBlockNamed t.text t.rows u (t.block_named u)

-- No name of a value is defined again where it is one already, and no block's name is given again in its region.
pub record NamesAreGivenOnce (text : List ℕ) (rows : List Row) : Type 0 where
  pub values : (k : ℕ) → k < length rows → ¬ IsValueAgain text rows k
  pub blocks : (k : ℕ) → k < length rows → ¬ IsBlockAgain text rows k

-- where names are meant, they are defined
abbrev pub MeantAreDefined : Type 0
MeantAreDefined = (t : NamedTree) → NamesAreMeant t → NamesAreDefined t

-- a tree with what these tables say of its names
abbrev pub told_tree : List ℕ → List Row → (ℕ → Option ℕ) → (ℕ → Option ℕ) → NamedTree
told_tree text rows blocks values = record { text = text; rows = rows; block_named = blocks; value_named = values }

module _ (W V : Dialect) where
  -- what one tree describes in two forests is alike in all but ids and numbers
  abbrev pub DescribedAlike : Type 0
  DescribedAlike = (f : Forest context_ids W) (g : Forest context_ids V) (words : Words W) (words' : Words V) (located : Bool) (tree : NamedTree) (operations operations' : List ArenaIndex)
      → NamesAreDefined tree → IsDescribedBy f words located tree operations → IsDescribedBy g words' located tree operations' → AreAlike f g operations operations' words words' located

  -- so is what the rows of one text describe, by whatever tables their names are told, where no name is given again
  abbrev pub MeantAlike : Type 0
  MeantAlike = (f : Forest context_ids W) (g : Forest context_ids V) (words : Words W) (words' : Words V) (located : Bool) (text : List ℕ) (rows : List Row) (blocks values blocks' values' : ℕ → Option ℕ) (operations operations' : List ArenaIndex)
      → NamesAreGivenOnce text rows → NamesAreMeant (told_tree text rows blocks values) → NamesAreMeant (told_tree text rows blocks' values')
      → IsDescribedBy f words located (told_tree text rows blocks values) operations → IsDescribedBy g words' located (told_tree text rows blocks' values') operations'
      → AreAlike f g operations operations' words words' located
