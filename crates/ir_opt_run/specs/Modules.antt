-- Texts that say what stands in a forest.
use Rattle.std.specs.Prelude.{◌≡◌, ℕ, ◌<◌, Bool, List, length, Option}
use Rattle.ir_model.specs.declared.ids.ArenaIndex.{ArenaIndex}
use Rattle.ir_model.specs.ContextIds.{context_ids}
use Rattle.ir_model.specs.Forest.{Dialect, Entity, Forest}
use Rattle.ir_model.specs.Nesting.{Inside, IsLive}
use Rattle.ir_text_tree.specs.declared.row.Row.{Row}
use Rattle.ir_text_tree.specs.Trees.{Body, tree_rows}
use Rattle.ir_text_names.specs.Blocks.{IsBlockNamed}
use Rattle.ir_text_names.specs.Values.{IsValueNamed}
use Rattle.ir_text_run.specs.Respellings.{IsRight}
use Rattle.ir_text_described.specs.Words.{Words}
use Rattle.ir_text_described.specs.Trees.{NamedTree}
use Rattle.ir_text_described.specs.Described.{IsDescribedBy}

-- the tree of a text, with what its names mean
abbrev pub tree_of : List ℕ → Body → (ℕ → Option ℕ) → (ℕ → Option ℕ) → NamedTree
tree_of text b blocks values = record { text = text; rows = tree_rows b; block_named = blocks; value_named = values }

module _ {W : Dialect} where
  -- The text spells a tree none of whose names is wrong, and by what its names mean the tree describes these operations of the forest.
  pub record Says (f : Forest context_ids W) (words : Words W) (located : Bool) (text : List ℕ) (operations : List ArenaIndex) : Type 0 where
    pub tree : Body
    pub is_right : IsRight text tree
    pub block_named : ℕ → Option ℕ
    pub value_named : ℕ → Option ℕ
    pub blocks : (u : ℕ) → u < length (tree_rows tree) → IsBlockNamed text (tree_rows tree) u (block_named u)
    pub values : (u : ℕ) → u < length (tree_rows tree) → IsValueNamed text (tree_rows tree) u (value_named u)
    pub described : IsDescribedBy f words located (tree_of text tree block_named value_named) operations

  -- all that is live stands inside the entity
  abbrev pub HasOnly : Forest context_ids W → Entity context_ids → Type 0
  HasOnly f e = (x : Entity context_ids) → IsLive f x → Inside f e x

-- The rows are those of a tree that the text spells, none of whose names is wrong, and these tables tell what its names mean.
pub record IsReadAs (text : List ℕ) (rows : List Row) (block_named value_named : ℕ → Option ℕ) : Type 0 where
  pub tree : Body
  pub is_right : IsRight text tree
  pub has_rows : rows ≡ tree_rows tree
  pub blocks : (u : ℕ) → u < length rows → IsBlockNamed text rows u (block_named u)
  pub values : (u : ℕ) → u < length rows → IsValueNamed text rows u (value_named u)
