-- When a tree describes operations of a forest.
use Rattle.std.specs.Prelude.{Bool, List, map}
use Rattle.ir_model.specs.declared.ids.ArenaIndex.{ArenaIndex}
use Rattle.ir_model.specs.ContextIds.{context_ids}
use Rattle.ir_model.specs.Forest.{Dialect, Forest}
use Rattle.ir_text_described.specs.declared.item.Item.TheVariants as items
use Rattle.ir_text_described.specs.Words.{Words}
use Rattle.ir_text_described.specs.Trees.{NamedTree, Meanings}
use Rattle.ir_text_described.specs.Written.{AreWritten}

-- These operations of the forest, in their order and with all that is inside them, are what the tree says: for some meaning of the rows that define values and begin blocks, they are written as its rows.
pub record IsDescribedBy {W : Dialect} (f : Forest context_ids W) (words : Words W) (located : Bool) (tree : NamedTree) (operations : List ArenaIndex) : Type 0 where
  pub meanings : Meanings
  pub written : AreWritten (record { forest = f; words = words; located = located; tree = tree; meanings = meanings }) (map items.Op operations) 0
