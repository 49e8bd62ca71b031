-- What is read of a text.
use Rattle.std.specs.Prelude.{◌≡◌, ℕ, ◌≤◌, List, length}
use Rattle.ir_text_tree.specs.declared.row.Row.{Row}
use Rattle.ir_text_tree.specs.Trees.{Body, IsWholeText, tree_rows}
use Rattle.ir_text_reader.specs.Texts.{SpellsTree}
use Rattle.ir_text_names.specs.declared.resolving.Names.{Names}
use Rattle.ir_text_names.specs.Blocks.{AreBlocksNamed}
use Rattle.ir_text_names.specs.Firsts.{HasNone}
use Rattle.ir_text_names.specs.Resolved.{IsWrong}
use Rattle.ir_text_names.specs.Values.{AreValuesNamed}

-- The text isn't too long, and spells a tree that has these rows.
pub record AreRows (text : List ℕ) (rows : List Row) : Type 0 where
  pub short : length text ≤ 4294967295
  pub tree : Body
  pub whole : IsWholeText tree
  pub spelled : SpellsTree text tree
  pub has_rows : rows ≡ tree_rows tree

-- The text is read as these rows, and as no others.
pub record AreTheRows (text : List ℕ) (rows : List Row) : Type 0 where
  pub rows_are : AreRows text rows
  pub no_others : (others : List Row) → AreRows text others → others ≡ rows

-- the text is too long, or spells no tree
abbrev pub IsUnread : List ℕ → Type 0
IsUnread text = (rows : List Row) → AreRows text rows → ⊥

-- None of the names is wrong, and these tables tell what each means.
pub record AreNamed (text : List ℕ) (rows : List Row) (names : Names) : Type 0 where
  pub right : HasNone (IsWrong text rows) (length rows)
  pub blocks : AreBlocksNamed text rows (length rows) names.blocks
  pub values : AreValuesNamed text rows (length rows) names.values

-- The text is read as these rows, and its names mean what these tables tell.
pub record IsRead (text : List ℕ) (rows : List Row) (names : Names) : Type 0 where
  pub rows_are : AreRows text rows
  pub named : AreNamed text rows names
