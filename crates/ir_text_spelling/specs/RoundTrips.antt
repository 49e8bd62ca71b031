-- Texts of one tree.
use Rattle.std.specs.Prelude.{◌≡◌, ℕ, List}
use Rattle.ir_text_tree.specs.Trees.{Body, IsWholeText, tree_rows}
use Rattle.ir_text_reader.specs.Texts.{SpellsTree}
use Rattle.ir_text_spelling.specs.Spellings.{row_texts}
use Rattle.ir_text_spelling.specs.TreeTexts.{tree_text}

-- This text spells a tree with the same parts as that one, which was read of another text, each the same piece; and the text of that tree is this text.
abbrev pub SpellsAgain : List ℕ → List ℕ → Body → Type 0
SpellsAgain out text b = (c : Body) × IsWholeText c × SpellsTree out c × (row_texts out (tree_rows c) ≡ row_texts text (tree_rows b)) × (tree_text out c ≡ out)
