-- Texts that are spelled again, and what is written for them.
use Rattle.std.specs.Prelude.{ℕ, ◌⊎◌, List, length, Option}
use Rattle.std.specs.Io.KnownBytes.{Keeps, Appends}
use Rattle.ir_text_tree.specs.Trees.{Body, IsWholeText, tree_rows}
use Rattle.ir_text_reader.specs.Texts.{SpellsTree}
use Rattle.ir_text_names.specs.Firsts.{HasNone}
use Rattle.ir_text_names.specs.Resolved.{IsWrong}
use Rattle.ir_text_spelling.specs.TreeTexts.{tree_text}
use Rattle.ir_text_spelling.specs.Writings.{AppendsFront}

-- the text spells the tree
abbrev pub IsTreeOf : List ℕ → Body → Type 0
IsTreeOf text b = IsWholeText b × SpellsTree text b

-- The text spells the tree, and none of its names is wrong.
abbrev pub IsRight : List ℕ → Body → Type 0
IsRight text b = IsTreeOf text b × HasNone (IsWrong text (tree_rows b)) (length (tree_rows b))

-- The text spells a tree none of whose names is wrong, and the known bytes grew by the text of that tree.
abbrev pub Respells : List ℕ → Option (List ℕ) → Option (List ℕ) → Type 0
Respells text old new = (b : Body) × IsRight text b × Appends old new (tree_text text b)

-- The same, or the known bytes stayed.
abbrev pub RespellsOrKeeps : List ℕ → Option (List ℕ) → Option (List ℕ) → Type 0
RespellsOrKeeps text old new = Respells text old new ⊎ Keeps old new

-- The text spells a tree none of whose names is wrong, and the known bytes grew by a front part of the text of that tree.
abbrev pub RespellsFront : List ℕ → Option (List ℕ) → Option (List ℕ) → Type 0
RespellsFront text old new = (b : Body) × IsRight text b × AppendsFront old new (tree_text text b)
