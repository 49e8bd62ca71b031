-- What is put behind the rows of a tree, and which names and types have pieces.
use Rattle.std.specs.Prelude.{◌≡◌, ℕ, nat_eq, List, [], ◌∷◌, ◌++◌, Option}
use Rattle.std.specs.HashMap.{get_by}
use Rattle.ir_text_tree.specs.declared.row.Part.{Part}
use Rattle.ir_text_tree.specs.declared.row.Row.{Row}
use Rattle.ir_text_tree.specs.declared.row.Span.{Span}
use Rattle.ir_text_tree.specs.Rows.{row}
use Rattle.ir_text_pieces.specs.declared.writer.TreeWriter.{TreeWriter}
use Rattle.ir_text_pieces.specs.declared.writer.TypePiece.{TypePiece}

-- one row more stands behind the others, and is such a part
abbrev pub PutsRow : Part → List Row → List Row → Type 0
PutsRow part old new = (s : Span) × (new ≡ old ++ row part s ∷ [])

-- two rows more stand behind the others, and are such parts
abbrev pub PutsTwoRows : Part → Part → List Row → List Row → Type 0
PutsTwoRows first second old new = (s : Span) × (t : Span) × (new ≡ old ++ row first s ∷ row second t ∷ [])

-- the piece that the name of operations of this kind is, if it was written
abbrev pub name_piece : TreeWriter → ℕ → Option Span
name_piece w kind = get_by (nat_eq kind) w.operation_names

-- the piece that the type at this place is, if it was written
abbrev pub type_piece : TreeWriter → ℕ → Option TypePiece
type_piece w place = get_by (nat_eq place) w.types

-- No name of operations and no type is written or lost.
abbrev pub SamePieces : TreeWriter → TreeWriter → Type 0
SamePieces old new = ((kind : ℕ) → name_piece new kind ≡ name_piece old kind) × ((place : ℕ) → type_piece new place ≡ type_piece old place)
