-- Which pieces of a text are written.
use Rattle.std.specs.Prelude.{◌≡◌, ℕ, ◌≤◌, ◌++◌, ◌∷◌, [], List, length, decimal, codes, Option, Some, None, slice_get, slice_range}
use Rattle.std.specs.List.{flat_map, range_with_len}
use Rattle.ir_text_tree.specs.declared.row.Span.{Span}
use Rattle.ir_text_tree.specs.declared.row.Part.{Part}
use Rattle.ir_text_tree.specs.declared.row.Part.TheVariants as parts
use Rattle.ir_text_tree.specs.Rows.{row}
use Rattle.ir_text_pieces.specs.declared.description.Description.{Description}
use Rattle.ir_text_pieces.specs.declared.names.Name.{Name}
use Rattle.ir_text_pieces.specs.declared.names.NameSort.{NameSort}
use Rattle.ir_text_pieces.specs.declared.names.NameSort.TheVariants as sorts
use Rattle.ir_text_pieces.specs.declared.writer.TreeWriter.{TreeWriter}
use Rattle.ir_text_pieces.specs.declared.numbered.Numbered.{Numbered}

-- the span lies in the text, and the text has this piece there
abbrev pub IsPiece : List ℕ → Span → List ℕ → Type 0
IsPiece text s piece = (s.start ≤ s.end) × (s.end ≤ length text) × (slice_range text s.start s.end ≡ piece)

-- what stands before the number in each of the pieces
abbrev pub mark_of : Numbered → List ℕ
mark_of n = n.mark.now

-- the piece with this number, if it is written
abbrev pub numbered_piece : Numbered → ℕ → Option Span
numbered_piece n k = slice_get n.spans.items k

-- how many pieces are written: those with the numbers below
abbrev pub written_count : Numbered → ℕ
written_count n = length n.spans.items

-- the pieces with so many numbers from that one on, one behind another
abbrev pub numbered_texts : List ℕ → ℕ → ℕ → List ℕ
numbered_texts mark from count = flat_map (λ k. mark ++ decimal k) (range_with_len from count)

-- In this text each of the pieces that are written is the mark, and its number behind it.
pub record AreWritten (text : List ℕ) (n : Numbered) : Type 0 where
  pub pieces : (k : ℕ) (s : Span) → numbered_piece n k ≡ Some s → IsPiece text s (mark_of n ++ decimal k)

-- what stands before the number in the name of a value
abbrev pub value_mark : NameSort → List ℕ
value_mark sorts.Argument = codes "%arg"
value_mark sorts.Plain = codes "%"
value_mark sorts.Outside = codes "%outside"

-- what stands before the number in the name of a block
abbrev pub block_mark : NameSort → List ℕ
block_mark sorts.Outside = codes "^outside"
block_mark _ = codes "^bb"

-- the name of a value as it is written, without which of several results it is
abbrev pub value_text : Name → List ℕ
value_text x = value_mark x.sort ++ decimal x.number

-- the name of a block as it is written
abbrev pub block_text : Name → List ℕ
block_text x = block_mark x.sort ++ decimal x.number

-- These pieces have this mark, and each of them that is written stands in the text.
pub record AreMarked (text : List ℕ) (sign : List ℕ) (n : Numbered) : Type 0 where
  pub mark : mark_of n ≡ sign
  pub written : AreWritten text n

-- The pieces that the writer keeps to put them again stand in its text: the names of values and blocks, the numbers of results, and the two braces.
pub record PiecesStand (w : TreeWriter) : Type 0 where
  pub arguments : AreMarked w.description.text.items (value_mark sorts.Argument) w.arguments
  pub values : AreMarked w.description.text.items (value_mark sorts.Plain) w.values
  pub outside_values : AreMarked w.description.text.items (value_mark sorts.Outside) w.outside_values
  pub blocks : AreMarked w.description.text.items (block_mark sorts.Plain) w.blocks
  pub outside_blocks : AreMarked w.description.text.items (block_mark sorts.Outside) w.outside_blocks
  pub indices : AreMarked w.description.text.items (codes "#") w.indices
  pub opening : IsPiece w.description.text.items w.braces.0 (codes "{")
  pub closing : IsPiece w.description.text.items w.braces.1 (codes "}")

-- One row more stands behind the others. It is such a part, and this piece of the text.
abbrev pub PutsPiece : Part → List ℕ → Description → Description → Type 0
PutsPiece part piece old new = (s : Span) × (new.rows.items ≡ old.rows.items ++ row part s ∷ []) × IsPiece new.text.items s piece

-- Two rows more stand behind the others. They are such parts, and these pieces of the text.
abbrev pub PutsTwoPieces : Part → List ℕ → Part → List ℕ → Description → Description → Type 0
PutsTwoPieces first one second two old new = (s : Span) × (t : Span) × (new.rows.items ≡ old.rows.items ++ row first s ∷ row second t ∷ []) × IsPiece new.text.items s one × IsPiece new.text.items t two

-- A value with this name is put as an operand. The name stands alone, or with which of several results the value is behind it.
abbrev pub PutsOperand : Name → Option ℕ → Description → Description → Type 0
PutsOperand x None old new = PutsPiece parts.Operand (value_text x) old new
PutsOperand x (Some i) old new = PutsTwoPieces parts.Operand (value_text x) parts.Index (codes "#" ++ decimal i) old new
