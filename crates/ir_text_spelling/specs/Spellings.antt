-- The text of a tree's rows.
use Rattle.std.specs.Prelude.{ℕ, zero, ◌-◌, ◌++◌, List, [], ◌∷◌, map, take, drop, Option, Some, None}
use Rattle.ir_text_tree.specs.declared.row.Part.{Part}
use Rattle.ir_text_tree.specs.declared.row.Row.{Row}
use Rattle.ir_text_tree.specs.declared.row.Span.{Span}
use Rattle.ir_text_spelling.specs.Marks.{depth_behind, before, ending}

-- the piece of a text that a span names
abbrev pub piece : List ℕ → Span → List ℕ
piece text at = take (at.end - at.start) (drop at.start text)

-- The text of these rows, whose spans are pieces of a text and of which the first stands in so many open regions: each piece behind the marks that lead to it from the part before; at the end the marks that close the last.
unfoldable pub spelled : List ℕ → ℕ → Option Part → List Row → List ℕ
spelled text d last [] = ending last
spelled text d last (r ∷ rows) = before d last r.part ++ (piece text r.span ++ spelled text (depth_behind r.part d) (Some r.part) rows)

-- the text of all of these rows
abbrev pub rows_spelled : List ℕ → List Row → List ℕ
rows_spelled text rows = spelled text zero None rows

-- the parts of rows, each with its piece of a text
abbrev pub row_texts : List ℕ → List Row → List (Part × List ℕ)
row_texts text rows = map (λ (r : Row). (r.part, piece text r.span)) rows
