-- Rows and spans.
use Rattle.std.specs.Prelude.{ℕ, ◌<◌, ◌≤◌, List, [], ◌∷◌, map}
use Rattle.ir_text_tree.specs.declared.row.Part.{Part}
use Rattle.ir_text_tree.specs.declared.row.Row.{Row}
use Rattle.ir_text_tree.specs.declared.row.Span.{Span}
use Rattle.ir_text_tree.specs.declared.sort.Piece.{Piece}

-- the row with these parts
abbrev pub row : Part → Span → Row
row part span = record { part = part; span = span }

-- the span with these ends
abbrev pub span : ℕ → ℕ → Span
span start end = record { start = start; end = end }

-- the text with that token behind it
abbrev pub joined : Span → Span → Span
joined text token = span text.start token.end

-- The spans go forward from that index on up to this end: each has a byte at least, and begins where the one before it ends, or behind that.
unfoldable pub GoForward : ℕ → ℕ → List Span → Type 0
GoForward end at [] = at ≤ end
GoForward end at (x ∷ xs) = (at ≤ x.start) × (x.start < x.end) × GoForward end x.end xs

-- the spans of rows
abbrev pub row_spans : List Row → List Span
row_spans rows = map (λ (r : Row). r.span) rows

-- the spans of tokens
abbrev pub piece_spans : List Piece → List Span
piece_spans xs = map (λ (x : Piece). x.span) xs
