use Rattle.std.proofs.Common.{◌≡◌, ◌+◌, ◌-◌, ◌≤◌, ◌++◌, ℕ, Some, length}
use Rattle.std.specs.Io.{StartsWith}
use Rattle.ir_text_tree.specs.declared.row.Span.{Span}
use Rattle.ir_text_pieces.specs.Pieces.{AreWritten, mark_of, numbered_piece, numbered_texts, written_count}
use Rattle.ir_text_pieces.proofs.numbered.Numbered.piece.Given as goal

abbrev pub invariant-loop-self : goal.invariant-loop-self
invariant-loop-self l = record {
  rows : l.to.rows ≡ l.fn.to.rows;
  front : StartsWith l.to.text.items l.fn.to.text.items;
  mark : mark_of l.self ≡ mark_of l.fn.self;
  kept : (k : ℕ) (s : Span) → numbered_piece l.fn.self k ≡ Some s → numbered_piece l.self k ≡ Some s;
  written : AreWritten l.fn.to.text.items l.fn.self → AreWritten l.to.text.items l.self;
  text : l.to.text.items ≡ l.fn.to.text.items ++ numbered_texts (mark_of l.fn.self) (written_count l.fn.self) (written_count l.self - written_count l.fn.self);
  least : written_count l.fn.self ≤ written_count l.self;
  most : written_count l.self - written_count l.fn.self ≤ l.number + 1 - written_count l.fn.self;
  once : (s : Span) → numbered_piece l.fn.self l.number ≡ Some s → (l.self ≡ l.fn.self) × (l.to ≡ l.fn.to);
}

abbrev pub decreases-loop-self : goal.decreases-loop-self
decreases-loop-self l = l.number + 1 - length l.self.spans.items
