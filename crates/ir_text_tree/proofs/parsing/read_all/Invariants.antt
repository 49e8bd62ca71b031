use Rattle.std.proofs.Common.{◌≡◌, ◌≤◌, drop, reverse}
use Rattle.ir_text_tree.specs.Parsings.{behind_rows, parsing_from, rows_read}
use Rattle.ir_text_tree.proofs.parsing.read_all.Given as goal

abbrev pub invariant-loop-piece : goal.invariant-loop-piece
invariant-loop-piece l = record {
  reads : behind_rows l.rows.items (parsing_from l.end l.state (reverse l.brackets.items) (drop l.piece-index l.pieces)) ≡ rows_read l.end l.pieces;
  shallow : l.state.depth ≤ l.piece-index;
}
