use Rattle.std.proofs.Common.{◌≡◌, ℕ, ◌<◌, slice_index_or}
use Rattle.ir_text_names.specs.Rows.{no_row}
use Rattle.ir_text_outline.proofs.reading.are_same.Given as goal

abbrev pub invariant-loop-at : goal.invariant-loop-at
invariant-loop-at l = (i : ℕ) → i < l.at → slice_index_or l.one i no_row ≡ slice_index_or l.other i no_row
