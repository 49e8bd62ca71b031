use Rattle.std.proofs.Common.{◌≡◌, ℕ, ◌<◌, ◌≤◌, length, get_or, None}
use Rattle.ir_text_names.specs.NamedRows.{named_row}
use Rattle.ir_text_names.specs.Values.{IsNamedBefore, IsNamedUnlessAgain}
use Rattle.ir_text_names.proofs.ValuesBehind.{AreWidest}
use Rattle.ir_text_names.proofs.value_names.named_behind.Given as goal

abbrev pub decreases-loop-at : goal.decreases-loop-at
decreases-loop-at l = l.at

abbrev pub invariant-loop-at : goal.invariant-loop-at
invariant-loop-at l = record {
  within : l.at ≤ length l.rows;
  limit : l.widest.limit ≤ 4294967295;
  room : length l.table ≡ length l.rows;
  widest : AreWidest l.text l.rows l.at (named_row l.widest);
  rest : (u : ℕ) → u < l.at → IsNamedBefore l.text l.rows u (get_or l.table u None);
  table : (u : ℕ) → l.at ≤ u → u < length l.rows → IsNamedUnlessAgain l.text l.rows u (get_or l.table u None);
}
