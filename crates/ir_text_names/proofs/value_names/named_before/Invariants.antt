use Rattle.std.proofs.Common.{◌≡◌, ℕ, ◌≤◌, length, get_or, None}
use Rattle.ir_text_names.specs.Firsts.{IsFirst}
use Rattle.ir_text_names.specs.NamedRows.{named_row}
use Rattle.ir_text_names.specs.Values.{IsMissing, IsValueAgain, AreNamedBefore}
use Rattle.ir_text_names.proofs.ValuesBefore.{AreLast, AreEnds}
use Rattle.ir_text_names.proofs.value_names.named_before.Given as goal

abbrev pub invariant-loop-at : goal.invariant-loop-at
invariant-loop-at l = record {
  limit : l.last.limit ≤ 4294967295;
  last : AreLast l.text l.rows l.at (named_row l.last);
  long : length l.ends ≡ length l.rows;
  ends : AreEnds l.rows l.at (λ (s : ℕ). get_or l.ends s None);
  table : AreNamedBefore l.text l.rows l.at l.table;
  again : IsFirst (IsValueAgain l.text l.rows) l.at l.again;
  missing : IsFirst (IsMissing l.rows l.table) l.at l.missing;
}
