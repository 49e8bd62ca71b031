use Rattle.ir_text_names.specs.Firsts.{IsFirst}
use Rattle.ir_text_names.specs.Values.{IsMissing}
use Rattle.ir_text_names.proofs.value_names.first_missing.Given as goal

abbrev pub invariant-loop-at : goal.invariant-loop-at
invariant-loop-at l = IsFirst (IsMissing l.rows l.table) l.at l.missing
