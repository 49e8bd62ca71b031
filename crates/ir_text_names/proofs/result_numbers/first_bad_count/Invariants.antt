use Rattle.std.proofs.Common.{None}
use Rattle.ir_text_names.specs.Firsts.{IsFirst}
use Rattle.ir_text_names.specs.Numbers.{IsNoCount}
use Rattle.ir_text_names.proofs.result_numbers.first_bad_count.Given as goal

abbrev pub invariant-loop-at : goal.invariant-loop-at
invariant-loop-at l = IsFirst (IsNoCount l.text l.rows) l.at None
