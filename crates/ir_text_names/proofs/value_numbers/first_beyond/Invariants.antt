use Rattle.std.proofs.Common.{None}
use Rattle.ir_text_names.specs.Firsts.{IsFirst}
use Rattle.ir_text_names.specs.Indices.{IsEntryBeyond}
use Rattle.ir_text_names.proofs.value_numbers.first_beyond.Given as goal

abbrev pub invariant-loop-at : goal.invariant-loop-at
invariant-loop-at l = IsFirst (IsEntryBeyond l.text l.rows l.table) l.at None
