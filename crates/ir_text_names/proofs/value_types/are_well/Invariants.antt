use Rattle.std.proofs.Common.{None}
use Rattle.ir_text_names.specs.Firsts.{IsFirst}
use Rattle.ir_text_names.specs.Indices.{IsEntryBeyond}
use Rattle.ir_text_names.specs.Types.{IsEntryOther}
use Rattle.ir_text_names.proofs.value_types.are_well.Given as goal

abbrev pub invariant-loop-at : goal.invariant-loop-at
invariant-loop-at l = record {
  numbers : IsFirst (IsEntryBeyond l.tables.text.now l.tables.rows.now l.table) l.at None;
  types : IsFirst (IsEntryOther l.tables.text.now l.tables.rows.now l.table) l.at None;
}
