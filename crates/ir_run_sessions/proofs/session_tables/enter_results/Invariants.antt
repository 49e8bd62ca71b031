use Rattle.std.proofs.Common.{◌≡◌, ◌+◌, ◌++◌, length, map, take, vec_len, vec_capacity}
use Rattle.ir_model.specs.Forest.{of_op}
use Rattle.ir_model.specs.Edits.{numbered}
use Rattle.ir_core_records.specs.Meaning.{op_index, op_record, value_of}
use Rattle.ir_run_sessions.proofs.session_tables.enter_results.Given as goal

abbrev pub invariant-loop-index : goal.invariant-loop-index
invariant-loop-index g l = record {
  entered : map (λ v. value_of v.index) l.table.items ≡ map (λ v. value_of v.index) l.initial.table.items ++ take l.index (numbered (of_op (op_index l.op)) (map (λ r. r.number) (op_record l.op).results));
  count : vec_len l.table ≡ vec_len l.initial.table + l.index;
  capacity : vec_capacity l.table ≡ vec_capacity l.initial.table;
  end : l.index-end ≡ length (op_record l.op).results;
}
