use Rattle.std.proofs.Common.{◌≡◌, ◌+◌, ◌++◌, length, map, take, vec_len, vec_capacity}
use Rattle.ir_core_records.specs.Meaning.{op_record}
use Rattle.ir_run_sessions.proofs.session_tables.enter_regions.Given as goal

abbrev pub invariant-loop-index : goal.invariant-loop-index
invariant-loop-index g l = record {
  entered : map (λ p. p.index) l.table.items ≡ map (λ p. p.index) l.initial.table.items ++ take l.index (op_record l.op).regions;
  count : vec_len l.table ≡ vec_len l.initial.table + l.index;
  capacity : vec_capacity l.table ≡ vec_capacity l.initial.table;
  end : l.index-end ≡ length (op_record l.op).regions;
}
