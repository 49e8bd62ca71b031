use Rattle.std.proofs.Common.{arith, ap, map}
use Rattle.ir_model.specs.Forest.{of_op}
use Rattle.ir_model.specs.Edits.{numbered}
use Rattle.ir_core_records.specs.Meaning.{definer_of, op_index, op_record, value_of}
use Rattle.ir_run_sessions.proofs.Entering.{all_numbered, entered, numbered_at}
use Rattle.ir_run_sessions.proofs.session_tables.enter_results.Goals as goal

pub loop-index-preserved : goal.loop-index-preserved
loop-index-preserved g c = record {
  entered = entered (λ v. value_of v.index) c.loop-index.table.items c.push_reserved.new.self.items c.get_result.result _ (numbered (of_op (op_index c.args.op.now)) (map (λ r. r.number) (op_record c.args.op.now).results)) c.loop-index.index c.loop-index.invariant.entered c.push_reserved.ensures.items
      (numbered_at (of_op (op_index c.args.op.now)) (λ r. r.number) (op_record c.args.op.now).results c.loop-index.index (value_of c.get_result.result.index) (ap definer_of c.get_result.ensures.definer) c.get_result.ensures.number);
  count = omega (arith, c.push_reserved.ensures.len, c.loop-index.invariant.count);
  capacity = cc (c.push_reserved.ensures.capacity, c.loop-index.invariant.capacity);
  end = c.loop-index.invariant.end;
}

pub returns : goal.returns
returns g c = all_numbered (λ v. value_of v.index) c.loop-index.table.items _ (of_op (op_index c.args.op.now)) (λ r. r.number) (op_record c.args.op.now).results c.loop-index.index c.loop-index.invariant.entered (omega (arith, c.loop-index.invariant.end, c.loop-index-test.false))
