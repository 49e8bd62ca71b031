use Rattle.std.proofs.Common.{[], arith, ap, map}
use Rattle.ir_model.specs.Forest.{of_block}
use Rattle.ir_model.specs.Edits.{numbered}
use Rattle.ir_core_records.specs.Meaning.{definer_of, block_index, block_record, value_of}
use Rattle.ir_run_sessions.proofs.Entering.{all_numbered, entered, numbered_at}
use Rattle.ir_run_sessions.proofs.session_tables.enter_arguments.Goals as goal

pub loop-index-preserved : goal.loop-index-preserved
loop-index-preserved g c = record {
  entered = entered (λ v. value_of v.index) c.loop-index.table.items c.push_reserved.new.self.items c.get_argument.result _ (numbered (of_block (block_index c.args.block.now)) (map (λ r. r.number) (block_record [] c.args.block.now).arguments)) c.loop-index.index c.loop-index.invariant.entered c.push_reserved.ensures.items
      (numbered_at (of_block (block_index c.args.block.now)) (λ r. r.number) (block_record [] c.args.block.now).arguments c.loop-index.index (value_of c.get_argument.result.index) (ap definer_of c.get_argument.ensures.definer) c.get_argument.ensures.number);
  count = omega (arith, c.push_reserved.ensures.len, c.loop-index.invariant.count);
  capacity = cc (c.push_reserved.ensures.capacity, c.loop-index.invariant.capacity);
  end = c.loop-index.invariant.end;
}

pub returns : goal.returns
returns g c = all_numbered (λ v. value_of v.index) c.loop-index.table.items _ (of_block (block_index c.args.block.now)) (λ r. r.number) (block_record [] c.args.block.now).arguments c.loop-index.index c.loop-index.invariant.entered (omega (arith, c.loop-index.invariant.end, c.loop-index-test.false))
