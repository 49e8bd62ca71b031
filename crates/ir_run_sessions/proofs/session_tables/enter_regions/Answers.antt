use Rattle.std.proofs.Common.{arith}
use Rattle.ir_run_sessions.proofs.Entering.{entered}
use Rattle.ir_run_sessions.proofs.session_tables.enter_regions.Goals as goal

pub loop-index-preserved : goal.loop-index-preserved
loop-index-preserved g c = record {
  entered = entered (λ p. p.index) c.loop-index.table.items c.push_reserved.new.self.items c.get_region.result _ c.args.op.now.regions c.loop-index.index c.loop-index.invariant.entered c.push_reserved.ensures.items c.get_region.ensures;
  count = omega (arith, c.push_reserved.ensures.len, c.loop-index.invariant.count);
  capacity = cc (c.push_reserved.ensures.capacity, c.loop-index.invariant.capacity);
  end = c.loop-index.invariant.end;
}
