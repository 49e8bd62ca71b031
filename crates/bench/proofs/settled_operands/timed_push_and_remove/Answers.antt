use Rattle.std.proofs.Common.{arith}
use Rattle.ir_base.specs.Model.Forest.{a_value, an_op}
use Rattle.ir_core.specs.Records.Meaning.{value_of}
use Rattle.ir_core.specs.Context.State.{forest_of}
use Rattle.bench.proofs.Counted.{pushed}
use Rattle.bench.proofs.settled_operands.timed_push_and_remove.Goals as goal

pub remove_operand-requires-clause-live : goal.remove_operand-requires-clause-live
remove_operand-requires-clause-live g c = c.in_ok-index.ensures.keeps.entities_stay_live (an_op c.args.op.index) c.loop-i.invariant.op

pub remove_operand-requires-clause-in_range : goal.remove_operand-requires-clause-in_range
remove_operand-requires-clause-in_range g c =
    let more = pushed (forest_of c.loop-i.ctx) (forest_of c.push_operand.new.ctx) c.args.op.index c.loop-i.invariant.op _ c.in_ok-index.ensures.made.forest in
    let here = c.in_ok-index.ensures.index in
    omega (arith, more, here)

pub loop-i-preserved : goal.loop-i-preserved
loop-i-preserved g c =
    let op = an_op c.args.op.index in
    let value = a_value (value_of c.args.value.index) in
    record {
      op = c.remove_operand.ensures.keeps.entities_stay_live op (c.in_ok-index.ensures.keeps.entities_stay_live op c.loop-i.invariant.op);
      value = c.remove_operand.ensures.keeps.stay_live value (c.in_ok-index.ensures.keeps.stay_live value c.loop-i.invariant.value);
    }
