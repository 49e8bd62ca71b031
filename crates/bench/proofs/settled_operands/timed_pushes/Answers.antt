use Rattle.std.proofs.Common.{arith, ◌+◌, ◌≤◌, length}
use Rattle.ir_base.specs.Model.Forest.{a_value, an_op}
use Rattle.ir_base.specs.Model.Nesting.{operands_of}
use Rattle.ir_core.specs.Records.Meaning.{value_of}
use Rattle.ir_core.specs.Context.State.{forest_of}
use Rattle.bench.proofs.Counted.{pushed}
use Rattle.bench.proofs.settled_operands.timed_pushes.Goals as goal

pub loop-pushed-preserved : goal.loop-pushed-preserved
loop-pushed-preserved g c =
    let now = c.loop-pushed.invariant in
    let keeps = c.in_ok-push_operand.ensures.keeps in
    let more = pushed (forest_of c.loop-pushed.ctx) (forest_of c.push_operand.new.ctx) c.args.op.index now.op _ c.in_ok-push_operand.ensures.made.forest in
    let count : c.loop-pushed._pushed + 1 ≤ length (operands_of (forest_of c.push_operand.new.ctx) c.args.op.index) = omega (arith, more, now.count) in
    record {
      op = keeps.entities_stay_live (an_op c.args.op.index) now.op;
      value = keeps.stay_live (a_value (value_of c.args.value.index)) now.value;
      count = count;
    }
