use Rattle.std.proofs.Common.{arith, ◌-◌, ◌≤◌, length}
use Rattle.std.specs.Prelude.{◌<◌}
use Rattle.ir_base.specs.Model.Forest.{an_op}
use Rattle.ir_base.specs.Model.Nesting.{operands_of}
use Rattle.ir_core.specs.Context.State.{forest_of}
use Rattle.bench.proofs.Counted.{removed}
use Rattle.bench.proofs.settled_operands.timed_removals.Goals as goal

pub loop-left-preserved : goal.loop-left-preserved
loop-left-preserved g c =
    let now = c.loop-left.invariant in
    let before = forest_of c.loop-left.ctx in
    let after = forest_of c.remove_operand.new.ctx in
    let index = c.args.op.index in
    let within : c.loop-left.left - 1 < length (operands_of before index) = omega (arith, now.within, c.loop-left-test.true) in
    let less = removed before after index now.op (c.loop-left.left - 1) c.remove_operand.ensures.forest within in
    let left : c.loop-left.left - 1 ≤ length (operands_of after index) = omega (arith, less, now.within) in
    record { op = c.remove_operand.ensures.keeps.entities_stay_live (an_op index) now.op; within = left }
