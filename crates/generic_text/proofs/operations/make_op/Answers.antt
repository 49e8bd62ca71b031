use Rattle.std.proofs.Common.{refl}
use Rattle.ir_core_queries.specs.State.{forest_of}
use Rattle.ir_model.specs.Forest.{an_op}
use Rattle.generic_text.proofs.BuiltOn.{on_same}
use Rattle.generic_text.proofs.Left.{leaves-none, leaves-same, was_not}
use Rattle.generic_text.proofs.operations.make_op.Goals as goal

pub returns-in_err-op-clause-goes_on : goal.returns-in_err-op-clause-goes_on
returns-in_err-op-clause-goes_on c = λ first builds. c.in_err-op.ensures.goes_on first (on_same first (forest_of c.args.ctx.now) c.args.made.now builds (forest_of c.read_whole.new.ctx) c.args.made.now c.read_whole.ensures refl refl refl)

pub returns-in_err-finish-clause-goes_on : goal.returns-in_err-finish-clause-goes_on
returns-in_err-finish-clause-goes_on c = λ first builds.
    let read = on_same first (forest_of c.args.ctx.now) c.args.made.now builds (forest_of c.read_whole.new.ctx) c.args.made.now c.read_whole.ensures refl refl refl in
    let new = was_not first (forest_of c.read_whole.new.ctx) read.apart.left (an_op c.in_ok-op.op.index) c.in_ok-op.ensures.new in
    c.finish.ensures first (c.in_ok-op.ensures.goes_on first read) new

pub returns-clause-goes_on : goal.returns-clause-goes_on
returns-clause-goes_on c = λ first builds.
    let read = on_same first (forest_of c.args.ctx.now) c.args.made.now builds (forest_of c.read_whole.new.ctx) c.args.made.now c.read_whole.ensures refl refl refl in
    let new = was_not first (forest_of c.read_whole.new.ctx) read.apart.left (an_op c.in_ok-op.op.index) c.in_ok-op.ensures.new in
    c.finish.ensures first (c.in_ok-op.ensures.goes_on first read) new

pub returns-clause-new : goal.returns-clause-new
returns-clause-new c =
    let f = forest_of c.args.ctx.now in
    let named = forest_of c.read_whole.new.ctx in
    was_not f named (leaves-same f f (leaves-none f) named c.read_whole.ensures) (an_op c.in_ok-op.op.index) c.in_ok-op.ensures.new
