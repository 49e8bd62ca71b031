use Rattle.std.proofs.Common.{ap, refl}
use Rattle.ir_core_queries.specs.State.{forest_of}
use Rattle.ir_model.specs.Forest.{a_block}
use Rattle.generic_text.proofs.BuiltOn.{on_apart, on_same}
use Rattle.generic_text.proofs.Left.{was_not}
use Rattle.generic_text.proofs.blocks.make_block.Goals as goal

pub returns-in_err-block : goal.returns-in_err-block
returns-in_err-block c = λ first builds. c.in_err-block.ensures.goes_on first (on_same first (forest_of c.args.ctx.now) c.args.made.now builds (forest_of c.read_block.new.ctx) c.args.made.now c.read_block.ensures refl refl refl)

pub returns-in_err-locate : goal.returns-in_err-locate
returns-in_err-locate c = λ first builds.
    let read = on_same first (forest_of c.args.ctx.now) c.args.made.now builds (forest_of c.read_block.new.ctx) c.args.made.now c.read_block.ensures refl refl refl in
    let made = c.in_ok-block.ensures.goes_on first read in
    let new = was_not first (forest_of c.read_block.new.ctx) read.apart.left (a_block c.in_ok-block.block.index) c.in_ok-block.ensures.new in
    on_apart first (forest_of c.make.new.ctx) c.make.new.made made (forest_of c.locate.new.ctx) c.make.new.made (c.locate.ensures first made.apart new) refl refl refl

pub returns : goal.returns
returns c = λ first builds.
    let read = on_same first (forest_of c.args.ctx.now) c.args.made.now builds (forest_of c.read_block.new.ctx) c.args.made.now c.read_block.ensures refl refl refl in
    let made = c.in_ok-block.ensures.goes_on first read in
    let new = was_not first (forest_of c.read_block.new.ctx) read.apart.left (a_block c.in_ok-block.block.index) c.in_ok-block.ensures.new in
    on_apart first (forest_of c.make.new.ctx) c.make.new.made made (forest_of c.locate.new.ctx) c.define_arguments.new.made (c.locate.ensures first made.apart new)
    (ap (λ v. v.items) c.define_arguments.ensures.ops) (ap (λ v. v.items) c.define_arguments.ensures.blocks) (ap (λ v. v.items) c.define_arguments.ensures.late)
