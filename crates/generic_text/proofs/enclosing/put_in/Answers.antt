use Rattle.ir_core_queries.specs.State.{forest_of}
use Rattle.ir_model.specs.Forest.{a_block}
use Rattle.generic_text.proofs.Emptied.{but-apart}
use Rattle.generic_text.proofs.Left.{was_not}
use Rattle.generic_text.proofs.enclosing.put_in.Goals as goal

pub returns-in-Err-clause-left : goal.returns-in-Err-clause-left
returns-in-Err-clause-left c = λ first apart new. (c.erase.ensures first (c.in-Err.ensures.apart first apart new) new).left

pub returns-in-Ok-fill-clause-left : goal.returns-in-Ok-fill-clause-left
returns-in-Ok-fill-clause-left c = λ first apart new.
    let made = c.in-Ok.ensures.apart first apart new in
    let new_block = was_not first (forest_of c.args.ctx.now) apart.left (a_block c.in-Ok.block.index) c.in-Ok.ensures.new in
    (c.fill.ensures.apart first (but-apart c.in-Ok.block.index first (forest_of c.new_block.new.ctx) made) new_block).left

pub returns-in-Err-fill-clause-left : goal.returns-in-Err-fill-clause-left
returns-in-Err-fill-clause-left c = λ first apart new.
    let made = c.in-Ok.ensures.apart first apart new in
    let new_block = was_not first (forest_of c.args.ctx.now) apart.left (a_block c.in-Ok.block.index) c.in-Ok.ensures.new in
    c.give_up.ensures first (c.fill.ensures.apart first (but-apart c.in-Ok.block.index first (forest_of c.new_block.new.ctx) made) new_block) new_block new
