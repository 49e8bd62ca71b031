use Rattle.ir_core_queries.specs.State.{forest_of}
use Rattle.generic_text.proofs.Apart.{apart-written-block}
use Rattle.generic_text.proofs.blocks.locate.Goals as goal

pub returns : goal.returns
returns c = λ first apart new. apart-written-block first (forest_of c.args.ctx.now) apart _ c.args.block.index _ _ _ new (c.in_ok-written.ensures.written.forest _)
