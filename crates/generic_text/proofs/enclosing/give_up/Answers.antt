use Rattle.ir_core_queries.specs.State.{forest_of}
use Rattle.generic_text.proofs.Emptied.{but-nothing}
use Rattle.generic_text.proofs.enclosing.give_up.Goals as goal

pub returns-then-is_bare : goal.returns-then-is_bare
returns-then-is_bare c = λ first apart new_block new_root.
    (c.erase.ensures first (but-nothing c.args.block.index first (forest_of c.out.ctx) (c.out.invariant first apart new_block) (c.is_bare.ensures c.if-is_bare.true)) new_root).left
