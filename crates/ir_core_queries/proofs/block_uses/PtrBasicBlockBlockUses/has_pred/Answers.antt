use Rattle.ir_model.specs.Forest.{the_block}
use Rattle.ir_core_context.specs.State.{forest_of}
use Rattle.ir_core_queries.proofs.ValueLemmas.{used-iff}
use Rattle.ir_core_queries.proofs.block_uses.PtrBasicBlockBlockUses.has_pred.Goals as goal

pub returns : goal.returns
returns g c =
    used-iff (forest_of c.args.ctx.now) (the_block c.args.self.index) c.block_uses.result.now c.is_empty.result
    (rw (c.block_uses.ensures, c.records.ensures) (c.recall_uses_exact.ensures.blocks c.args.self.index c.requires))
    c.is_empty.ensures
