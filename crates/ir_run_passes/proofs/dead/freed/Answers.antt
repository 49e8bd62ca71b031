use Rattle.std.proofs.Common.{subst, IfSome}
use Rattle.ir_model.specs.Nesting.{In, ops_of}
use Rattle.ir_core_queries.specs.State.{forest_of}
use Rattle.ir_run_passes.proofs.Ranks.{listed_live}
use Rattle.ir_run_passes.proofs.dead.freed.Goals as goal

pub can_go-requires : goal.can_go-requires
can_go-requires g c =
    let f = forest_of c.args.ctx.now in
    listed_live f c.args.block.index c.recall_well_formed.ensures.nested c.in_ok-op.op.index (subst (λ m. IfSome m (λ p. In p.index (ops_of f c.args.block.index))) c.in_ok-op.was c.requires)
