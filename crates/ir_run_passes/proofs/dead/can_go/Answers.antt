use Rattle.ir_run_passes.proofs.Purity.{goes_where}
use Rattle.ir_core_queries.specs.State.{forest_of}
use Rattle.ir_run_passes.proofs.dead.can_go.Goals as goal
use Rattle.ir_core_records.specs.DialectAnswers.{behaviour_of}

pub returns-then-op_impls : goal.returns-then-op_impls
returns-then-op_impls g c =
    goes_where (behaviour_of g.D.Dialects g.D.TypeKey.PartialEq.eq) (forest_of c.args.ctx.now) c.args.op.index _ c.deref.ensures.found.found _ c.kind.ensures _ c.op_impls.ensures c.if-op_impls.true _ c.can_erase.ensures
