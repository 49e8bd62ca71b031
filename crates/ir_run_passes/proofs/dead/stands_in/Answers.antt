use Rattle.std.proofs.Common.{sym, ◌∙◌}
use Rattle.ir_model.proofs.TwoRuns.{id_tells}
use Rattle.ir_core_queries.specs.State.{forest_of}
use Rattle.ir_run_passes.proofs.Ranks.{both_true, parent_in}
use Rattle.ir_run_passes.proofs.dead.stands_in.Goals as goal

pub returns-in-Some : goal.returns-in-Some
returns-in-Some g c =
    λ t. parent_in (forest_of c.args.ctx.now) c.args.op.index c.in-Some.parent.index c.args.block.index ((id_tells c.in-Some.parent.index c.args.block.index).0 (both_true _ (sym c.eq.ensures ∙ t))) c.in-Some.ensures.parent
