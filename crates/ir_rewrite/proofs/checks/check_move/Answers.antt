use Rattle.ir_core_context.specs.State.{forest_of}
use Rattle.ir_rewrite.proofs.May.{move_may}
use Rattle.ir_rewrite.proofs.Passed.{move_told}
use Rattle.ir_rewrite.proofs.checks.check_move.Goals as goal

pub returns-clause-may : goal.returns-clause-may
returns-clause-may g c = move_may (forest_of c.args.ctx.now) c.args.op.index c.recall_well_formed.ensures.nested c.args.call c.args.mark.index c.first_unmet_of_move.result c.first_unmet_of_move.ensures

pub returns-clause-told : goal.returns-clause-told
returns-clause-told g c = move_told (forest_of c.args.ctx.now) c.args.op.index c.args.call c.args.mark.index c.first_unmet_of_move.result c.first_unmet_of_move.ensures
