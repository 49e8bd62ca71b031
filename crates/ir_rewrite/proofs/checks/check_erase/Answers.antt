use Rattle.ir_core_context.specs.State.{forest_of}
use Rattle.ir_rewrite.proofs.May.{erase_may}
use Rattle.ir_rewrite.proofs.Passed.{erase_told}
use Rattle.ir_rewrite.proofs.checks.check_erase.Goals as goal

pub returns-clause-live : goal.returns-clause-live
returns-clause-live g c = λ ok. (erase_may (forest_of c.args.ctx.now) c.args.op.index c.first_unmet_of_erasing.result c.first_unmet_of_erasing.ensures ok).0

pub returns-clause-closed : goal.returns-clause-closed
returns-clause-closed g c = λ ok. (erase_may (forest_of c.args.ctx.now) c.args.op.index c.first_unmet_of_erasing.result c.first_unmet_of_erasing.ensures ok).1

pub returns-clause-told : goal.returns-clause-told
returns-clause-told g c = erase_told (forest_of c.args.ctx.now) c.args.op.index c.first_unmet_of_erasing.result c.first_unmet_of_erasing.ensures
