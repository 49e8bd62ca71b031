use Rattle.ir_core_context.specs.State.{forest_of}
use Rattle.ir_rewrite.proofs.May.{replace_may}
use Rattle.ir_rewrite.proofs.Passed.{replace_told}
use Rattle.ir_rewrite.proofs.checks.check_replace.Goals as goal

pub returns-clause-may : goal.returns-clause-may
returns-clause-may g c = replace_may (forest_of c.args.ctx.now) c.args.op.index c.args.values.now c.first_unmet_of_replacing.result c.first_unmet_of_replacing.ensures

pub returns-clause-told : goal.returns-clause-told
returns-clause-told g c = replace_told (forest_of c.args.ctx.now) c.args.op.index c.args.values.now c.first_unmet_of_replacing.result c.first_unmet_of_replacing.ensures
