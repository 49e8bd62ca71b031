use Rattle.ir_core_queries.specs.State.{forest_of}
use Rattle.generic_text.proofs.Left.{leaves-empty}
use Rattle.ir_opt_run.proofs.reading.read_module.Goals as goal

pub returns-then-was_empty-clause-left : goal.returns-then-was_empty-clause-left
returns-then-was_empty-clause-left c = leaves-empty (forest_of c.args.ctx.now) _ (c.is_ir_empty-was_empty.ensures.0 c.if-was_empty.true)
