use Rattle.ir_core_queries.specs.State.{forest_of}
use Rattle.ir_model.specs.Nesting.{ops_of}
use Rattle.generic_text.proofs.Emptied.{first_none}
use Rattle.generic_text.proofs.enclosing.is_bare.Goals as goal

pub returns-in-None : goal.returns-in-None
returns-in-None c = λ _. first_none (ops_of (forest_of c.args.ctx.now) c.args.block.index) c.in-None.ensures.first
