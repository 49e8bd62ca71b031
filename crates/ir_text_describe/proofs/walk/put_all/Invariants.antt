use Rattle.ir_model.specs.Nesting.{IsLive}
use Rattle.ir_core_queries.specs.Entities.{meant}
use Rattle.ir_core_queries.specs.State.{forest_of}
use Rattle.ir_text_describe.proofs.walk.put_all.Given as goal

abbrev pub invariant-loop : goal.invariant-loop
invariant-loop g l = IsLive (forest_of l.from.ctx.now) (meant l.here)
