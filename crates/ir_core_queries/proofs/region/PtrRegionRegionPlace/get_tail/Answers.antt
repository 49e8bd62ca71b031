use Rattle.std.proofs.Common.{◌∙◌}
use Rattle.ir_model.specs.Forest.{a_block}
use Rattle.ir_model.specs.Nesting.{IsLive}
use Rattle.ir_core_context.specs.State.{forest_of}
use Rattle.ir_core_queries.proofs.Handles.{live-of}
use Rattle.ir_core_queries.proofs.region.PtrRegionRegionPlace.get_tail.Goals as goal

pub returns-clause-last : goal.returns-clause-last
returns-clause-last g c = c.handle.ensures ∙ c.region.ensures.last

pub returns-clause-live : goal.returns-clause-live
returns-clause-live g c = live-of (λ x. IsLive (forest_of c.args.ctx.now) (a_block x)) c.handle.result c.region.result.now.last c.handle.ensures c.region.ensures.last_live
