use Rattle.ir_model.specs.Forest.{a_block}
use Rattle.ir_model.specs.Nesting.{IsLive}
use Rattle.ir_model.specs.Parent.{IsPrevious}
use Rattle.ir_core_context.specs.State.{forest_of}
use Rattle.ir_core_queries.proofs.Handles.{live-of, told-of}
use Rattle.ir_core_queries.proofs.block.PtrBasicBlockBlockPlace.get_prev.Goals as goal

pub returns-clause-previous : goal.returns-clause-previous
returns-clause-previous g c = told-of a_block (IsPrevious (forest_of c.args.ctx.now) (a_block c.args.self.index)) c.handle.result c.block.result.now.prev c.handle.ensures c.block.ensures.links.previous

pub returns-clause-live : goal.returns-clause-live
returns-clause-live g c = live-of (λ x. IsLive (forest_of c.args.ctx.now) (a_block x)) c.handle.result c.block.result.now.prev c.handle.ensures c.block.ensures.links.previous_live
