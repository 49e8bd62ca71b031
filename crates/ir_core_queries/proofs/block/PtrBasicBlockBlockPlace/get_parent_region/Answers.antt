use Rattle.ir_model.specs.Forest.{a_block, a_region}
use Rattle.ir_model.specs.Nesting.{IsLive}
use Rattle.ir_model.specs.Parent.{IsParent}
use Rattle.ir_core_context.specs.State.{forest_of}
use Rattle.ir_core_queries.proofs.Handles.{live-of, told-of}
use Rattle.ir_core_queries.proofs.block.PtrBasicBlockBlockPlace.get_parent_region.Goals as goal

pub returns-clause-parent : goal.returns-clause-parent
returns-clause-parent g c = told-of a_region (IsParent (forest_of c.args.ctx.now) (a_block c.args.self.index)) c.handle.result c.block.result.now.parent c.handle.ensures c.block.ensures.links.parent

pub returns-clause-live : goal.returns-clause-live
returns-clause-live g c = live-of (λ x. IsLive (forest_of c.args.ctx.now) (a_region x)) c.handle.result c.block.result.now.parent c.handle.ensures c.block.ensures.links.parent_live
