use Rattle.ir_model.specs.Forest.{a_block, an_op}
use Rattle.ir_model.specs.Nesting.{IsLive}
use Rattle.ir_model.specs.Parent.{IsParent}
use Rattle.ir_core_context.specs.State.{forest_of}
use Rattle.ir_core_queries.proofs.Handles.{live-of, told-of}
use Rattle.ir_core_queries.proofs.operation.PtrOperationOperationPlace.get_parent_block.Goals as goal

pub returns-clause-parent : goal.returns-clause-parent
returns-clause-parent g c = told-of a_block (IsParent (forest_of c.args.ctx.now) (an_op c.args.self.index)) c.handle.result c.operation.result.now.parent c.handle.ensures c.operation.ensures.parent

pub returns-clause-live : goal.returns-clause-live
returns-clause-live g c = live-of (λ x. IsLive (forest_of c.args.ctx.now) (a_block x)) c.handle.result c.operation.result.now.parent c.handle.ensures c.operation.ensures.parent_live
