use Rattle.ir_model.specs.Forest.{an_op}
use Rattle.ir_model.specs.Nesting.{IsLive}
use Rattle.ir_model.specs.Parent.{IsNext}
use Rattle.ir_core_context.specs.State.{forest_of}
use Rattle.ir_core_queries.proofs.Handles.{live-of, told-of}
use Rattle.ir_core_queries.proofs.operation.PtrOperationOperationPlace.get_next.Goals as goal

pub returns-clause-next : goal.returns-clause-next
returns-clause-next g c = told-of an_op (IsNext (forest_of c.args.ctx.now) (an_op c.args.self.index)) c.handle.result c.operation.result.now.next c.handle.ensures c.operation.ensures.next

pub returns-clause-live : goal.returns-clause-live
returns-clause-live g c = live-of (λ x. IsLive (forest_of c.args.ctx.now) (an_op x)) c.handle.result c.operation.result.now.next c.handle.ensures c.operation.ensures.next_live
