use Rattle.ir_model.specs.Forest.{an_op}
use Rattle.ir_model.specs.Nesting.{IsLive}
use Rattle.ir_model.specs.Parent.{IsPrevious}
use Rattle.ir_core_context.specs.State.{forest_of}
use Rattle.ir_core_queries.proofs.Handles.{live-of, told-of}
use Rattle.ir_core_queries.proofs.operation.PtrOperationOperationPlace.get_prev.Goals as goal

pub returns-clause-previous : goal.returns-clause-previous
returns-clause-previous g c = told-of an_op (IsPrevious (forest_of c.args.ctx.now) (an_op c.args.self.index)) c.handle.result c.operation.result.now.prev c.handle.ensures c.operation.ensures.previous

pub returns-clause-live : goal.returns-clause-live
returns-clause-live g c = live-of (λ x. IsLive (forest_of c.args.ctx.now) (an_op x)) c.handle.result c.operation.result.now.prev c.handle.ensures c.operation.ensures.previous_live
