use Rattle.ir_model.specs.Forest.{a_block}
use Rattle.ir_model.specs.Nesting.{IsLive}
use Rattle.ir_model.specs.Parent.{IsNext}
use Rattle.ir_core_context.specs.State.{forest_of}
use Rattle.ir_core_queries.proofs.Handles.{live-of, told-of}
use Rattle.ir_core_queries.proofs.block.PtrBasicBlockBlockPlace.get_next.Goals as goal

pub returns-clause-next : goal.returns-clause-next
returns-clause-next g c = told-of a_block (IsNext (forest_of c.args.ctx.now) (a_block c.args.self.index)) c.handle.result c.block.result.now.next c.handle.ensures c.block.ensures.links.next

pub returns-clause-live : goal.returns-clause-live
returns-clause-live g c = live-of (λ x. IsLive (forest_of c.args.ctx.now) (a_block x)) c.handle.result c.block.result.now.next c.handle.ensures c.block.ensures.links.next_live
