use Rattle.std.proofs.Common.{◌∙◌}
use Rattle.ir_model.specs.Forest.{an_op}
use Rattle.ir_model.specs.Nesting.{IsLive}
use Rattle.ir_core_context.specs.State.{forest_of}
use Rattle.ir_core_queries.proofs.Handles.{live-of}
use Rattle.ir_core_queries.proofs.block.PtrBasicBlockBlockPlace.get_head.Goals as goal

pub returns-clause-first : goal.returns-clause-first
returns-clause-first g c = c.handle.ensures ∙ c.block.ensures.ends.first

pub returns-clause-live : goal.returns-clause-live
returns-clause-live g c = live-of (λ x. IsLive (forest_of c.args.ctx.now) (an_op x)) c.handle.result c.block.result.now.ops_list.first c.handle.ensures c.block.ensures.ends.first_live
