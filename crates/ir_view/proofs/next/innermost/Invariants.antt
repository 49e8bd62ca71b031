use Rattle.std.proofs.Common.{suc, ◌-◌, Some}
use Rattle.ir_model.specs.Nesting.{Inside, children}
use Rattle.ir_core_nesting.specs.Climbs.{depth, size}
use Rattle.ir_core_context.specs.State.{forest_of}
use Rattle.ir_core_queries.specs.Entities.{meant}
use Rattle.ir_view.proofs.Steps.{Leads}
use Rattle.ir_view.proofs.next.innermost.Given as goal

abbrev pub invariant-loop-child : goal.invariant-loop-child
invariant-loop-child g l = record {
  inside : Inside (forest_of l.ctx) (meant l.fn.start) (meant l.current);
  leads : Leads (children (forest_of l.ctx)) (meant l.fn.start) (meant l.current);
}

abbrev pub decreases-loop-child : goal.decreases-loop-child
decreases-loop-child g l = suc (size l.ctx.records) - depth l.ctx.records (Some (meant l.current))
