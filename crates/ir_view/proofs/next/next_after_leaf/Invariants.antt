use Rattle.std.proofs.Common.{◌≡◌, List, ◌∷◌, ◌++◌, Some}
use Rattle.ir_model.specs.ContextIds.{context_ids}
use Rattle.ir_model.specs.Forest.{Entity}
use Rattle.ir_model.specs.Nesting.{Inside, children}
use Rattle.ir_model.specs.Parent.{first_of}
use Rattle.ir_core_nesting.specs.Climbs.{depth}
use Rattle.ir_core_context.specs.State.{forest_of}
use Rattle.ir_core_queries.specs.Entities.{meant}
use Rattle.ir_view.specs.Orders.{IsPreorder}
use Rattle.ir_view.proofs.Steps.{After}
use Rattle.ir_view.proofs.next.next_after_leaf.Given as goal

abbrev pub invariant-loop-root : goal.invariant-loop-root
invariant-loop-root g l = record {
  inside : Inside (forest_of l.ctx) (meant l.root) (meant l.current);
  after : (xs before behind : List (Entity context_ids)) → IsPreorder (forest_of l.ctx) (meant l.root) xs → xs ≡ before ++ meant l.fn.here ∷ behind
      → After (children (forest_of l.ctx)) xs (meant l.current) (first_of behind);
}

abbrev pub decreases-loop-root : goal.decreases-loop-root
decreases-loop-root g l = depth l.ctx.records (Some (meant l.current))
