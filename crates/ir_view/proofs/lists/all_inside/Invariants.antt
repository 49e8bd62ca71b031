use Rattle.std.proofs.Common.{◌++◌, All, map}
use Rattle.ir_model.specs.Nesting.{IsLive}
use Rattle.ir_model.specs.Subtree.{ListsSubtree}
use Rattle.ir_core_context.specs.State.{forest_of}
use Rattle.ir_core_queries.specs.Entities.{meant}
use Rattle.ir_view.specs.Orders.{IsPostOrder}
use Rattle.ir_view.proofs.lists.all_inside.Given as goal

abbrev pub invariant-loop-found : goal.invariant-loop-found
invariant-loop-found g l =
    (goal.iterator-loop-found g).can_next l.found-iterator
    × (goal.iterator-loop-found g).is_finite l.found-iterator
    × IsPostOrder (forest_of l.ctx) (meant l.fn.entity) (map meant l.entities.items ++ l.found-iterator)
    × ListsSubtree (forest_of l.ctx) (meant l.fn.entity) (map meant l.entities.items ++ l.found-iterator)
    × All (λ e. IsLive (forest_of l.ctx) e) (map meant l.entities.items ++ l.found-iterator)
