use Rattle.std.proofs.Common.{length, None}
use Rattle.ir_base_arenas.specs.Lists.{seen, unlinked, SameBut}
use Rattle.ir_base_arenas.specs.Walks.{Walked, piece}
use Rattle.ir_base_arenas.proofs.linked_list.set_containers.Given as goal

abbrev pub invariant-loop-node : goal.invariant-loop-node
invariant-loop-node g l = record {
  walked : Walked (seen g.T.LinkedList.links l.initial.nodes) (seen g.T.LinkedList.links l.nodes) l.initial.current l.current l.fn.container;
  rest : SameBut (λ x. g.T.LinkedList.with_links x unlinked) l.initial.nodes l.nodes;
}

abbrev pub decreases-loop-node : goal.decreases-loop-node
decreases-loop-node g l = length (piece g.T.LinkedList.links l.nodes l.current None)
