use Rattle.ir_base_arenas.specs.Lists.{seen}
use Rattle.ir_base_arenas.proofs.ListLaws.{AreLists-fill_new, AreLists-cut_node, AreLists-write_node}
use Rattle.ir_base_arenas.proofs.list_laws.node_changes_keep_lists.Goals as goal

pub returns : goal.returns
returns g c = record {
  inserted = λ nodes containers lists l id node new free. AreLists-fill_new g.T.LinkedList.links nodes (seen g.C.ContainsLinkedList.ends containers) lists l id node new free;
  removed = λ nodes containers lists l id live free. AreLists-cut_node g.T.LinkedList.links nodes (seen g.C.ContainsLinkedList.ends containers) lists l id live free;
  written = λ nodes containers lists l id old new found same. AreLists-write_node g.T.LinkedList.links nodes (seen g.C.ContainsLinkedList.ends containers) lists l id old new found same;
}
