use Rattle.ir_base_arenas.specs.Lists.{seen}
use Rattle.ir_base_arenas.proofs.ListLaws.{AreLists-fill_container, AreLists-cut_container, AreLists-write_container}
use Rattle.ir_base_arenas.proofs.list_laws.container_changes_keep_lists.Goals as goal

pub returns : goal.returns
returns g c = record {
  inserted = λ nodes containers lists l id container new free. AreLists-fill_container g.C.ContainsLinkedList.ends (seen g.T.LinkedList.links nodes) containers lists l id container new free;
  removed = λ nodes containers lists l id live none. AreLists-cut_container g.C.ContainsLinkedList.ends (seen g.T.LinkedList.links nodes) containers lists l id live none;
  written = λ nodes containers lists l id old new found same. AreLists-write_container g.C.ContainsLinkedList.ends (seen g.T.LinkedList.links nodes) containers lists l id old new found same;
}
