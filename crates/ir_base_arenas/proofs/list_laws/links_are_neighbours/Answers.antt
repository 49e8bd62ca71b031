use Rattle.ir_base_arenas.specs.Lists.{seen}
use Rattle.ir_base_arenas.proofs.ListPlaces.{split-links, unlinked-node}
use Rattle.ir_base_arenas.proofs.ListLaws.{list-empty}
use Rattle.ir_base_arenas.proofs.list_laws.links_are_neighbours.Goals as goal

pub returns : goal.returns
returns g c = record {
  links = λ nodes containers lists l k x a b splits. split-links l k x a b splits;
  unlinked = λ nodes containers lists l x live out. unlinked-node g.T.LinkedList.links nodes (seen g.C.ContainsLinkedList.ends containers) x (lists, l) live out;
  ends = λ nodes containers lists l k e is. l.ends k e is;
  empty = λ nodes containers lists l k e is none. list-empty l k e is none;
}
