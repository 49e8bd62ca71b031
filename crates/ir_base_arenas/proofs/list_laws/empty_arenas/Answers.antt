use Rattle.ir_base_arenas.proofs.ListLaws.{AreLists-empty}
use Rattle.ir_base_arenas.proofs.list_laws.empty_arenas.Goals as goal

pub returns : goal.returns
returns g c limit last other_limit other_last = AreLists-empty g.T.LinkedList.links g.C.ContainsLinkedList.ends limit last other_limit other_last
