use Rattle.std.proofs.Common.{sym}
use Rattle.ir_base_arenas.proofs.ListWalks.{list_of-is}
use Rattle.ir_base_arenas.proofs.list_laws.lists_are_one.Goals as goal

pub returns : goal.returns
returns g c nodes containers lists l k = sym (list_of-is g.T.LinkedList.links g.C.ContainsLinkedList.ends nodes containers lists l k)
