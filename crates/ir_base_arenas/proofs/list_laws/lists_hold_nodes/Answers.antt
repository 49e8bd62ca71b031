use Rattle.std.proofs.Common.{None}
use Rattle.ir_base_arenas.specs.Lists.{seen}
use Rattle.ir_base_arenas.proofs.ListChains.{chain-at}
use Rattle.ir_base_arenas.proofs.ListPlaces.{live-from_seen, root-live}
use Rattle.ir_base_arenas.proofs.ListLaws.{container-is_in, linked-is_in, list-apart}
use Rattle.ir_base_arenas.proofs.list_laws.lists_hold_nodes.Goals as goal

pub returns : goal.returns
returns g c = record {
  container = λ nodes containers lists l k x. container-is_in l k x;
  linked = λ nodes containers lists l x. linked-is_in l x;
  apart = λ nodes containers lists l k. list-apart l k;
  live = λ nodes containers lists l k x i.
      let s = chain-at (seen g.T.LinkedList.links nodes) k None (lists k) None x (l.chains k) i in
      let e = root-live l k x i in
      (live-from_seen g.T.LinkedList.links nodes x s.0 s.1, live-from_seen g.C.ContainsLinkedList.ends containers k e.0 e.1);
}
