use Rattle.std.proofs.Common.{refl, sym, ◌∙◌}
use Rattle.ir_base_arenas.specs.Lists.{with_next, with_head, unlinked, no_ends}
use Rattle.ir_base_arenas.proofs.ListRecords.{put-seen, put-rest}
use Rattle.ir_base_arenas.proofs.linked_list.set_next_of.Goals as goal

pub returns-in-Some : goal.returns-in-Some
returns-in-Some g c =
    let laws = g.met.T.LinkedList in
    let w = c.set_next.new.self in
    let x = c.at_mut.result.now in
    let is = sym c.get.ensures ∙ c.in-Some.is in
    record {
      links = rw (is, ← c.from_index.ensures) (put-seen g.T.LinkedList.links g.T.LinkedList.with_links laws.get_put laws.put_put c.args.nodes.now c.from_index.result.index x w (with_next c.args.next) c.at_mut.ensures.value c.set_next.ensures);
      ends = rw is refl;
      nodes_rest = put-rest g.T.LinkedList.links g.T.LinkedList.with_links laws.get_put laws.put_put c.args.nodes.now c.from_index.result.index x w _ unlinked c.at_mut.ensures.value c.set_next.ensures;
      containers_rest = refl;
    }

pub returns-in-None : goal.returns-in-None
returns-in-None g c =
    let laws = g.met.C.ContainsLinkedList in
    let w = c.set_head.new.self in
    let x = c.at_mut-in-None.result.now in
    let is = sym c.get.ensures ∙ c.in-None.is in
    record {
      links = rw is refl;
      ends = rw (is, ← c.from_index-in-None.ensures) (put-seen g.C.ContainsLinkedList.ends g.C.ContainsLinkedList.with_ends laws.get_put laws.put_put c.args.containers.now c.from_index-in-None.result.index x w (with_head c.args.next) c.at_mut-in-None.ensures.value c.set_head.ensures);
      nodes_rest = refl;
      containers_rest = put-rest g.C.ContainsLinkedList.ends g.C.ContainsLinkedList.with_ends laws.get_put laws.put_put c.args.containers.now c.from_index-in-None.result.index x w _ no_ends c.at_mut-in-None.ensures.value c.set_head.ensures;
    }
