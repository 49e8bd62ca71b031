use Rattle.std.proofs.Common.{refl, sym, ◌∙◌}
use Rattle.ir_base_arenas.specs.Lists.{with_prev, with_tail, unlinked, no_ends}
use Rattle.ir_base_arenas.proofs.ListRecords.{put-seen, put-rest}
use Rattle.ir_base_arenas.proofs.linked_list.set_prev_of.Goals as goal

pub returns-in-Some : goal.returns-in-Some
returns-in-Some g c =
    let laws = g.met.T.LinkedList in
    let w = c.set_prev.new.self in
    let x = c.at_mut.result.now in
    let is = sym c.get.ensures ∙ c.in-Some.is in
    record {
      links = rw (is, ← c.from_index.ensures) (put-seen g.T.LinkedList.links g.T.LinkedList.with_links laws.get_put laws.put_put c.args.nodes.now c.from_index.result.index x w (with_prev c.args.prev) c.at_mut.ensures.value c.set_prev.ensures);
      ends = rw is refl;
      nodes_rest = put-rest g.T.LinkedList.links g.T.LinkedList.with_links laws.get_put laws.put_put c.args.nodes.now c.from_index.result.index x w _ unlinked c.at_mut.ensures.value c.set_prev.ensures;
      containers_rest = refl;
    }

pub returns-in-None : goal.returns-in-None
returns-in-None g c =
    let laws = g.met.C.ContainsLinkedList in
    let w = c.set_tail.new.self in
    let x = c.at_mut-in-None.result.now in
    let is = sym c.get.ensures ∙ c.in-None.is in
    record {
      links = rw is refl;
      ends = rw (is, ← c.from_index-in-None.ensures) (put-seen g.C.ContainsLinkedList.ends g.C.ContainsLinkedList.with_ends laws.get_put laws.put_put c.args.containers.now c.from_index-in-None.result.index x w (with_tail c.args.prev) c.at_mut-in-None.ensures.value c.set_tail.ensures);
      nodes_rest = refl;
      containers_rest = put-rest g.C.ContainsLinkedList.ends g.C.ContainsLinkedList.with_ends laws.get_put laws.put_put c.args.containers.now c.from_index-in-None.result.index x w _ no_ends c.at_mut-in-None.ensures.value c.set_tail.ensures;
    }
