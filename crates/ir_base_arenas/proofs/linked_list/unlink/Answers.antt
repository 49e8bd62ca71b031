use Rattle.std.proofs.Common.{ap, ◌∙◌, sym}
use Rattle.std.specs.Option.{option_map}
use Rattle.ir_base_arenas.specs.Lists.{seen, Links, Heap, unlinked, no_ends}
use Rattle.ir_base_arenas.proofs.ListEdits.{AreLists-unlink}
use Rattle.ir_base_arenas.proofs.ListRecords.{SameBut-live}
use Rattle.ir_base_arenas.proofs.ListPlaces.{linked-place, stands, read_links, split-links, root-live, IfSome-live, IfSome-same, live-from_seen, In-middle}
use Rattle.ir_base_arenas.proofs.linked_list.unlink.Goals as goal

pub set_prev_of-requires-clause-right_live : goal.set_prev_of-requires-clause-right_live
set_prev_of-requires-clause-right_live g c =
    let links = g.T.LinkedList.links in
    let s = stands (seen links c.args.nodes.now) (seen g.C.ContainsLinkedList.ends c.args.containers.now) c.args.node.index c.unwrap-container.result (links c.at-place.result.now) c.get_next-next.result c.get_prev-prev.result c.get_container.result
    c.requires.well_formed (ap (option_map links) c.at-place.ensures) c.get_next-next.ensures c.get_prev-prev.ensures c.get_container.ensures (sym c.get.ensures ∙ c.unwrap-container.ensures) in
    IfSome-live links c.args.nodes.now c.get_next-next.result s.next_live

pub set_prev_of-requires-clause-container_live : goal.set_prev_of-requires-clause-container_live
set_prev_of-requires-clause-container_live g c =
    let links = g.T.LinkedList.links in
    let s = stands (seen links c.args.nodes.now) (seen g.C.ContainsLinkedList.ends c.args.containers.now) c.args.node.index c.unwrap-container.result (links c.at-place.result.now) c.get_next-next.result c.get_prev-prev.result c.get_container.result
    c.requires.well_formed (ap (option_map links) c.at-place.ensures) c.get_next-next.ensures c.get_prev-prev.ensures c.get_container.ensures (sym c.get.ensures ∙ c.unwrap-container.ensures) in
    live-from_seen g.C.ContainsLinkedList.ends c.args.containers.now c.unwrap-container.result s.ends s.root

pub set_next_of-requires-clause-left_live : goal.set_next_of-requires-clause-left_live
set_next_of-requires-clause-left_live g c =
    let links = g.T.LinkedList.links in
    let s = stands (seen links c.args.nodes.now) (seen g.C.ContainsLinkedList.ends c.args.containers.now) c.args.node.index c.unwrap-container.result (links c.at-place.result.now) c.get_next-next.result c.get_prev-prev.result c.get_container.result
    c.requires.well_formed (ap (option_map links) c.at-place.ensures) c.get_next-next.ensures c.get_prev-prev.ensures c.get_container.ensures (sym c.get.ensures ∙ c.unwrap-container.ensures) in
    IfSome-same c.args.nodes.now c.set_prev_of.new.nodes c.get_prev-prev.result
    (λ i. SameBut-live (λ x. g.T.LinkedList.with_links x unlinked) c.args.nodes.now c.set_prev_of.new.nodes i c.set_prev_of.ensures.nodes_rest)
    (IfSome-live links c.args.nodes.now c.get_prev-prev.result s.prev_live)

pub set_next_of-requires-clause-container_live : goal.set_next_of-requires-clause-container_live
set_next_of-requires-clause-container_live g c =
    let links = g.T.LinkedList.links in
    let s = stands (seen links c.args.nodes.now) (seen g.C.ContainsLinkedList.ends c.args.containers.now) c.args.node.index c.unwrap-container.result (links c.at-place.result.now) c.get_next-next.result c.get_prev-prev.result c.get_container.result
    c.requires.well_formed (ap (option_map links) c.at-place.ensures) c.get_next-next.ensures c.get_prev-prev.ensures c.get_container.ensures (sym c.get.ensures ∙ c.unwrap-container.ensures) in
    SameBut-live (λ x. g.C.ContainsLinkedList.with_ends x no_ends) c.args.containers.now c.set_prev_of.new.containers c.unwrap-container.result c.set_prev_of.ensures.containers_rest
    (live-from_seen g.C.ContainsLinkedList.ends c.args.containers.now c.unwrap-container.result s.ends s.root)

pub set_links-requires : goal.set_links-requires
set_links-requires g c =
    let links = g.T.LinkedList.links in
    SameBut-live (λ x. g.T.LinkedList.with_links x unlinked) c.args.nodes.now c.set_next_of.new.nodes c.args.node.index
    (c.set_next_of.ensures.nodes_rest ∙ c.set_prev_of.ensures.nodes_rest)
    (live-from_seen links c.args.nodes.now c.args.node.index (links c.at-place.result.now) (ap (option_map links) c.at-place.ensures))

pub returns-clause-lists : goal.returns-clause-lists
returns-clause-lists g c lists k a b l splits =
    let links = g.T.LinkedList.links in
    let h : Heap Links = seen links c.args.nodes.now in
    let e = ap (option_map links) c.at-place.ensures in
    let r = read_links h c.args.node.index k c.unwrap-container.result a b (links c.at-place.result.now) c.get_next-next.result c.get_prev-prev.result c.get_container.result (split-links l k c.args.node.index a b splits) e c.get_next-next.ensures c.get_prev-prev.ensures c.get_container.ensures (sym c.get.ensures ∙ c.unwrap-container.ensures) in
    let live = root-live l k c.args.node.index (rw splits (In-middle c.args.node.index a b)) in
    rw (c.set_links.ensures.links, c.set_next_of.ensures.links, c.set_prev_of.ensures.links, c.set_next_of.ensures.ends, c.set_prev_of.ensures.ends, r.next_is, r.prev_is, r.container_is, c.none-none.ensures)
    (AreLists-unlink h (seen g.C.ContainsLinkedList.ends c.args.containers.now) lists k a b c.args.node.index live.0 l splits live.1)

pub returns-clause-well_formed : goal.returns-clause-well_formed
returns-clause-well_formed g c =
    let p = linked-place c.requires.well_formed.1 c.args.node.index c.requires.node_linked in
    (_, returns-clause-lists g c c.requires.well_formed.0 p.0 p.1.before p.1.after c.requires.well_formed.1 p.1.splits)

pub returns-clause-nodes_rest : goal.returns-clause-nodes_rest
returns-clause-nodes_rest g c = c.set_links.ensures.rest ∙ c.set_next_of.ensures.nodes_rest ∙ c.set_prev_of.ensures.nodes_rest

pub returns-clause-containers_rest : goal.returns-clause-containers_rest
returns-clause-containers_rest g c = c.set_next_of.ensures.containers_rest ∙ c.set_prev_of.ensures.containers_rest
