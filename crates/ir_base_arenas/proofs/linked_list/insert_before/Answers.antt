use Rattle.std.proofs.Common.{◌∷◌, ap, refl, sym, ◌∙◌}
use Rattle.std.specs.Option.{option_map}
use Rattle.ir_base_arenas.specs.Lists.{seen, Links, Heap}
use Rattle.ir_base_arenas.proofs.ListEdits.{AreLists-linked}
use Rattle.ir_base_arenas.proofs.ListPlaces.{linked-place, unlinked-node, stands, read_links, split-links, root-live, IfSome-live, live-from_seen, In-middle}
use Rattle.ir_base_arenas.proofs.linked_list.insert_before.Goals as goal

pub link_between-requires-clause-left_live : goal.link_between-requires-clause-left_live
link_between-requires-clause-left_live g c =
    let links = g.T.LinkedList.links in
    let m : Links = links c.at-place.result.now in
    let s = stands (seen links c.args.nodes.now) (seen g.C.ContainsLinkedList.ends c.args.containers.now) c.args.mark.index c.unwrap-container.result m m.next c.get_prev-before.result c.get_container.result
    c.requires.well_formed (ap (option_map links) c.at-place.ensures) refl c.get_prev-before.ensures c.get_container.ensures (sym c.get.ensures ∙ c.unwrap-container.ensures) in
    IfSome-live links c.args.nodes.now c.get_prev-before.result s.prev_live

pub link_between-requires-clause-container_live : goal.link_between-requires-clause-container_live
link_between-requires-clause-container_live g c =
    let links = g.T.LinkedList.links in
    let m : Links = links c.at-place.result.now in
    let s = stands (seen links c.args.nodes.now) (seen g.C.ContainsLinkedList.ends c.args.containers.now) c.args.mark.index c.unwrap-container.result m m.next c.get_prev-before.result c.get_container.result
    c.requires.well_formed (ap (option_map links) c.at-place.ensures) refl c.get_prev-before.ensures c.get_container.ensures (sym c.get.ensures ∙ c.unwrap-container.ensures) in
    live-from_seen g.C.ContainsLinkedList.ends c.args.containers.now c.unwrap-container.result s.ends s.root

pub returns-clause-lists : goal.returns-clause-lists
returns-clause-lists g c lists k a b l splits =
    let links = g.T.LinkedList.links in
    let h : Heap Links = seen links c.args.nodes.now in
    let m : Links = links c.at-place.result.now in
    let r = read_links h c.args.mark.index k c.unwrap-container.result a b m m.next c.get_prev-before.result c.get_container.result (split-links l k c.args.mark.index a b splits) (ap (option_map links) c.at-place.ensures) refl c.get_prev-before.ensures c.get_container.ensures (sym c.get.ensures ∙ c.unwrap-container.ensures) in
    let live = root-live l k c.args.mark.index (rw splits (In-middle c.args.mark.index a b)) in
    AreLists-linked h (seen links c.link_between.new.nodes) (seen g.C.ContainsLinkedList.ends c.args.containers.now) (seen g.C.ContainsLinkedList.ends c.link_between.new.containers)
    lists k c.unwrap-container.result c.args.node.index a (c.args.mark.index ∷ b) c.get_prev-before.result c.link_to-here.result live.0 l splits live.1 (unlinked-node g.T.LinkedList.links c.args.nodes.now (seen g.C.ContainsLinkedList.ends c.args.containers.now) c.args.node.index c.requires.well_formed c.requires.node_live c.requires.node_unlinked)
    r.prev_is c.link_to-here.ensures r.container_is c.link_between.ensures.links c.link_between.ensures.ends

pub returns-clause-well_formed : goal.returns-clause-well_formed
returns-clause-well_formed g c =
    let p = linked-place c.requires.well_formed.1 c.args.mark.index c.requires.mark_linked in
    (_, returns-clause-lists g c c.requires.well_formed.0 p.0 p.1.before p.1.after c.requires.well_formed.1 p.1.splits)
