use Rattle.std.proofs.Common.{◌≡◌, [], sym, ap, ◌∙◌, Some, None, refl}
use Rattle.std.specs.Option.{option_map}
use Rattle.ir_base_arenas.specs.Lists.{seen, Ends, head_or}
use Rattle.ir_base_arenas.proofs.ListEdits.{AreLists-link}
use Rattle.ir_base_arenas.proofs.ListPlaces.{unlinked-node, first-live, IfSome-live}
use Rattle.ir_base_arenas.proofs.linked_list.insert_at_front.Goals as goal

pub link_between-requires-clause-right_live : goal.link_between-requires-clause-right_live
link_between-requires-clause-right_live g c =
    let lists = c.requires.well_formed.0 in
    let l = c.requires.well_formed.1 in
    let known = l.ends c.args.container.index (g.C.ContainsLinkedList.ends c.at.result.now) (ap (option_map g.C.ContainsLinkedList.ends) c.at.ensures) in
    let head : c.get_head-head.result ≡ head_or None (lists c.args.container.index) = c.get_head-head.ensures ∙ ap (λ (e : Ends). e.head) known in
    IfSome-live g.T.LinkedList.links c.args.nodes.now c.get_head-head.result
    (λ y is. first-live l c.args.container.index [] (lists c.args.container.index) y refl (sym head ∙ is))

pub returns-clause-lists : goal.returns-clause-lists
returns-clause-lists g c lists l =
    let e : Ends = g.C.ContainsLinkedList.ends c.at.result.now in
    let live : seen g.C.ContainsLinkedList.ends c.args.containers.now c.args.container.index ≡ Some e = ap (option_map g.C.ContainsLinkedList.ends) c.at.ensures in
    let head : c.get_head-head.result ≡ head_or None (lists c.args.container.index) = c.get_head-head.ensures ∙ ap (λ (e : Ends). e.head) (l.ends c.args.container.index e live) in
    rw (c.link_between.ensures.links, c.link_between.ensures.ends, c.none-none.ensures, head)
    (AreLists-link (seen g.T.LinkedList.links c.args.nodes.now) (seen g.C.ContainsLinkedList.ends c.args.containers.now) lists c.args.container.index [] (lists c.args.container.index) c.args.node.index e l refl live (unlinked-node g.T.LinkedList.links c.args.nodes.now (seen g.C.ContainsLinkedList.ends c.args.containers.now) c.args.node.index c.requires.well_formed c.requires.node_live c.requires.node_unlinked))

pub returns-clause-well_formed : goal.returns-clause-well_formed
returns-clause-well_formed g c = (_, returns-clause-lists g c c.requires.well_formed.0 c.requires.well_formed.1)
