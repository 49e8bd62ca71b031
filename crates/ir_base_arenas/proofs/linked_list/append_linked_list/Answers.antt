use Rattle.std.proofs.Common.{[], sym, ap, ◌∙◌, refl}
use Rattle.std.specs.Option.{option_map}
use Rattle.ir_base_arenas.specs.Lists.{seen, unlinked, no_ends}
use Rattle.ir_model.proofs.Arenas.{live-numbered}
use Rattle.ir_base_arenas.proofs.ListRecords.{SameBut-live}
use Rattle.ir_base_arenas.proofs.ListPlaces.{IfSome-live, IfSome-same, first-live, last-live}
use Rattle.std.proofs.lemmas.List.{append-nil}
use Rattle.ir_base_arenas.proofs.ListRehome.{head-read, tail-read, joined-list, AreLists-joined}
use Rattle.ir_base_arenas.proofs.linked_list.append_linked_list.Goals as goal

pub set_prev_of-requires : goal.set_prev_of-requires
set_prev_of-requires g c =
    let l = c.requires.well_formed.1 in
    let ends = g.C.ContainsLinkedList.ends in
    let first = head-read l c.args.donor.index (ends c.at-from.result.now) c.get_head-first.result (ap (option_map ends) c.at-from.ensures) c.get_head-first.ensures in
    record {
      right_live = IfSome-live g.T.LinkedList.links c.args.nodes.now c.get_head-first.result (λ y is. first-live l c.args.donor.index [] (c.requires.well_formed.0 c.args.donor.index) y refl (sym first ∙ is));
      container_live = c.requires.donee_live;
    }

pub set_next_of-requires : goal.set_next_of-requires
set_next_of-requires g c =
    let l = c.requires.well_formed.1 in
    let ends = g.C.ContainsLinkedList.ends in
    let tail = tail-read l c.args.donee.index (ends c.at-to.result.now) c.get_tail-tail.result (ap (option_map ends) c.at-to.ensures) c.get_tail-tail.ensures in
    record {
      left_live = IfSome-same c.args.nodes.now c.set_prev_of.new.nodes c.get_tail-tail.result
          (λ i. SameBut-live (λ x. g.T.LinkedList.with_links x unlinked) c.args.nodes.now c.set_prev_of.new.nodes i c.set_prev_of.ensures.nodes_rest)
          (IfSome-live g.T.LinkedList.links c.args.nodes.now c.get_tail-tail.result (λ y is. last-live l c.args.donee.index (c.requires.well_formed.0 c.args.donee.index) [] y (sym (append-nil _)) (sym tail ∙ is)));
      container_live = SameBut-live (λ x. g.C.ContainsLinkedList.with_ends x no_ends) c.args.containers.now c.set_prev_of.new.containers c.args.donee.index c.set_prev_of.ensures.containers_rest c.requires.donee_live;
    }

pub set_ends-requires : goal.set_ends-requires
set_ends-requires g c =
    SameBut-live (λ x. g.C.ContainsLinkedList.with_ends x no_ends) c.args.containers.now c.set_next_of.new.containers c.args.donee.index (c.set_next_of.ensures.containers_rest ∙ c.set_prev_of.ensures.containers_rest) c.requires.donee_live

pub set_ends-requires-2 : goal.set_ends-requires-2
set_ends-requires-2 g c =
    SameBut-live (λ x. g.C.ContainsLinkedList.with_ends x no_ends) c.args.containers.now c.set_ends.new.containers c.args.donor.index (c.set_ends.ensures.rest ∙ c.set_next_of.ensures.containers_rest ∙ c.set_prev_of.ensures.containers_rest) c.requires.donor_live

pub set_containers-requires-clause-list : goal.set_containers-requires-clause-list
set_containers-requires-clause-list g c =
    let l = c.requires.well_formed.1 in
    let ends = g.C.ContainsLinkedList.ends in
    let first = head-read l c.args.donor.index (ends c.at-from.result.now) c.get_head-first.result (ap (option_map ends) c.at-from.ensures) c.get_head-first.ensures in
    let tail = tail-read l c.args.donee.index (ends c.at-to.result.now) c.get_tail-tail.result (ap (option_map ends) c.at-to.ensures) c.get_tail-tail.ensures in
    joined-list (seen g.T.LinkedList.links c.args.nodes.now) (seen g.T.LinkedList.links c.set_next_of.new.nodes) (seen ends c.args.containers.now) c.requires.well_formed.0 c.args.donee.index c.args.donor.index c.get_tail-tail.result c.get_head-first.result
    l c.requires.two first tail (rw (c.set_next_of.ensures.links, c.set_prev_of.ensures.links))

pub set_containers-requires-clause-slot : goal.set_containers-requires-clause-slot
set_containers-requires-clause-slot g c = live-numbered c.args.containers.now c.args.donee.index c.requires.donee_live

pub returns-clause-lists : goal.returns-clause-lists
returns-clause-lists g c lists l =
    let links = g.T.LinkedList.links in
    let ends = g.C.ContainsLinkedList.ends in
    AreLists-joined (seen links c.args.nodes.now) (seen links c.set_next_of.new.nodes) (seen links c.set_containers.new.nodes) (seen ends c.args.containers.now) (seen ends c.set_ends-2.new.containers)
    lists c.args.donee.index c.args.donor.index (ends c.at-to.result.now) (ends c.at-from.result.now) c.get_head-head.result c.get_tail-tail.result c.get_head-first.result c.get_tail-last.result
    l c.requires.two (ap (option_map ends) c.at-to.ensures) (ap (option_map ends) c.at-from.ensures)
    c.get_head-head.ensures c.get_tail-tail.ensures c.get_head-first.ensures c.get_tail-last.ensures
    (rw (c.set_next_of.ensures.links, c.set_prev_of.ensures.links)) c.set_containers.ensures.moved
    (rw (c.set_ends-2.ensures.ends, c.set_ends.ensures.ends, c.or.ensures, c.or-2.ensures, c.set_next_of.ensures.ends, c.set_prev_of.ensures.ends, c.none-none.ensures))

pub returns-clause-well_formed : goal.returns-clause-well_formed
returns-clause-well_formed g c = (_, returns-clause-lists g c c.requires.well_formed.0 c.requires.well_formed.1)

pub returns-clause-nodes_rest : goal.returns-clause-nodes_rest
returns-clause-nodes_rest g c = c.set_containers.ensures.rest ∙ c.set_next_of.ensures.nodes_rest ∙ c.set_prev_of.ensures.nodes_rest

pub returns-clause-containers_rest : goal.returns-clause-containers_rest
returns-clause-containers_rest g c = c.set_ends-2.ensures.rest ∙ c.set_ends.ensures.rest ∙ c.set_next_of.ensures.containers_rest ∙ c.set_prev_of.ensures.containers_rest
