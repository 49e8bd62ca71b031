use Rattle.std.proofs.Common.{◌∙◌}
use Rattle.ir_base_arenas.specs.Lists.{unlinked, no_ends}
use Rattle.ir_base_arenas.proofs.ListRecords.{SameBut-live}
use Rattle.ir_base_arenas.proofs.ListPlaces.{IfSome-same}
use Rattle.ir_base_arenas.proofs.linked_list.link_between.Goals as goal

pub set_next_of-requires : goal.set_next_of-requires
set_next_of-requires g c = record {
  left_live = IfSome-same c.args.nodes.now c.set_prev_of.new.nodes c.args.left
      (λ i. SameBut-live (λ x. g.T.LinkedList.with_links x unlinked) c.args.nodes.now c.set_prev_of.new.nodes i c.set_prev_of.ensures.nodes_rest)
      c.requires.left_live;
  container_live = SameBut-live (λ x. g.C.ContainsLinkedList.with_ends x no_ends) c.args.containers.now c.set_prev_of.new.containers c.args.container c.set_prev_of.ensures.containers_rest c.requires.container_live;
}

pub set_links-requires : goal.set_links-requires
set_links-requires g c =
    SameBut-live (λ x. g.T.LinkedList.with_links x unlinked) c.args.nodes.now c.set_next_of.new.nodes c.args.node
    (c.set_next_of.ensures.nodes_rest ∙ c.set_prev_of.ensures.nodes_rest) c.requires.node_live

pub returns : goal.returns
returns g c = record {
  links = rw (c.set_links.ensures.links, c.set_next_of.ensures.links, c.set_prev_of.ensures.links, c.link_to-here.ensures, c.link_to-home.ensures);
  ends = rw (c.set_next_of.ensures.ends, c.set_prev_of.ensures.ends, c.link_to-here.ensures);
  nodes_rest = c.set_links.ensures.rest ∙ c.set_next_of.ensures.nodes_rest ∙ c.set_prev_of.ensures.nodes_rest;
  containers_rest = c.set_next_of.ensures.containers_rest ∙ c.set_prev_of.ensures.containers_rest;
}
