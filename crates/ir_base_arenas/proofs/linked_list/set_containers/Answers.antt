use Rattle.std.proofs.Common.{◌≡◌, ◌<◌, length, refl, sym, ap, ◌∙◌, subst, Some, None, Option}
use Rattle.std.specs.Option.{option_map}
use Rattle.std.proofs.lemmas.Option.{same_Some}
use Rattle.ir_model.specs.declared.ids.ArenaIndex.{ArenaIndex}
use Rattle.ir_base_arenas.specs.Arena.{fill}
use Rattle.ir_base_arenas.specs.Lists.{seen, Links, Heap, unlinked, with_container}
use Rattle.ir_base_arenas.specs.Walks.{Walked, piece}
use Rattle.ir_base_arenas.proofs.ListArena.{live-at}
use Rattle.ir_model.proofs.Arenas.{get-fill_live}
use Rattle.ir_base_arenas.proofs.ListRecords.{put-seen, put-rest}
use Rattle.ir_base_arenas.proofs.ListPlaces.{live-from_seen}
use Rattle.ir_base_arenas.proofs.ListRehome.{step, walk-start, walk-more, walk-smaller, last-step}
use Rattle.ir_base_arenas.proofs.linked_list.set_containers.Goals as goal

pub loop-node-init : goal.loop-node-init
loop-node-init g c = record {
  walked = walk-start (seen g.T.LinkedList.links c.args.nodes.now) c.args.first c.args.container c.requires.list;
  rest = refl;
}

pub at_mut-record-requires : goal.at_mut-record-requires
at_mut-record-requires g c =
    let links = g.T.LinkedList.links in
    let h : Heap Links = seen links c.args.nodes.now in
    let now : Heap Links = seen links c.loop-node.nodes in
    let w : Walked h now c.args.first (Some c.in-Some.node) c.args.container = subst (λ (o : Option ArenaIndex). Walked h now c.args.first o c.args.container) (sym c.get.ensures ∙ c.in-Some.is) c.loop-node.invariant.walked in
    rw c.from_index.ensures (live-from_seen links c.loop-node.nodes c.in-Some.node _ (step h now c.args.first c.args.container c.in-Some.node w).links)

pub loop-node-preserved : goal.loop-node-preserved
loop-node-preserved g c =
    let L = g.T.LinkedList in
    let laws = g.met.T.LinkedList in
    let h : Heap Links = seen L.links c.args.nodes.now in
    let now : Heap Links = seen L.links c.loop-node.nodes in
    let node = c.from_index.result.index in
    let x = c.at_mut-record.result.now in
    let y = c.set_container.new.self in
    let found = c.at_mut-record.ensures.value in
    let set : y ≡ L.with_links x (record (L.links x) { container = Some c.args.container }) = rw c.some-home.ensures at c.set_container.ensures in
    let w : Walked h now c.args.first (Some node) c.args.container = subst (λ (o : Option ArenaIndex). Walked h now c.args.first o c.args.container) (sym c.get.ensures ∙ c.in-Some.is ∙ ap Some (sym c.from_index.ensures)) c.loop-node.invariant.walked in
    let here = ap (option_map L.links) (get-fill_live c.loop-node.nodes node y (live-at c.loop-node.nodes node x found)) in
    record {
      walked = walk-more h now (seen L.links (fill c.loop-node.nodes node y)) c.args.first c.get_next-current.result c.args.container node w
          (put-seen L.links L.with_links laws.get_put laws.put_put c.loop-node.nodes node x y (with_container c.args.container) found set)
          (λ l is. c.get_next-current.ensures ∙ ap (λ (m : Links). m.next) (same_Some _ _ (sym here ∙ is)));
      rest = put-rest L.links L.with_links laws.get_put laws.put_put c.loop-node.nodes node x y _ unlinked found set ∙ c.loop-node.invariant.rest;
    }

pub loop-node-smaller : goal.loop-node-smaller
loop-node-smaller g c =
    let L = g.T.LinkedList in
    let laws = g.met.T.LinkedList in
    let h : Heap Links = seen L.links c.args.nodes.now in
    let now : Heap Links = seen L.links c.loop-node.nodes in
    let node = c.from_index.result.index in
    let x = c.at_mut-record.result.now in
    let y = c.set_container.new.self in
    let next = c.get_next-current.result in
    let found = c.at_mut-record.ensures.value in
    let set : y ≡ L.with_links x (record (L.links x) { container = Some c.args.container }) = rw c.some-home.ensures at c.set_container.ensures in
    let w : Walked h now c.args.first (Some node) c.args.container = subst (λ (o : Option ArenaIndex). Walked h now c.args.first o c.args.container) (sym c.get.ensures ∙ c.in-Some.is ∙ ap Some (sym c.from_index.ensures)) c.loop-node.invariant.walked in
    let here = ap (option_map L.links) (get-fill_live c.loop-node.nodes node y (live-at c.loop-node.nodes node x found)) in
    subst (λ (o : Option ArenaIndex). length (piece L.links (fill c.loop-node.nodes node y) next None) < length (piece L.links c.loop-node.nodes o None)) (sym (sym c.get.ensures ∙ c.in-Some.is ∙ ap Some (sym c.from_index.ensures)))
    (walk-smaller L.links h c.args.first next c.args.container node c.loop-node.nodes (fill c.loop-node.nodes node y) w
    (put-seen L.links L.with_links laws.get_put laws.put_put c.loop-node.nodes node x y (with_container c.args.container) found set)
    (λ l is. c.get_next-current.ensures ∙ ap (λ (m : Links). m.next) (same_Some _ _ (sym here ∙ is))))

pub returns : goal.returns
returns g c =
    let links = g.T.LinkedList.links in
    let h : Heap Links = seen links c.args.nodes.now in
    let now : Heap Links = seen links c.loop-node.nodes in
    record {
      moved = λ owner before list chain begins. last-step h now c.args.first c.args.container c.loop-node.current c.loop-node.invariant.walked (sym c.get.ensures ∙ c.in_default.is) owner before list chain begins;
      rest = c.loop-node.invariant.rest;
    }
