use Rattle.std.proofs.Common.{◌≡◌, ◌<◌, ◌∷◌, sym, ap, ◌∙◌, arith, length, List}
use Rattle.std.specs.Option.{option_map}
use Rattle.std.proofs.lemmas.Option.{same_Some}
use Rattle.ir_model.specs.declared.ids.ArenaIndex.{ArenaIndex}
use Rattle.ir_base_arenas.specs.Lists.{seen, Links, Heap}
use Rattle.ir_base_arenas.specs.Walks.{walk_to}
use Rattle.ir_base_arenas.proofs.ListPlaces.{live-from_seen}
use Rattle.ir_base_arenas.proofs.ListWalks.{take-next, other-option}
use Rattle.ir_base_arenas.proofs.list_iter.IterIterator.next.Goals as goal

pub at-requires : goal.at-requires
at-requires g c =
    let t = take-next c.self.invariant (sym c.get.ensures ∙ c.in_ok-current.was) in
    rw c.from_index-node.ensures (live-from_seen g.T.LinkedList.links c.self.inside.nodes.now c.in_ok-current.current t.links t.here)

pub invariant_of-self-else-eq : goal.invariant_of-self-else-eq
invariant_of-self-else-eq g c =
    let it = c.self.inside in
    let h : Heap Links = seen g.T.LinkedList.links it.nodes.now in
    let t = take-next c.self.invariant (sym c.get.ensures ∙ c.in_ok-current.was) in
    let more = t.further (other-option it.next_back c.in_ok-current.current c.eq.result (rw c.get-2.ensures at c.eq.ensures) c.if-eq.false) in
    let here : t.links ≡ g.T.LinkedList.links c.at.result.now = same_Some _ _ (sym t.here ∙ ap (option_map g.T.LinkedList.links) (rw c.from_index-node.ensures at c.at.ensures)) in
    let next : c.get_next-self-inside.result ≡ t.links.next = c.get_next-self-inside.ensures ∙ sym (ap (λ (l : Links). l.next) here) in
    rw next more.0

pub returns-else-eq : goal.returns-else-eq
returns-else-eq g c =
    let it = c.self.inside in
    let h : Heap Links = seen g.T.LinkedList.links it.nodes.now in
    let room = length it.nodes.now.slots in
    let x = c.in_ok-current.current in
    let t = take-next c.self.invariant (sym c.get.ensures ∙ c.in_ok-current.was) in
    let more = t.further (other-option it.next_back x c.eq.result (rw c.get-2.ensures at c.eq.ensures) c.if-eq.false) in
    let here : t.links ≡ g.T.LinkedList.links c.at.result.now = same_Some _ _ (sym t.here ∙ ap (option_map g.T.LinkedList.links) (rw c.from_index-node.ensures at c.at.ensures)) in
    let next : c.get_next-self-inside.result ≡ t.links.next = c.get_next-self-inside.ensures ∙ sym (ap (λ (l : Links). l.next) here) in
    let rest : walk_to room h c.get_next-self-inside.result it.next_back ≡ t.rest = rw next more.1 in
    let items : c.args.self.now ≡ c.from_index-node.result.index ∷ walk_to room h c.get_next-self-inside.result it.next_back =
    sym c.self.view_is ∙ t.items ∙ ap (λ (ys : List ArenaIndex). x ∷ ys) (sym rest) ∙ ap (λ (y : ArenaIndex). y ∷ walk_to room h c.get_next-self-inside.result it.next_back) (sym c.from_index-node.ensures) in
    let less : length (walk_to room h c.get_next-self-inside.result it.next_back) < length c.args.self.now = omega (arith, ap length items) in
    record { steps = items; goes = record { on = λ _. (tt, tt, less); keeps = tt; rests = λ _. tt } }
