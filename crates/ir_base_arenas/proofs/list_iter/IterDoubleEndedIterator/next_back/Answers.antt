use Rattle.std.proofs.Common.{◌≡◌, ◌<◌, ◌∷◌, ◌++◌, [], length-append, sym, ap, ◌∙◌, arith, length, List}
use Rattle.std.specs.Option.{option_map}
use Rattle.std.proofs.lemmas.Option.{same_Some}
use Rattle.ir_model.specs.declared.ids.ArenaIndex.{ArenaIndex}
use Rattle.ir_base_arenas.specs.Lists.{seen, Links, Heap}
use Rattle.ir_base_arenas.specs.Walks.{walk_to}
use Rattle.ir_base_arenas.proofs.ListPlaces.{live-from_seen}
use Rattle.ir_base_arenas.proofs.ListWalks.{take-back, other-option}
use Rattle.ir_base_arenas.proofs.list_iter.IterDoubleEndedIterator.next_back.Goals as goal

pub at-requires : goal.at-requires
at-requires g c =
    let t = take-back c.self.invariant (sym c.get.ensures ∙ c.in_ok-current.was) in
    rw c.from_index-node.ensures (live-from_seen g.T.LinkedList.links c.self.inside.nodes.now c.in_ok-current.current t.links t.here)

pub invariant_of-self-else-eq : goal.invariant_of-self-else-eq
invariant_of-self-else-eq g c =
    let it = c.self.inside in
    let h : Heap Links = seen g.T.LinkedList.links it.nodes.now in
    let t = take-back c.self.invariant (sym c.get.ensures ∙ c.in_ok-current.was) in
    let more = t.further (other-option it.next c.in_ok-current.current c.eq.result (rw c.get-2.ensures at c.eq.ensures) c.if-eq.false) in
    let here : t.links ≡ g.T.LinkedList.links c.at.result.now = same_Some _ _ (sym t.here ∙ ap (option_map g.T.LinkedList.links) (rw c.from_index-node.ensures at c.at.ensures)) in
    let prev : c.get_prev-self-inside.result ≡ t.links.prev = c.get_prev-self-inside.ensures ∙ sym (ap (λ (l : Links). l.prev) here) in
    rw prev more.0

pub returns-else-eq : goal.returns-else-eq
returns-else-eq g c =
    let it = c.self.inside in
    let h : Heap Links = seen g.T.LinkedList.links it.nodes.now in
    let room = length it.nodes.now.slots in
    let x = c.in_ok-current.current in
    let t = take-back c.self.invariant (sym c.get.ensures ∙ c.in_ok-current.was) in
    let more = t.further (other-option it.next x c.eq.result (rw c.get-2.ensures at c.eq.ensures) c.if-eq.false) in
    let here : t.links ≡ g.T.LinkedList.links c.at.result.now = same_Some _ _ (sym t.here ∙ ap (option_map g.T.LinkedList.links) (rw c.from_index-node.ensures at c.at.ensures)) in
    let prev : c.get_prev-self-inside.result ≡ t.links.prev = c.get_prev-self-inside.ensures ∙ sym (ap (λ (l : Links). l.prev) here) in
    let rest : walk_to room h it.next c.get_prev-self-inside.result ≡ t.rest = rw prev more.1 in
    let items : c.args.self.now ≡ walk_to room h it.next c.get_prev-self-inside.result ++ c.from_index-node.result.index ∷ [] =
    sym c.self.view_is ∙ t.items ∙ ap (λ (ys : List ArenaIndex). ys ++ x ∷ []) (sym rest) ∙ ap (λ (y : ArenaIndex). walk_to room h it.next c.get_prev-self-inside.result ++ y ∷ []) (sym c.from_index-node.ensures) in
    let less : length (walk_to room h it.next c.get_prev-self-inside.result) < length c.args.self.now =
    omega (arith, ap length items, length-append (walk_to room h it.next c.get_prev-self-inside.result) (c.from_index-node.result.index ∷ [])) in
    record { steps = items; goes = record { on = λ _. (tt, tt, less); keeps = tt; rests = λ _. tt } }
