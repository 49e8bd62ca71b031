use Rattle.std.proofs.Common.{◌≡◌, List, Result, Ok, Err, sym, subst}
use Rattle.std.specs.Prelude.{IfOk, OnErr}
use Rattle.ir_model.specs.declared.ids.ArenaIndex.{ArenaIndex}
use Rattle.ir_base_arenas.specs.Arena.{Arena, fill, IsNew}
use Rattle.ir_base_arenas.specs.Lists.{Links, Ends, Heap, seen, no_ends, AreLists, AreWellFormed}
use Rattle.test_base.proofs.lists.Lists.add_container.Goals as goal

-- the lists stay well formed, whether or not the container was stored
kept : {C P E : Type 0} (index : P → ArenaIndex) (ends : C → Ends) (old new : Arena C) (h : Heap Links) (v : C) (o : Result P E)
    → ((lists : ArenaIndex → List ArenaIndex) → AreLists h (seen ends old) lists → (id : ArenaIndex) (container : C) → IsNew old id → ends container ≡ no_ends → AreLists h (seen ends (fill old id container)) lists)
    → IfOk o (λ p. new ≡ fill old (index p) v) → IfOk o (λ p. IsNew old (index p)) → OnErr o (new ≡ old) → ends v ≡ no_ends
    → AreWellFormed h (seen ends old) → AreWellFormed h (seen ends new)
kept index ends old new h v (Ok p) law filled fresh same free w =
    (w.0, subst (λ a. AreLists h (seen ends a) w.0) (sym filled) (law w.0 w.1 (index p) v fresh free))
kept index ends old new h v (Err e) law filled fresh same free w = subst (λ a. AreWellFormed h (seen ends a)) (sym same) w

pub invariant_of-self : goal.invariant_of-self
invariant_of-self g c =
    kept (λ p. p.index) g.C.ContainsLinkedList.ends c.self.inside.containers c.store.new.arena (seen g.T.LinkedList.links c.self.inside.nodes) c.args.container c.store.result
    (c.container_changes_keep_lists.ensures.inserted c.self.inside.nodes c.self.inside.containers) c.store.ensures.filled c.store.ensures.new_id c.store.ensures.err c.requires c.self.invariant
