use Rattle.std.proofs.Common.{◌≡◌, List, Result, Ok, Err, sym, subst}
use Rattle.std.specs.Prelude.{IfOk, OnErr}
use Rattle.ir_model.specs.declared.ids.ArenaIndex.{ArenaIndex}
use Rattle.ir_base_arenas.specs.Arena.{Arena, fill, IsNew}
use Rattle.ir_base_arenas.specs.Lists.{Links, Ends, Heap, seen, unlinked, AreLists, AreWellFormed}
use Rattle.test_base.proofs.lists.Lists.add_node.Goals as goal

-- the lists stay well formed, whether or not the node was stored
kept : {T P E : Type 0} (index : P → ArenaIndex) (links : T → Links) (old new : Arena T) (r : Heap Ends) (v : T) (o : Result P E)
    → ((lists : ArenaIndex → List ArenaIndex) → AreLists (seen links old) r lists → (id : ArenaIndex) (node : T) → IsNew old id → links node ≡ unlinked → AreLists (seen links (fill old id node)) r lists)
    → IfOk o (λ p. new ≡ fill old (index p) v) → IfOk o (λ p. IsNew old (index p)) → OnErr o (new ≡ old) → links v ≡ unlinked
    → AreWellFormed (seen links old) r → AreWellFormed (seen links new) r
kept index links old new r v (Ok p) law filled fresh same free w =
    (w.0, subst (λ a. AreLists (seen links a) r w.0) (sym filled) (law w.0 w.1 (index p) v fresh free))
kept index links old new r v (Err e) law filled fresh same free w = subst (λ a. AreWellFormed (seen links a) r) (sym same) w

pub invariant_of-self : goal.invariant_of-self
invariant_of-self g c =
    kept (λ p. p.index) g.T.LinkedList.links c.self.inside.nodes c.store.new.arena (seen g.C.ContainsLinkedList.ends c.self.inside.containers) c.args.node c.store.result
    (c.node_changes_keep_lists.ensures.inserted c.self.inside.nodes c.self.inside.containers) c.store.ensures.filled c.store.ensures.new_id c.store.ensures.err c.requires c.self.invariant
