use Rattle.std.proofs.Common.{◌≡◌, ◌+◌, ◌-◌, map, set, refl, sym, ap, subst, ◌∙◌, arith}
use Rattle.std.proofs.lemmas.List.{length-map, map-set}
use Rattle.ir_model.proofs.Slots.{taken_at}
use Rattle.ir_base_arenas.specs.Arena.{IsLiveIn}
use Rattle.ir_base_arenas.specs.ArenaSound.{slot_shown, held, with_item}
use Rattle.ir_base_arenas.proofs.ArenaChain.{held_at, held-read, held_full, held_with, laid-rewrite, fill-shown}
use Rattle.ir_base_arenas.proofs.arena.Arena.at_mut.Goals as goal

pub overflow_sub-place : goal.overflow_sub-place
overflow_sub-place g c = (taken_at c.args.self.now.slots c.args.ptr.index c.requires).numbered

pub index_mut-requires : goal.index_mut-requires
index_mut-requires g c =
    let live = held_at (map held c.self.inside.slots.items) c.args.ptr.index (subst (λ a. IsLiveIn a c.args.ptr.index) (sym c.self.view_is) c.requires) in
    omega (arith, live.within, length-map c.self.inside.slots.items held, c.self.inside.slots.ok.0)

pub invariant_of-self-lent : goal.invariant_of-self-lent
invariant_of-self-lent g c w =
    let live = held_at (map held c.self.inside.slots.items) c.args.ptr.index (subst (λ a. IsLiveIn a c.args.ptr.index) (sym c.self.view_is) c.requires) in
    let read = held-read c.self.inside.slots.items _ _ (omega (arith, live.within, length-map c.self.inside.slots.items held)) c.index_mut.ensures.value in
    rw (map-set held c.self.inside.slots.items (c.args.ptr.index.slot - 1) (record c.index_mut.result.now { item = w }), held_with c.index_mut.result.now w, ← read) (laid-rewrite (c.args.ptr.index.slot - 1) w c.self.invariant live.within)

pub returns : goal.returns
returns g c =
    let live = held_at (map held c.self.inside.slots.items) c.args.ptr.index (subst (λ a. IsLiveIn a c.args.ptr.index) (sym c.self.view_is) c.requires) in
    let read = held-read c.self.inside.slots.items _ _ (omega (arith, live.within, length-map c.self.inside.slots.items held)) c.index_mut.ensures.value in
    let numbered : c.args.ptr.index.slot ≡ (c.args.ptr.index.slot - 1) + 1 = omega (arith, live.numbered) in
    let found = ap (λ s. (slot_shown s).item) read ∙ held_full _ (rw read at live.some) in
    let item = live.under ∙ found in
    let written = λ (w : g.row.T.Denot). ap (λ l. map slot_shown l) (map-set held c.self.inside.slots.items (c.args.ptr.index.slot - 1) (record c.index_mut.result.now { item = w }) ∙ ap (λ s. set (map held c.self.inside.slots.items) (c.args.ptr.index.slot - 1) s) (held_with c.index_mut.result.now w ∙ ap (λ s. with_item s w) (sym read))) ∙ fill-shown (map held c.self.inside.slots.items) c.args.ptr.index (c.args.ptr.index.slot - 1) c.index_mut.result.now.item w numbered live.within item in
    rw (← c.self.view_is) (
      (refl, λ w. λ i. record { slots = written w i; limit = c.self.inside.limit; last_version = c.self.inside.last_version; removals = c.self.inside.removals.count }),
      record { writes_back = tt; value = live.found ∙ found },
    )
