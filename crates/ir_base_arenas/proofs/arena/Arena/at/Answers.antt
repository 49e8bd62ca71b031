use Rattle.std.proofs.Common.{map, sym, ap, subst, ◌∙◌, arith}
use Rattle.std.proofs.lemmas.List.{length-map}
use Rattle.ir_model.proofs.Slots.{taken_at}
use Rattle.ir_base_arenas.specs.Arena.{IsLiveIn}
use Rattle.ir_base_arenas.specs.ArenaSound.{slot_shown, held}
use Rattle.ir_base_arenas.proofs.ArenaChain.{held_at, held-read, held_full}
use Rattle.ir_base_arenas.proofs.arena.Arena.at.Goals as goal

pub overflow_sub-place : goal.overflow_sub-place
overflow_sub-place g c = (taken_at c.args.self.now.slots c.args.ptr.index c.requires).numbered

pub index-requires : goal.index-requires
index-requires g c =
    let live = held_at (map held c.self.inside.slots.items) c.args.ptr.index (subst (λ a. IsLiveIn a c.args.ptr.index) (sym c.self.view_is) c.requires) in
    omega (arith, live.within, length-map c.self.inside.slots.items held, c.self.inside.slots.ok.0)

pub returns : goal.returns
returns g c =
    let live = held_at (map held c.self.inside.slots.items) c.args.ptr.index (subst (λ a. IsLiveIn a c.args.ptr.index) (sym c.self.view_is) c.requires) in
    let read = held-read c.self.inside.slots.items _ _ (omega (arith, live.within, length-map c.self.inside.slots.items held)) c.index.ensures in
    rw (← c.self.view_is) (live.found ∙ ap (λ s. (slot_shown s).item) read ∙ held_full _ (rw read at live.some))
