use Rattle.std.proofs.Common.{◌≡◌, ◌+◌, map, sym, ap, ◌∙◌, arith}
use Rattle.std.proofs.lemmas.List.{length-map}
use Rattle.ir_model.specs.Slots.{item_under}
use Rattle.ir_model.proofs.Slots.{find_zero}
use Rattle.ir_base_arenas.specs.ArenaSound.{slot_shown, held}
use Rattle.ir_base_arenas.proofs.ArenaChain.{find-shown, find-past, held-read}
use Rattle.ir_base_arenas.proofs.arena.Arena.get.Goals as goal

pub returns-in_err-place : goal.returns-in_err-place
returns-in_err-place g c =
    let none : c.args.ptr.index.slot ≡ 0 = omega (arith, c.in_err-place.ensures) in
    rw c.from_residual.ensures (sym (find_zero c.args.self.now.slots c.args.ptr.index none))

pub returns-in-Some : goal.returns-in-Some
returns-in-Some g c =
    let numbered : c.args.ptr.index.slot ≡ c.in_ok-place.place + 1 = omega (arith, c.in_ok-place.ensures) in
    let lookup = rw c.deref.ensures.value at c.in-Some.ensures.lookup.3 in
    let read = held-read c.self.inside.slots.items c.in_ok-place.place c.in-Some.slot.now lookup.0 (lookup.1 c.in-Some.slot.now) in
    rw (← c.self.view_is) (c.item.ensures ∙ ap (λ s. item_under (slot_shown s) c.args.ptr.index.version) (sym read) ∙ sym (find-shown (map held c.self.inside.slots.items) c.args.ptr.index c.in_ok-place.place numbered))

pub returns-in-None : goal.returns-in-None
returns-in-None g c =
    let past = rw c.deref.ensures.value at c.in-None.ensures.lookup.3 in
    rw (← c.self.view_is) (sym (find-past (map held c.self.inside.slots.items) c.args.ptr.index (omega (arith, c.in_ok-place.ensures, past, length-map c.self.inside.slots.items held))))
