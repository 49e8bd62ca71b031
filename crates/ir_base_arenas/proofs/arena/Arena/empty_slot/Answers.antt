use Rattle.std.proofs.Common.{◌≡◌, ◌<◌, length, map, IsSome, sym, ap, subst, ◌∙◌, arith, true≢false}
use Rattle.std.proofs.lemmas.List.{length-map}
use Rattle.ir_model.specs.Slots.{slot_in}
use Rattle.ir_base_arenas.specs.ArenaSound.{slot_shown, held}
use Rattle.ir_base_arenas.proofs.ArenaChain.{held-read, held_version, shown-at}
use Rattle.ir_base_arenas.proofs.ArenaCleared.{emptied-dead, emptied-live, on_some}
use Rattle.ir_base_arenas.proofs.arena.Arena.empty_slot.Goals as goal

pub returns-then-is_live : goal.returns-then-is_live
returns-then-is_live g c =
    let live = c.is_live.ensures.0 c.if-is_live.true in
    on_some c.remove.result _ (subst IsSome (sym c.remove.ensures.value) live) c.remove.ensures.cut
    ∙ emptied-live c.args.self.now c.args.place c.from_index-ptr.result.index (ap (λ i. i.slot) c.from_index-ptr.ensures) live

pub returns-else-is_live : goal.returns-else-is_live
returns-else-is_live g c =
    let slots = map held c.self.inside.slots.items in
    let seen : c.args.place < length (map slot_shown slots) = subst (λ a. c.args.place < length a.slots) (sym c.self.view_is) c.requires in
    let within : c.args.place < length c.self.inside.slots.items = omega (arith, seen, length-map slots slot_shown, length-map c.self.inside.slots.items held) in
    let read = held-read c.self.inside.slots.items c.args.place c.index.result.now within c.index.ensures in
    let version : (slot_in (map slot_shown slots) c.args.place).version ≡ c.from_index-ptr.result.index.version =
    ap (λ s. s.version) (shown-at slots c.args.place) ∙ ap (λ h. (slot_shown h).version) read ∙ held_version c.index.result.now ∙ sym (ap (λ i. i.version) c.from_index-ptr.ensures) in
    emptied-dead c.args.self.now c.args.place c.from_index-ptr.result.index (ap (λ i. i.slot) c.from_index-ptr.ensures)
    (subst (λ a. (slot_in a.slots c.args.place).version ≡ c.from_index-ptr.result.index.version) c.self.view_is version)
    (λ live. true≢false (sym (c.is_live.ensures.1 live) ∙ c.if-is_live.false))
