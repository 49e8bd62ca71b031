use Rattle.std.proofs.Common.{◌-◌, ◌<◌, length, map, sym, ap, subst, ◌∙◌, arith}
use Rattle.std.proofs.lemmas.List.{length-map}
use Rattle.ir_model.proofs.Slots.{taken_at}
use Rattle.ir_base_arenas.specs.Arena.{IsLiveIn}
use Rattle.ir_base_arenas.specs.ArenaSound.{slot_shown, held}
use Rattle.ir_base_arenas.proofs.ArenaChain.{cut-shown, held-freed, laid-listed, laid-retired, laid-some}
use Rattle.ir_base_arenas.proofs.arena.Arena.vacate.Goals as goal

pub overflow_sub-place : goal.overflow_sub-place
overflow_sub-place g c = (taken_at c.args.self.now.slots c.args.ptr.index c.requires).numbered

pub index_mut-requires : goal.index_mut-requires
index_mut-requires g c =
    let live = taken_at (map slot_shown (map held c.self.inside.slots.items)) c.args.ptr.index (subst (λ a. IsLiveIn a c.args.ptr.index) (sym c.self.view_is) c.requires) in
    omega (arith, live.within, length-map (map held c.self.inside.slots.items) slot_shown, length-map c.self.inside.slots.items held, c.self.inside.slots.ok.0)

pub overflow_sub-self : goal.overflow_sub-self
overflow_sub-self g c =
    let live = taken_at (map slot_shown (map held c.self.inside.slots.items)) c.args.ptr.index (subst (λ a. IsLiveIn a c.args.ptr.index) (sym c.self.view_is) c.requires) in
    laid-some c.args.ptr.index c.self.invariant live

pub invariant_of-self : goal.invariant_of-self
invariant_of-self g c =
    let live = taken_at (map slot_shown (map held c.self.inside.slots.items)) c.args.ptr.index (subst (λ a. IsLiveIn a c.args.ptr.index) (sym c.self.view_is) c.requires) in
    let freed = held-freed c.self.inside.slots.items c.self.inside.first_free c.self.inside.free c.self.inside.len c.self.inside.limit c.self.inside.last_version c.args.ptr.index c.index_mut.result.now c.self.invariant live c.index_mut.ensures.value in
    rw freed (laid-listed c.args.ptr.index c.self.invariant live (sym c.has_next.ensures ∙ c.if-has_next.true))

pub invariant_of-self-else-has_next : goal.invariant_of-self-else-has_next
invariant_of-self-else-has_next g c =
    let live = taken_at (map slot_shown (map held c.self.inside.slots.items)) c.args.ptr.index (subst (λ a. IsLiveIn a c.args.ptr.index) (sym c.self.view_is) c.requires) in
    let freed = held-freed c.self.inside.slots.items c.self.inside.first_free c.self.inside.free c.self.inside.len c.self.inside.limit c.self.inside.last_version c.args.ptr.index c.index_mut.result.now c.self.invariant live c.index_mut.ensures.value in
    rw freed (laid-retired c.args.ptr.index c.self.invariant live (sym c.has_next.ensures ∙ c.if-has_next.false))

pub returns-then-has_next : goal.returns-then-has_next
returns-then-has_next g c =
    let live = taken_at (map slot_shown (map held c.self.inside.slots.items)) c.args.ptr.index (subst (λ a. IsLiveIn a c.args.ptr.index) (sym c.self.view_is) c.requires) in
    let freed = held-freed c.self.inside.slots.items c.self.inside.first_free c.self.inside.free c.self.inside.len c.self.inside.limit c.self.inside.last_version c.args.ptr.index c.index_mut.result.now c.self.invariant live c.index_mut.ensures.value in
    let within : c.args.ptr.index.slot - 1 < length (map held c.self.inside.slots.items) = omega (arith, live.within, length-map (map held c.self.inside.slots.items) slot_shown) in
    let slots = ap (λ l. map slot_shown l) freed ∙ cut-shown (map held c.self.inside.slots.items) c.args.ptr.index (c.args.ptr.index.slot - 1) c.self.inside.first_free (omega (arith, live.numbered)) within in
    let counted = c.next-self-inside.ensures in
    rw (← c.self.view_is) (λ i. record { slots = slots i; limit = c.self.inside.limit; last_version = c.self.inside.last_version; removals = counted i })

pub returns-else-has_next : goal.returns-else-has_next
returns-else-has_next g c =
    let live = taken_at (map slot_shown (map held c.self.inside.slots.items)) c.args.ptr.index (subst (λ a. IsLiveIn a c.args.ptr.index) (sym c.self.view_is) c.requires) in
    let freed = held-freed c.self.inside.slots.items c.self.inside.first_free c.self.inside.free c.self.inside.len c.self.inside.limit c.self.inside.last_version c.args.ptr.index c.index_mut.result.now c.self.invariant live c.index_mut.ensures.value in
    let within : c.args.ptr.index.slot - 1 < length (map held c.self.inside.slots.items) = omega (arith, live.within, length-map (map held c.self.inside.slots.items) slot_shown) in
    let slots = ap (λ l. map slot_shown l) freed ∙ cut-shown (map held c.self.inside.slots.items) c.args.ptr.index (c.args.ptr.index.slot - 1) c.self.inside.first_free (omega (arith, live.numbered)) within in
    let counted = c.next-self-inside.ensures in
    rw (← c.self.view_is) (λ i. record { slots = slots i; limit = c.self.inside.limit; last_version = c.self.inside.last_version; removals = counted i })
