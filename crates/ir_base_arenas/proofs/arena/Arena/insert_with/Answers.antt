use Rattle.std.proofs.Common.{◌≡◌, ◌+◌, ◌-◌, ◌<◌, ◌≤◌, [], ◌∷◌, ◌++◌, length, length-set, map, set, refl, sym, ap, ◌∙◌, arith}
use Rattle.std.proofs.lemmas.List.{length-map, length_push, map-set, map-append}
use Rattle.ir_model.specs.declared.ids.ArenaIndex.{ArenaIndex}
use Rattle.ir_base_arenas.specs.declared.arena.Slot.{Slot as Laid}
use Rattle.ir_base_arenas.specs.ArenaSound.{Full, slot_shown, held, held_in, next_in}
use Rattle.ir_base_arenas.proofs.ArenaSound.{inserts_is}
use Rattle.ir_base_arenas.proofs.ArenaChain.{laid-next, laid-more, laid-room, laid-whole, last_is_new, free-none, write-shown, push-shown, held-read, held_version, held_next}
use Rattle.ir_base_arenas.proofs.arena.Arena.insert_with.Goals as goal

pub index-slot-requires : goal.index-slot-requires
index-slot-requires g c =
    let k = c.self.inside.first_free - 1 in
    let next = laid-next k c.self.inside.removals.count c.self.invariant (omega (arith, c.if-self-gt0.true)) in
    omega (arith, next.within, length-map c.self.inside.slots.items held, c.self.inside.slots.ok.0)

pub overflow_add-version : goal.overflow_add-version
overflow_add-version g c =
    let k = c.self.inside.first_free - 1 in
    let next = laid-next k c.self.inside.removals.count c.self.invariant (omega (arith, c.if-self-gt0.true)) in
    let within : k < length c.self.inside.slots.items = omega (arith, next.within, length-map c.self.inside.slots.items held) in
    let read = held-read c.self.inside.slots.items _ _ within c.index-slot.ensures in
    let at : c.index-slot.result.now.version ≡ (slot_shown (held_in (map held c.self.inside.slots.items) k)).version = sym (ap (λ s. (slot_shown s).version) read ∙ held_version c.index-slot.result.now) in
    let fits : c.index-slot.result.now.version + 2 ≤ c.self.inside.last_version = rw at next.fits in
    omega arith

pub make-item-requires : goal.make-item-requires
make-item-requires g c =
    let k = c.self.inside.first_free - 1 in
    let next = laid-next k c.self.inside.removals.count c.self.invariant (omega (arith, c.if-self-gt0.true)) in
    let within : k < length c.self.inside.slots.items = omega (arith, next.within, length-map c.self.inside.slots.items held) in
    let read = held-read c.self.inside.slots.items _ _ within c.index-slot.ensures in
    let at : c.index-slot.result.now.version ≡ (slot_shown (held_in (map held c.self.inside.slots.items) k)).version = sym (ap (λ s. (slot_shown s).version) read ∙ held_version c.index-slot.result.now) in
    let numbered : c.self.inside.first_free ≡ k + 1 = omega (arith, c.if-self-gt0.true) in
    let id : ArenaIndex = record { slot = k + 1; version = (slot_shown (held_in (map held c.self.inside.slots.items) k)).version + 2 } in
    let same : c.from_index-ptr.result.index ≡ id = c.from_index-ptr.ensures ∙ (λ i. record { slot = numbered i; version = at i + 2 }) in
    c.requires c.from_index-ptr.result (rw (← c.self.view_is, same) next.fresh)

pub index_mut-slot-requires : goal.index_mut-slot-requires
index_mut-slot-requires g c =
    let k = c.self.inside.first_free - 1 in
    let next = laid-next k c.self.inside.removals.count c.self.invariant (omega (arith, c.if-self-gt0.true)) in
    omega (arith, next.within, length-map c.self.inside.slots.items held, c.self.inside.slots.ok.0)

pub invariant_of-self : goal.invariant_of-self
invariant_of-self g c =
    let k = c.self.inside.first_free - 1 in
    let next = laid-next k c.self.inside.removals.count c.self.invariant (omega (arith, c.if-self-gt0.true)) in
    let within : k < length c.self.inside.slots.items = omega (arith, next.within, length-map c.self.inside.slots.items held) in
    let read = held-read c.self.inside.slots.items _ _ within c.index-slot.ensures in
    let at : c.index-slot.result.now.version ≡ (slot_shown (held_in (map held c.self.inside.slots.items) k)).version = sym (ap (λ s. (slot_shown s).version) read ∙ held_version c.index-slot.result.now) in
    let follows : next_in (held_in (map held c.self.inside.slots.items) k) ≡ c.index-slot.result.now.next = ap next_in read ∙ held_next c.index-slot.result.now (rw read at next.vacant) in
    rw (map-set held, at, ← follows) (next.more c.make-item.result)

pub returns-then-self-gt0-clause-inserted : goal.returns-then-self-gt0-clause-inserted
returns-then-self-gt0-clause-inserted g c =
    let k = c.self.inside.first_free - 1 in
    let next = laid-next k c.self.inside.removals.count c.self.invariant (omega (arith, c.if-self-gt0.true)) in
    let within : k < length c.self.inside.slots.items = omega (arith, next.within, length-map c.self.inside.slots.items held) in
    let read = held-read c.self.inside.slots.items _ _ within c.index-slot.ensures in
    let at : c.index-slot.result.now.version ≡ (slot_shown (held_in (map held c.self.inside.slots.items) k)).version = sym (ap (λ s. (slot_shown s).version) read ∙ held_version c.index-slot.result.now) in
    let numbered : c.self.inside.first_free ≡ k + 1 = omega (arith, c.if-self-gt0.true) in
    let id : ArenaIndex = record { slot = k + 1; version = (slot_shown (held_in (map held c.self.inside.slots.items) k)).version + 2 } in
    let same : c.from_index-ptr.result.index ≡ id = c.from_index-ptr.ensures ∙ (λ i. record { slot = numbered i; version = at i + 2 }) in
    let filled : Laid g.row.T.Denot = record { version = id.version; next = 4294967295; item = c.make-item.result } in
    let written = ap (λ l. map slot_shown l) (map-set held c.self.inside.slots.items k filled) ∙ write-shown (map held c.self.inside.slots.items) k (Full id.version c.make-item.result) next.within in
    rw (← c.self.view_is, at) (inserts_is _ _ _ _ _ _ c.from_index-ptr.result.index id c.make-item.result next.fresh same c.make-item.ensures written)

pub returns-then-self-gt0-clause-room : goal.returns-then-self-gt0-clause-room
returns-then-self-gt0-clause-room g c =
    let k = c.self.inside.first_free - 1 in
    let next = laid-next k c.self.inside.removals.count c.self.invariant (omega (arith, c.if-self-gt0.true)) in
    let before = laid-room c.self.inside.removals.count c.self.invariant in
    let after = laid-room c.self.inside.removals.count (invariant_of-self g c) in
    let filled : Laid g.row.T.Denot = record { version = c.index-slot.result.now.version + 2; next = 4294967295; item = c.make-item.result } in
    rw (← c.self.view_is) (omega (arith, next.some, length-set c.self.inside.slots.items k filled, length-map (set c.self.inside.slots.items k filled) held, length-map c.self.inside.slots.items held))

pub returns-then-self-gt0-clause-spent : goal.returns-then-self-gt0-clause-spent
returns-then-self-gt0-clause-spent g c =
    let k = c.self.inside.first_free - 1 in
    let next = laid-next k c.self.inside.removals.count c.self.invariant (omega (arith, c.if-self-gt0.true)) in
    let before = laid-room c.self.inside.removals.count c.self.invariant in
    (λ e. cc, rw (← c.self.view_is) (λ e. absurd (omega (arith, before, next.some, e))))

pub returns-then-at-self-clause-spent : goal.returns-then-at-self-clause-spent
returns-then-at-self-clause-spent g c =
    let none : c.self.inside.first_free ≡ 0 = omega (arith, c.if-self-gt0.false) in
    let counted = c.self.inside.slots.ok.0 in
    let count = c.len-at.ensures in
    let left = laid-room c.self.inside.removals.count c.self.invariant in
    let within = (laid-whole c.self.inside.removals.count c.self.invariant).within in
    let measured = length-map c.self.inside.slots.items held in
    let seen = length-map (map held c.self.inside.slots.items) slot_shown in
    let spare = free-none c.self.invariant none in
    (λ e. rw (← c.self.view_is) (omega (arith, c.if-at-self.true)), λ e. refl)

pub returns-then-is_err-clause-spent : goal.returns-then-is_err-clause-spent
returns-then-is_err-clause-spent g c =
    let none : c.self.inside.first_free ≡ 0 = omega (arith, c.if-self-gt0.false) in
    let counted = c.self.inside.slots.ok.0 in
    let count = c.len-at.ensures in
    let left = laid-room c.self.inside.removals.count c.self.invariant in
    let within = (laid-whole c.self.inside.removals.count c.self.invariant).within in
    let measured = length-map c.self.inside.slots.items held in
    let seen = length-map (map held c.self.inside.slots.items) slot_shown in
    let spare = free-none c.self.invariant none in
    (λ e. cc, rw (← c.self.view_is) (λ e. absurd (omega (arith, c.if-at-self.false))))

pub returns-then-is_err-clause-grown : goal.returns-then-is_err-clause-grown
returns-then-is_err-clause-grown g c =
    let none : c.self.inside.first_free ≡ 0 = omega (arith, c.if-self-gt0.false) in
    let counted = c.self.inside.slots.ok.0 in
    let count = c.len-at.ensures in
    let left = laid-room c.self.inside.removals.count c.self.invariant in
    let within = (laid-whole c.self.inside.removals.count c.self.invariant).within in
    let measured = length-map c.self.inside.slots.items held in
    let seen = length-map (map held c.self.inside.slots.items) slot_shown in
    let spare = free-none c.self.invariant none in
    λ e. rw (← c.self.view_is) (omega arith)

pub make-item-requires-2 : goal.make-item-requires-2
make-item-requires-2 g c =
    let none : c.self.inside.first_free ≡ 0 = omega (arith, c.if-self-gt0.false) in
    let counted = c.self.inside.slots.ok.0 in
    let count = c.len-at.ensures in
    let below : length (map held c.self.inside.slots.items) < c.self.inside.limit = omega (arith, c.if-at-self.false, (laid-whole c.self.inside.removals.count c.self.invariant).within, length-map (map held c.self.inside.slots.items) slot_shown, length-map c.self.inside.slots.items held) in
    let last : c.len-at.result ≡ length (map held c.self.inside.slots.items) = omega (arith, length-map c.self.inside.slots.items held) in
    c.requires c.from_index-ptr-2.result (rw (← c.self.view_is, c.from_index-ptr-2.ensures, last) (last_is_new c.self.inside.removals.count c.self.invariant below))

pub invariant_of-self-2 : goal.invariant_of-self-2
invariant_of-self-2 g c =
    let none : c.self.inside.first_free ≡ 0 = omega (arith, c.if-self-gt0.false) in
    let counted = c.self.inside.slots.ok.0 in
    let count = c.len-at.ensures in
    let below : length (map held c.self.inside.slots.items) < c.self.inside.limit = omega (arith, c.if-at-self.false, (laid-whole c.self.inside.removals.count c.self.invariant).within, length-map (map held c.self.inside.slots.items) slot_shown, length-map c.self.inside.slots.items held) in
    let made : Laid g.row.T.Denot = record { version = 1; next = 4294967295; item = c.make-item-2.result } in
    rw (c.push_reserved.ensures.items, c.reserve.ensures.items, map-append held c.self.inside.slots.items (made ∷ [])) (laid-more c.make-item-2.result c.self.invariant none below)

pub returns-clause-spent : goal.returns-clause-spent
returns-clause-spent g c =
    let none : c.self.inside.first_free ≡ 0 = omega (arith, c.if-self-gt0.false) in
    let counted = c.self.inside.slots.ok.0 in
    let count = c.len-at.ensures in
    let left = laid-room c.self.inside.removals.count c.self.invariant in
    let within = (laid-whole c.self.inside.removals.count c.self.invariant).within in
    let measured = length-map c.self.inside.slots.items held in
    let seen = length-map (map held c.self.inside.slots.items) slot_shown in
    let spare = free-none c.self.invariant none in
    (λ e. cc, rw (← c.self.view_is) (λ e. absurd (omega (arith, c.if-at-self.false))))

pub returns-clause-inserted : goal.returns-clause-inserted
returns-clause-inserted g c =
    let none : c.self.inside.first_free ≡ 0 = omega (arith, c.if-self-gt0.false) in
    let counted = c.self.inside.slots.ok.0 in
    let count = c.len-at.ensures in
    let below : length (map held c.self.inside.slots.items) < c.self.inside.limit = omega (arith, c.if-at-self.false, (laid-whole c.self.inside.removals.count c.self.invariant).within, length-map (map held c.self.inside.slots.items) slot_shown, length-map c.self.inside.slots.items held) in
    let last : c.len-at.result ≡ length (map held c.self.inside.slots.items) = omega (arith, length-map c.self.inside.slots.items held) in
    let made : Laid g.row.T.Denot = record { version = 1; next = 4294967295; item = c.make-item-2.result } in
    let written = ap (λ l. map slot_shown l) (map-append held c.self.inside.slots.items (made ∷ [])) ∙ push-shown (map held c.self.inside.slots.items) (Full 1 c.make-item-2.result) in
    rw (← c.self.view_is, c.push_reserved.ensures.items, c.reserve.ensures.items)
    (inserts_is _ _ _ _ _ _ _ (record { slot = length (map held c.self.inside.slots.items) + 1; version = 1 }) c.make-item-2.result (last_is_new c.self.inside.removals.count c.self.invariant below) (rw last at c.from_index-ptr-2.ensures) c.make-item-2.ensures written)

pub returns-clause-room : goal.returns-clause-room
returns-clause-room g c =
    let none : c.self.inside.first_free ≡ 0 = omega (arith, c.if-self-gt0.false) in
    let counted = c.self.inside.slots.ok.0 in
    let count = c.len-at.ensures in
    let below : length (map held c.self.inside.slots.items) < c.self.inside.limit = omega (arith, c.if-at-self.false, (laid-whole c.self.inside.removals.count c.self.invariant).within, length-map (map held c.self.inside.slots.items) slot_shown, length-map c.self.inside.slots.items held) in
    let before = laid-room c.self.inside.removals.count c.self.invariant in
    let after = laid-room c.self.inside.removals.count (invariant_of-self-2 g c) in
    let made : Laid g.row.T.Denot = record { version = 1; next = 4294967295; item = c.make-item-2.result } in
    let longer = length_push c.self.inside.slots.items made in
    let items = ap length (c.push_reserved.ensures.items ∙ ap (λ xs. xs ++ made ∷ []) c.reserve.ensures.items) in
    rw (← c.self.view_is) (omega (arith, length-map c.push_reserved.new.self.items held, length-map c.self.inside.slots.items held))
