-- How each change of the slots as they lie in memory keeps an arena laid out.
use Rattle.std.proofs.Common.{◌≡◌, ℕ, ◌+◌, ◌-◌, ◌<◌, ◌≤◌, nat_eq, nat_le, true, false, List, [], ◌∷◌, ◌++◌, length, length-set, slice_index_or, map, set, Some, None, IsSome, cond, count_by, refl, sym, ap, subst, ◌∙◌, inl, inr, arith, is_some, true≢false}
use Rattle.std.proofs.Math.ListN.{get_or-map}
use Rattle.std.proofs.lemmas.Bool.Decides.{eqb_tells, leb_tells}
use Rattle.std.proofs.lemmas.List.{length-map, map-set, map-append, get_or-set_same, get_or-set_other, set-get_or, set-set, get_or_read}
use Rattle.std.proofs.lemmas.List.Sums.{sum_by-cons}
use Rattle.ir_model.specs.declared.ids.ArenaIndex.{ArenaIndex}
use Rattle.ir_model.specs.Slots.{Slot, slot_in, slot_at, find, item_under, put_in, put_slot}
use Rattle.ir_model.specs.Arenas.{Arena, IsNew, IsLiveIn, IsWhole, room, fill, cut}
use Rattle.ir_model.proofs.Slots.{IsTaken, taken_at, slot_at-next, find_past, put-next, put-set, put_in-set, put_in-push, item_under_cases}
use Rattle.ir_base_arenas.specs.declared.arena.Slot.{Slot as Laid}
use Rattle.ir_base_arenas.specs.ArenaSound.{Held, Full, Free, held, slot_shown, next_in, with_item, held_in, IsFreeChain, SlotsAreSound, IsLaid}
use Rattle.ir_base_arenas.proofs.ArenaSound.{reusable_is, offered, IsSound-rewrite, IsSound-reuse, IsSound-extend, offered_is_new, end_is_new, whole_is, room_is, vacate_listed, vacate_retired, unlisted_at, taken_counts}

module _ {T : Type 0} where
  pub shown-at : (slots : List (Held T)) (k : ℕ) → slot_in (map slot_shown slots) k ≡ slot_shown (held_in slots k)
  shown-at slots k = get_or-map slot_shown slots k (Free 0 0)

  -- a write of a slot that the chain doesn't have leaves the chain
  chained-set : (slots : List (Held T)) (first j : ℕ) (s : Held T) (places : List ℕ) → IsFreeChain slots first places → count_by (nat_eq j) places ≡ 0 → IsFreeChain (set slots j s) first places
  chained-set slots first j s [] chain none = chain
  chained-set slots first j s (k ∷ rest) chain none =
      let count = sum_by-cons (λ i. cond (nat_eq j i) 1 0) k rest in
      elim (eqb_tells j k) [
        | inl same ↦ absurd (omega (arith, count, none, ap {B = ℕ} (λ b. cond b 1 0) same.0))
        | inr ne ↦ (chain.0, rw (get_or-set_other slots j k s (Free 0 0) (λ e. ne.1 (sym e))) (chained-set slots (next_in (held_in slots k)) j s rest chain.1 (omega (arith, count, none))))
      ]

  -- what stands under an id is what its slot has under its version
  pub find-shown : (slots : List (Held T)) (id : ArenaIndex) (k : ℕ) → id.slot ≡ k + 1 → find (map slot_shown slots) id ≡ item_under (slot_shown (held_in slots k)) id.version
  unfolding find
  find-shown slots id k is = ap (λ s. item_under s id.version) (ap (slot_at (map slot_shown slots)) is ∙ slot_at-next (map slot_shown slots) k ∙ shown-at slots k)

  -- the slot of a live id, as it lies in memory
  pub record IsHeld (slots : List (Held T)) (id : ArenaIndex) : Type 0 where
    pub numbered : 1 ≤ id.slot
    pub within : id.slot - 1 < length slots
    pub some : IsSome (slot_shown (held_in slots (id.slot - 1))).item
    pub found : find (map slot_shown slots) id ≡ (slot_shown (held_in slots (id.slot - 1))).item
    pub under : item_under (slot_shown (held_in slots (id.slot - 1))) id.version ≡ (slot_shown (held_in slots (id.slot - 1))).item

  pub held_at : (slots : List (Held T)) (id : ArenaIndex) → IsSome (find (map slot_shown slots) id) → IsHeld slots id
  held_at slots id live =
      let taken = taken_at (map slot_shown slots) id live in
      let here = shown-at slots (id.slot - 1) in
      let found = taken.found ∙ ap (λ s. s.item) here in
      record {
        numbered = taken.numbered;
        within = omega (arith, taken.within, length-map slots slot_shown);
        some = subst (λ s. IsSome s.item) here taken.some;
        found = found;
        under = sym (find-shown slots id (id.slot - 1) (omega (arith, taken.numbered))) ∙ found;
      }

  pub find-past : (slots : List (Held T)) (id : ArenaIndex) → length slots < id.slot → find (map slot_shown slots) id ≡ None
  find-past slots id past = find_past (map slot_shown slots) id (omega (arith, past, length-map slots slot_shown))

  -- another record in a slot, if it has one
  pub laid-rewrite : {slots : List (Held T)} {first free len limit last : ℕ} (k : ℕ) (w : T) → IsLaid slots first free len limit last → k < length slots → IsLaid (set slots k (with_item (held_in slots k) w)) first free len limit last
  laid-rewrite {slots} {first} {free} {len} {limit} {last} k w laid within = by_slot (held_in slots k) refl
    where
      by_slot : (s : Held T) → held_in slots k ≡ s → IsLaid (set slots k (with_item s w)) first free len limit last
      by_slot (Full v x) is =
          let here : slot_in (map slot_shown slots) k ≡ record { version = v; item = Some x } = shown-at slots k ∙ ap slot_shown is in
          let inside : k < length (map slot_shown slots) = omega (arith, within, length-map slots slot_shown) in
          let taken : IsSome (slot_in (map slot_shown slots) k).item = rw here refl in
          record {
            places = laid.places;
            chained = chained-set slots first k (Full v w) laid.places laid.chained (unlisted_at (map slot_shown slots) laid.places len limit last k laid.sound inside taken);
            measured = laid.measured;
            sound = rw (map-set slot_shown slots k (Full v w)) (rw here at (IsSound-rewrite (map slot_shown slots) laid.places len limit last k w laid.sound inside taken));
          }
      by_slot (Free v n) is = rw (← is, set-get_or slots k (Free 0 0)) laid

  -- the slot in the k-th place is the one that is handed out again next
  pub record IsNext (slots : List (Held T)) (k free len limit last n : ℕ) : Type 0 where
    pub within : k < length slots
    pub fits : (slot_shown (held_in slots k)).version + 2 ≤ last
    pub some : 1 ≤ free
    pub vacant : (slot_shown (held_in slots k)).item ≡ None
    pub fresh : IsNew (record { slots = map slot_shown slots; limit = limit; last_version = last; removals = n }) (record { slot = k + 1; version = (slot_shown (held_in slots k)).version + 2 })
    pub more : (w : T) → IsLaid (set slots k (Full ((slot_shown (held_in slots k)).version + 2) w)) (next_in (held_in slots k)) (free - 1) (len + 1) limit last

  pub laid-next : {slots : List (Held T)} {first free len limit last : ℕ} (k n : ℕ) → IsLaid slots first free len limit last → first ≡ k + 1 → IsNext slots k free len limit last n
  laid-next {slots} {first} {free} {len} {limit} {last} k n laid is = by_places laid.places laid.chained laid.measured laid.sound
    where
      at : (j : ℕ) (rest : List ℕ) → IsFreeChain slots (next_in (held_in slots j)) rest → free ≡ length (j ∷ rest) → SlotsAreSound (map slot_shown slots) (j ∷ rest) len limit last → IsNext slots j free len limit last n
      at j rest chain measured sound =
          let one = offered (map slot_shown slots) rest len limit last j sound in
          let here = shown-at slots j in
          let is = reusable_is last (slot_in (map slot_shown slots) j) one.reusable in
          let next = (slot_shown (held_in slots j)).version + 2 in
          record {
            within = omega (arith, one.within, length-map slots slot_shown);
            fits = rw (← here) is.1;
            some = omega (arith, measured);
            vacant = rw (← here) is.0;
            fresh = rw (← here) (offered_is_new (map slot_shown slots) rest len limit last j n sound);
            more = λ w. record {
              places = rest;
              chained = chained-set slots (next_in (held_in slots j)) j (Full next w) rest chain one.once;
              measured = omega (arith, measured);
              sound = rw (map-set slot_shown slots j (Full next w)) (IsSound-reuse (map slot_shown slots) rest len limit last j next w (ap (λ s. s.version + 2) (sym here)) sound);
            };
          }

      by_places : (places : List ℕ) → IsFreeChain slots first places → free ≡ length places → SlotsAreSound (map slot_shown slots) places len limit last → IsNext slots k free len limit last n
      by_places [] chain measured sound = absurd (omega (arith, chain, is))
      by_places (j ∷ rest) chain measured sound = subst (λ m. IsNext slots m free len limit last n) (omega (arith, chain.0, is)) (at j rest chain.1 measured sound)

  -- no slot is free where the chain names none
  no_places : (slots : List (Held T)) (first : ℕ) (places : List ℕ) → IsFreeChain slots first places → first ≡ 0 → places ≡ []
  no_places slots first [] chain none = refl
  no_places slots first (k ∷ rest) chain none = absurd (omega (arith, chain.0, none))

  pub free-none : {slots : List (Held T)} {first free len limit last : ℕ} → IsLaid slots first free len limit last → first ≡ 0 → free ≡ 0
  free-none {slots} {first} laid none = laid.measured ∙ ap length (no_places slots first laid.places laid.chained none)

  -- one more slot at the end, where none is free
  pub laid-more : {slots : List (Held T)} {first free len limit last : ℕ} (w : T) → IsLaid slots first free len limit last → first ≡ 0 → length slots < limit → IsLaid (slots ++ Full 1 w ∷ []) first free (len + 1) limit last
  laid-more {slots} {first} {free} {len} {limit} {last} w laid none below =
      let empty = no_places slots first laid.places laid.chained none in
      record {
        places = [];
        chained = none;
        measured = free-none laid none;
        sound = rw (map-append slot_shown slots (Full 1 w ∷ [])) (IsSound-extend (map slot_shown slots) laid.places [] len limit last w empty refl (omega (arith, below, length-map slots slot_shown)) laid.sound);
      }

  pub last_is_new : {slots : List (Held T)} {first free len limit last : ℕ} (n : ℕ) → IsLaid slots first free len limit last → length slots < limit → IsNew (record { slots = map slot_shown slots; limit = limit; last_version = last; removals = n }) (record { slot = length slots + 1; version = 1 })
  last_is_new {slots} {first} {free} {len} {limit} {last} n laid below =
      subst (λ m. IsNew (record { slots = map slot_shown slots; limit = limit; last_version = last; removals = n }) (record { slot = m + 1; version = 1 })) (length-map slots slot_shown)
      (end_is_new (map slot_shown slots) laid.places len limit last n laid.sound (omega (arith, below, length-map slots slot_shown)))

  -- the record under an id leaves, and its slot is the next to be handed out again, or is empty for good
  pub laid-listed : {slots : List (Held T)} {first free len limit last : ℕ} (id : ArenaIndex) → IsLaid slots first free len limit last → IsTaken (map slot_shown slots) id → nat_le (id.version + 2) last ≡ true → IsLaid (set slots (id.slot - 1) (Free id.version first)) id.slot (free + 1) (len - 1) limit last
  laid-listed {slots} {first} {free} {len} {limit} {last} id laid live fits =
      let k = id.slot - 1 in
      let length_is = length-map slots slot_shown in
      record {
        places = k ∷ laid.places;
        chained = (
          omega (arith, live.numbered),
          rw (get_or-set_same slots k (Free id.version first) (Free 0 0) (omega (arith, live.within, length_is)))
              (chained-set slots first k (Free id.version first) laid.places laid.chained (unlisted_at (map slot_shown slots) laid.places len limit last k laid.sound live.within live.some)),
        );
        measured = omega (arith, laid.measured);
        sound = rw (map-set slot_shown slots k (Free id.version first)) (vacate_listed (map slot_shown slots) laid.places len limit last id laid.sound live fits);
      }

  pub laid-retired : {slots : List (Held T)} {first free len limit last : ℕ} (id : ArenaIndex) → IsLaid slots first free len limit last → IsTaken (map slot_shown slots) id → nat_le (id.version + 2) last ≡ false → IsLaid (set slots (id.slot - 1) (Free id.version first)) first free (len - 1) limit last
  laid-retired {slots} {first} {free} {len} {limit} {last} id laid live fits =
      let k = id.slot - 1 in
      record {
        places = laid.places;
        chained = chained-set slots first k (Free id.version first) laid.places laid.chained (unlisted_at (map slot_shown slots) laid.places len limit last k laid.sound live.within live.some);
        measured = laid.measured;
        sound = rw (map-set slot_shown slots k (Free id.version first)) (vacate_retired (map slot_shown slots) laid.places len limit last id laid.sound live fits);
      }

  pub laid-whole : {slots : List (Held T)} {first free len limit last : ℕ} (n : ℕ) → IsLaid slots first free len limit last → IsWhole (record { slots = map slot_shown slots; limit = limit; last_version = last; removals = n })
  laid-whole {slots} {first} {free} {len} {limit} {last} n laid = whole_is (map slot_shown slots) laid.places len limit last n laid.sound

  -- the room is what was never handed out and what is free
  pub laid-room : {slots : List (Held T)} {first free len limit last : ℕ} (n : ℕ) → IsLaid slots first free len limit last → room (record { slots = map slot_shown slots; limit = limit; last_version = last; removals = n }) ≡ (limit - length slots) + free
  laid-room {slots} {first} {free} {len} {limit} {last} n laid =
      omega (arith, room_is (map slot_shown slots) laid.places len limit last n laid.sound, length-map slots slot_shown, laid.measured)

  pub laid-empty : (limit last : ℕ) → limit < 4294967295 → 1 ≤ last → IsLaid {T = T} [] 0 0 0 limit last
  laid-empty limit last numbered starts = record {
    places = [];
    chained = refl;
    measured = refl;
    sound = record { counted = refl; total = refl; listed = λ k below. absurd (omega (arith, below)); bounded = λ k past. refl; versions = λ k below. absurd (omega (arith, below)); within = omega arith; numbered = numbered; starts = starts };
  }

  pub laid-some : {slots : List (Held T)} {first free len limit last : ℕ} (id : ArenaIndex) → IsLaid slots first free len limit last → IsTaken (map slot_shown slots) id → 1 ≤ len
  laid-some {slots} {first} {free} {len} {limit} {last} id laid live = taken_counts (map slot_shown slots) laid.places len limit last (id.slot - 1) laid.sound live.within live.some

  -- one slot that is written is one that contracts see written
  pub write-shown : (slots : List (Held T)) (k : ℕ) (s : Held T) → k < length slots → map slot_shown (set slots k s) ≡ put_slot (map slot_shown slots) (k + 1) (slot_shown s)
  write-shown slots k s within =
      map-set slot_shown slots k s ∙ sym (put-next (map slot_shown slots) k (slot_shown s) ∙ put_in-set (map slot_shown slots) k (slot_shown s) (omega (arith, within, length-map slots slot_shown)))

  pub push-shown : (slots : List (Held T)) (s : Held T) → map slot_shown (slots ++ s ∷ []) ≡ put_slot (map slot_shown slots) (length slots + 1) (slot_shown s)
  push-shown slots s =
      map-append slot_shown slots (s ∷ []) ∙ sym (put_in-push (map slot_shown slots) (slot_shown s)) ∙ ap (λ k. put_in (map slot_shown slots) k (slot_shown s)) (length-map slots slot_shown) ∙ sym (put-next (map slot_shown slots) (length slots) (slot_shown s))

  -- the slot of a live id has its version and its record
  pub taken-shown : (slots : List (Held T)) (id : ArenaIndex) (k : ℕ) (x : T) → id.slot ≡ k + 1 → k < length slots → item_under (slot_shown (held_in slots k)) id.version ≡ Some x → IsTaken (map slot_shown slots) id
  taken-shown slots id k x is within has = taken_at (map slot_shown slots) id (ap is_some (find-shown slots id k is ∙ has))

  pub fill-shown : (slots : List (Held T)) (id : ArenaIndex) (k : ℕ) (x w : T) → id.slot ≡ k + 1 → k < length slots → item_under (slot_shown (held_in slots k)) id.version ≡ Some x → map slot_shown (set slots k (with_item (held_in slots k) w)) ≡ put_slot (map slot_shown slots) id.slot (record { version = id.version; item = Some w })
  fill-shown slots id k x w is within has = by_slot (held_in slots k) refl has
    where
      by_slot : (s : Held T) → held_in slots k ≡ s → item_under (slot_shown s) id.version ≡ Some x → map slot_shown (set slots k (with_item s w)) ≡ put_slot (map slot_shown slots) id.slot (record { version = id.version; item = Some w })
      by_slot (Full v y) same found =
          elim (item_under_cases (slot_shown (Full v y)) id.version) [
            | inl eq ↦ write-shown slots k (Full v w) within ∙ (λ i. put_slot (map slot_shown slots) (sym is i) (record { version = eq.0 i; item = Some w }))
            | inr ne ↦ absurd (true≢false (sym (ap is_some found) ∙ ap is_some ne.1))
          ]
      by_slot (Free v n) same found =
          elim (item_under_cases (slot_shown {T = T} (Free v n)) id.version) [
            | inl eq ↦ absurd (true≢false (sym (ap is_some found) ∙ ap is_some eq.1))
            | inr ne ↦ absurd (true≢false (sym (ap is_some found) ∙ ap is_some ne.1))
          ]

  pub cut-shown : (slots : List (Held T)) (id : ArenaIndex) (k next : ℕ) → id.slot ≡ k + 1 → k < length slots → map slot_shown (set slots k (Free id.version next)) ≡ put_slot (map slot_shown slots) id.slot (record { version = id.version; item = None })
  cut-shown slots id k next is within = write-shown slots k (Free id.version next) within ∙ ap (λ n. put_slot (map slot_shown slots) n (record { version = id.version; item = None })) (sym is)

  -- the number of a free slot is less than what stands for a record
  pub first_fits : {slots : List (Held T)} {first free len limit last : ℕ} → IsLaid slots first free len limit last → first < 4294967295
  first_fits {slots} {first} {free} {len} {limit} {last} laid = by_places laid.places laid.chained laid.sound
    where
      by_places : (places : List ℕ) → IsFreeChain slots first places → SlotsAreSound (map slot_shown slots) places len limit last → first < 4294967295
      by_places [] chain sound = omega (arith, chain)
      by_places (k ∷ rest) chain sound =
          let one = offered (map slot_shown slots) rest len limit last k sound in
          omega (arith, chain.0, one.within, sound.within, sound.numbered)

  -- what a slot in memory stands for
  pub held_version : (s : Laid T) → (slot_shown (held s)).version ≡ s.version
  held_version s = elim (eqb_tells s.next 4294967295) [ inl eq ↦ rw eq.0 refl | inr ne ↦ rw ne.0 refl ]

  pub held_free : (s : Laid T) → s.next < 4294967295 → held s ≡ Free s.version s.next
  held_free s below = elim (eqb_tells s.next 4294967295) [ inl eq ↦ absurd (omega (arith, eq.1)) | inr ne ↦ rw ne.0 refl ]

  pub held_full : (s : Laid T) → IsSome (slot_shown (held s)).item → (slot_shown (held s)).item ≡ Some s.item
  held_full s some = elim (eqb_tells s.next 4294967295) [ inl eq ↦ rw eq.0 refl | inr ne ↦ absurd (true≢false (sym (rw ne.0 at some))) ]

  pub held_next : (s : Laid T) → (slot_shown (held s)).item ≡ None → next_in (held s) ≡ s.next
  held_next s none = elim (eqb_tells s.next 4294967295) [ inl eq ↦ absurd (true≢false (ap is_some (rw eq.0 at none))) | inr ne ↦ rw ne.0 refl ]

  pub held_with : (s : Laid T) (w : T) → held (record s { item = w }) ≡ with_item (held s) w
  held_with s w = elim (eqb_tells s.next 4294967295) [ inl eq ↦ rw eq.0 refl | inr ne ↦ rw ne.0 refl ]

  -- the slot that was read
  pub held-read : (slots : List (Laid T)) (k : ℕ) (s : Laid T) → k < length slots → s ≡ slice_index_or slots k s → held_in (map held slots) k ≡ held s
  held-read slots k s within is =
      let inside : k < length (map held slots) = omega (arith, within, length-map slots held) in
      sym (get_or_read (map held slots) k (held s) inside (ap held is ∙ sym (get_or-map held slots k s)) (Free 0 0))

  -- the slot of a live id is freed where it lies
  pub held-freed : (slots : List (Laid T)) (first free len limit last : ℕ) (id : ArenaIndex) (s : Laid T) → IsLaid (map held slots) first free len limit last → IsTaken (map slot_shown (map held slots)) id → s ≡ slice_index_or slots (id.slot - 1) s → map held (set slots (id.slot - 1) (record s { next = first })) ≡ set (map held slots) (id.slot - 1) (Free id.version first)
  held-freed slots first free len limit last id s laid live is =
      let k = id.slot - 1 in
      let within : k < length slots = omega (arith, live.within, length-map (map held slots) slot_shown, length-map slots held) in
      let version : s.version ≡ id.version = sym (held_version s) ∙ ap (λ h. (slot_shown h).version) (sym (held-read slots k s within is)) ∙ ap (λ h. h.version) (sym (shown-at (map held slots) k)) ∙ live.version in
      map-set held slots k (record s { next = first }) ∙ ap (λ h. set (map held slots) k h) (held_free (record s { next = first }) (first_fits laid) ∙ ap (λ v. Free v first) version)

  -- a second write of one slot is the only one
  pub put-put : (slots : List (Slot T)) (id : ArenaIndex) (s t : Slot T) → IsTaken slots id → put_slot (put_slot slots id.slot s) id.slot t ≡ put_slot slots id.slot t
  put-put slots id s t live =
      let k = id.slot - 1 in
      let size = length-set slots k s in
      put-set (put_slot slots id.slot s) id.slot t live.numbered (rw (put-set slots id.slot s live.numbered live.within) (omega (arith, size, live.within)))
      ∙ ap (λ l. set l k t) (put-set slots id.slot s live.numbered live.within)
      ∙ set-set slots k s t
      ∙ sym (put-set slots id.slot t live.numbered live.within)

  pub cut-fill : (a : Arena T) (id : ArenaIndex) (w : T) → IsLiveIn a id → cut (fill a id w) id ≡ cut a id
  cut-fill a id w live =
      let slots = put-put a.slots id (record { version = id.version; item = Some w }) (record { version = id.version; item = None }) (taken_at a.slots id live) in
      λ i. record { slots = slots i; limit = a.limit; last_version = a.last_version; removals = a.removals + 1 }

-- a test that is false at each number below b
pub not_below : (a b : ℕ) → (a < b → false ≡ true) → b ≤ a
not_below a b never = elim (leb_tells b a) [ inl eq ↦ eq.1 | inr ne ↦ absurd (true≢false (sym (never ne.1))) ]
