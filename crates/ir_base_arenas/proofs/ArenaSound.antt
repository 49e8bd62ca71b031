-- How each change of the slots keeps an arena sound.
use Rattle.std.proofs.Common.{◌≡◌, ◌≢◌, ◌⊎◌, ℕ, ◌+◌, ◌-◌, ◌<◌, ◌≤◌, nat_eq, nat_le, true, false, List, [], ◌∷◌, ◌++◌, length, set, Option, Some, None, IsSome, cond, count_by, refl, sym, ap, subst, ◌∙◌, inl, inr, arith, length-set}
use Rattle.std.proofs.lemmas.Bool.Decides.{leb_tells, nat_tests}
use Rattle.std.proofs.lemmas.Bool.{cases_eq, eq-eqb, ne_eqb, le-ltb, lt-ltb}
use Rattle.std.proofs.lemmas.List.{get_or-set_same, get_or-set_other, length_push}
use Rattle.std.proofs.Math.ListN.{get_or-append}
use Rattle.std.proofs.Math.Seq.{get_or-append_seam}
use Rattle.std.proofs.lemmas.List.Sums.{sum_by-set, sum_by_push, sum_by-cons}
use Rattle.ir_model.specs.declared.ids.ArenaIndex.{ArenaIndex}
use Rattle.ir_model.specs.Slots.{Slot, is_taken, is_reusable, is_retired, never, slot_in, find, put_slot}
use Rattle.ir_model.specs.Arenas.{IsInRange, IsNextVersion, IsNew, IsWhole, Inserts, room}
use Rattle.ir_base_arenas.specs.ArenaSound.{SlotsAreSound}
use Rattle.ir_model.proofs.Slots.{IsTaken, slot_at-next, at_past, find-put_same}

-- the state of the free list after slot k has become s
pub record Relisted (free freed : List ℕ) (k n : ℕ) : Type 0 where
  pub same : count_by (nat_eq k) freed ≡ n
  pub others : (j : ℕ) → j ≢ k → count_by (nat_eq j) freed ≡ count_by (nat_eq j) free

pub same_list : (free : List ℕ) (k n : ℕ) → count_by (nat_eq k) free ≡ n → Relisted free free k n
same_list free k n is = record { same = is; others = λ j differs. refl }

-- the free list with slot k put on it
pub relisted_push : (free : List ℕ) (k : ℕ) → count_by (nat_eq k) free ≡ 0 → Relisted free (k ∷ free) k 1
relisted_push free k none =
    record {
      same = sum_by-cons (λ i. cond (nat_eq k i) 1 0) k free ∙ ap (λ b. cond b 1 0 + count_by (nat_eq k) free) (eq-eqb k k refl) ∙ omega arith;
      others = λ j differs. sum_by-cons (λ i. cond (nat_eq j i) 1 0) k free ∙ ap (λ b. cond b 1 0 + count_by (nat_eq j) free) (ne_eqb j k differs) ∙ omega arith;
    }

module _ {T : Type 0} where
  abbrev t : Slot T → ℕ
  t s = cond (is_taken s) 1 0

  abbrev u : ℕ → Slot T → ℕ
  u last s = cond (is_reusable last s) 1 0

  abbrev r : ℕ → Slot T → ℕ
  r last s = cond (is_retired last s) 1 0

  -- a slot has a value, is reusable or is retired
  pub one_of : (last : ℕ) (s : Slot T) → t s + r last s + u last s ≡ 1
  one_of last s = by_item s.item s.version
    where
      by_item : (o : Option T) (v : ℕ) → t (record { version = v; item = o }) + r last (record { version = v; item = o }) + u last (record { version = v; item = o }) ≡ 1
      by_item (Some x) v = refl
      by_item None v =
          elim (leb_tells (v + 2) last) [
            | inl eq ↦ rw eq.0 (rw (le-ltb last (v + 2) eq.1) refl)
            | inr ne ↦ rw ne.0 (rw (lt-ltb last (v + 2) ne.1) refl)
          ]

  pub IsSound-set : (slots : List (Slot T)) (free freed : List ℕ) (len later limit last k : ℕ) (s : Slot T) → SlotsAreSound slots free len limit last → k < length slots → later + t (slot_in slots k) ≡ len + t s → length freed + u last (slot_in slots k) ≡ length free + u last s → Relisted free freed k (u last s) → IsInRange last s.version → SlotsAreSound (set slots k s) freed later limit last
  IsSound-set slots free freed len later limit last k s sound within counts frees relisted range =
      let taken = sum_by-set t slots k s never within in
      let retired = sum_by-set (r last) slots k s never within in
      let before = one_of last (slot_in slots k) in
      let after = one_of last s in
      let size = length-set slots k s in
      record {
        counted = omega (arith, sound.counted);
        total = omega (arith, sound.total);
        listed = λ j below. by_slot j (omega arith);
        bounded = λ j past. relisted.others j (λ same. omega arith) ∙ sound.bounded j (omega arith);
        versions = λ j below. by_version j (omega arith);
        within = omega (arith, sound.within);
        numbered = sound.numbered;
        starts = sound.starts;
      }
    where
      by_version : (j : ℕ) → j < length slots → IsInRange last (slot_in (set slots k s) j).version
      by_version j below =
          elim (cases_eq j k) [
            | inl same ↦ rw (same, get_or-set_same slots k s never within) range
            | inr differs ↦ rw (get_or-set_other slots k j s never differs) (sound.versions j below)
          ]

      by_slot : (j : ℕ) → j < length slots → count_by (nat_eq j) freed ≡ u last (slot_in (set slots k s) j)
      by_slot j below =
          elim (cases_eq j k) [
            | inl same ↦ rw (same, get_or-set_same slots k s never within) relisted.same
            | inr differs ↦ rw (get_or-set_other slots k j s never differs) (relisted.others j differs ∙ sound.listed j below)
          ]

  -- what the counts of a slot are
  taken_t : (s : Slot T) → IsSome s.item → t s ≡ 1
  taken_t s some = rw some refl

  taken_u : (last : ℕ) (s : Slot T) → IsSome s.item → u last s ≡ 0
  taken_u last s some = omega (arith, one_of last s, taken_t s some)

  u_le : (last : ℕ) (s : Slot T) → u last s ≤ 1
  u_le last s = omega (arith, one_of last s)

  reusable_t : (last : ℕ) (s : Slot T) → u last s ≡ 1 → t s ≡ 0
  reusable_t last s one = omega (arith, one_of last s)

  pub IsSound-rewrite : (slots : List (Slot T)) (free : List ℕ) (len limit last k : ℕ) (w : T) → SlotsAreSound slots free len limit last → k < length slots → IsSome (slot_in slots k).item → SlotsAreSound (set slots k (record { version = (slot_in slots k).version; item = Some w })) free len limit last
  IsSound-rewrite slots free len limit last k w sound within some =
      let old = slot_in slots k in
      let unlisted = sound.listed k within ∙ taken_u last old some in
      IsSound-set slots free free len len limit last k (record { version = old.version; item = Some w }) sound within
      (omega (arith, taken_t old some)) (omega (arith, taken_u last old some)) (same_list free k 0 unlisted) (sound.versions k within)

  -- a value leaves slot k, and the free list has become freed
  pub IsSound-vacate : (slots : List (Slot T)) (free freed : List ℕ) (len limit last k v : ℕ) → SlotsAreSound slots free len limit last → k < length slots → IsSome (slot_in slots k).item → length freed ≡ length free + u last (record { version = v; item = None }) → Relisted free freed k (u last (record { version = v; item = None })) → IsInRange last v → SlotsAreSound (set slots k (record { version = v; item = None })) freed (len - 1) limit last
  IsSound-vacate slots free freed len limit last k v sound within some longer relisted range =
      let old = slot_in slots k in
      let counted = sum_by-set t slots k never never within in
      IsSound-set slots free freed len (len - 1) limit last k (record { version = v; item = None }) sound within
      (omega (arith, taken_t old some, sound.counted)) (omega (arith, taken_u last old some)) relisted range

  -- a slot that can be handed out again is empty, and its next version is in range
  pub reusable_is : (last : ℕ) (s : Slot T) → u last s ≡ 1 → (s.item ≡ None) × (s.version + 2 ≤ last)
  reusable_is last s one = by_item s.item s.version one
    where
      by_item : (o : Option T) (v : ℕ) → u last (record { version = v; item = o }) ≡ 1 → (o ≡ None) × (v + 2 ≤ last)
      by_item (Some x) v e = absurd (omega arith)
      by_item None v e = (refl, grind (arith, nat_tests))

  -- the first slot of the free list is empty, and the list has it once
  pub record IsOffered (slots : List (Slot T)) (rest : List ℕ) (last k : ℕ) : Type 0 where
    pub within : k < length slots
    pub reusable : u last (slot_in slots k) ≡ 1
    pub once : count_by (nat_eq k) rest ≡ 0

  pub offered : (slots : List (Slot T)) (rest : List ℕ) (len limit last k : ℕ) → SlotsAreSound slots (k ∷ rest) len limit last → IsOffered slots rest last k
  offered slots rest len limit last k sound =
      let here : count_by (nat_eq k) (k ∷ rest) ≡ count_by (nat_eq k) rest + 1 =
      sum_by-cons (λ j. cond (nat_eq k j) 1 0) k rest ∙ ap (λ b. cond b 1 0 + count_by (nat_eq k) rest) (eq-eqb k k refl) ∙ omega arith in
      elim (cases_lt k (length slots)) [
        | inl within ↦
            let is = sound.listed k within in
            let le = u_le last (slot_in slots k) in
            record { within = within; reusable = omega arith; once = omega arith }
        | inr past ↦ absurd (omega (arith, sound.bounded k past))
      ]
    where
      cases_lt : (a b : ℕ) → (a < b) ⊎ (b ≤ a)
      cases_lt a b = elim (leb_tells b a) [ inl eq ↦ inr eq.1 | inr ne ↦ inl ne.1 ]

  pub IsSound-reuse : (slots : List (Slot T)) (rest : List ℕ) (len limit last k v : ℕ) (w : T) → v ≡ (slot_in slots k).version + 2 → SlotsAreSound slots (k ∷ rest) len limit last → SlotsAreSound (set slots k (record { version = v; item = Some w })) rest (len + 1) limit last
  IsSound-reuse slots rest len limit last k v w next sound =
      let one = offered slots rest len limit last k sound in
      let old = slot_in slots k in
      IsSound-set slots (k ∷ rest) rest len (len + 1) limit last k (record { version = v; item = Some w }) sound one.within
      (omega (arith, reusable_t last old one.reusable)) (omega (arith, one.reusable))
      (record { same = one.once; others = others })
      (record { first = omega (arith, (sound.versions k one.within).first, next); within = omega (arith, (reusable_is last old one.reusable).1, next) })
    where
      others : (j : ℕ) → j ≢ k → count_by (nat_eq j) rest ≡ count_by (nat_eq j) (k ∷ rest)
      others j differs =
          sym (sum_by-cons (λ i. cond (nat_eq j i) 1 0) k rest ∙ ap (λ b. cond b 1 0 + count_by (nat_eq j) rest) (ne_eqb j k differs) ∙ omega arith)

  pub IsSound-extend : (slots : List (Slot T)) (free freed : List ℕ) (len limit last : ℕ) (w : T) → free ≡ [] → freed ≡ [] → length slots < limit → SlotsAreSound slots free len limit last → SlotsAreSound (slots ++ record { version = 1; item = Some w } ∷ []) freed (len + 1) limit last
  IsSound-extend slots free freed len limit last w none emptied below sound =
      let s : Slot T = record { version = 1; item = Some w } in
      let taken = sum_by_push t slots s in
      let retired = sum_by_push (r last) slots s in
      let size = length_push slots s in
      record {
        counted = omega (arith, sound.counted);
        total = omega (arith, sound.total, ap length none, ap length emptied);
        listed = λ j inside. by_slot j (omega arith);
        bounded = λ j past. unlisted j;
        versions = λ j below. by_version j (omega arith);
        within = omega arith;
        numbered = sound.numbered;
        starts = sound.starts;
      }
    where
      by_version : (j : ℕ) → j < length slots + 1 → IsInRange last (slot_in (slots ++ record { version = 1; item = Some w } ∷ []) j).version
      by_version j below =
          elim (cases_eq j (length slots)) [
            | inl same ↦ rw (same, get_or-append_seam slots (record { version = 1; item = Some w }) [] never) (record { first = omega arith; within = sound.starts })
            | inr differs ↦ rw (get_or-append slots (record { version = 1; item = Some w } ∷ []) never j (omega arith)) (sound.versions j (omega arith))
          ]

      unlisted : (j : ℕ) → count_by (nat_eq j) freed ≡ 0
      unlisted j = ap (count_by (nat_eq j)) emptied

      by_slot : (j : ℕ) → j < length slots + 1 → count_by (nat_eq j) freed ≡ u last (slot_in (slots ++ record { version = 1; item = Some w } ∷ []) j)
      by_slot j below =
          elim (cases_eq j (length slots)) [
            | inl same ↦ rw (same, get_or-append_seam slots (record { version = 1; item = Some w }) [] never) (unlisted (length slots))
            | inr differs ↦ rw (get_or-append slots (record { version = 1; item = Some w } ∷ []) never j (omega arith)) (unlisted j ∙ sym (ap (count_by (nat_eq j)) none) ∙ sound.listed j (omega arith))
          ]

  -- the ids that are handed out are new
  pub offered_is_new : (slots : List (Slot T)) (rest : List ℕ) (len limit last k n : ℕ) → SlotsAreSound slots (k ∷ rest) len limit last → IsNew (record { slots = slots; limit = limit; last_version = last; removals = n }) (record { slot = k + 1; version = (slot_in slots k).version + 2 })
  offered_is_new slots rest len limit last k n sound =
      let one = offered slots rest len limit last k sound in
      let is = reusable_is last (slot_in slots k) one.reusable in
      let at = slot_at-next slots k in
      record {
        numbered = omega arith;
        within = omega (arith, one.within, sound.within);
        fits = is.1;
        vacant = ap (λ s. s.item) at ∙ is.0;
        version = inr (omega (arith, one.within), rw at ((sound.versions k one.within).first), rw at refl);
      }

  pub end_is_new : (slots : List (Slot T)) (free : List ℕ) (len limit last n : ℕ) → SlotsAreSound slots free len limit last → length slots < limit → IsNew (record { slots = slots; limit = limit; last_version = last; removals = n }) (record { slot = length slots + 1; version = 1 })
  end_is_new slots free len limit last n sound below =
      record {
        numbered = omega arith;
        within = omega arith;
        fits = sound.starts;
        vacant = ap (λ s. s.item) (at_past slots (length slots + 1) (omega arith));
        version = inl (refl, refl);
      }

  -- the slots of an arena after a write at a new id
  pub inserts_is : (made : T → Type 0) (slots written : List (Slot T)) (limit last n : ℕ) (id at : ArenaIndex) (v : T) → IsNew (record { slots = slots; limit = limit; last_version = last; removals = n }) at → id ≡ at → made v
      → written ≡ put_slot slots at.slot (record { version = at.version; item = Some v })
      → Inserts made (record { slots = slots; limit = limit; last_version = last; removals = n }) (record { slots = written; limit = limit; last_version = last; removals = n }) id
  inserts_is made slots written limit last n id at v new same by_make wrote =
      subst (λ i. Inserts made (record { slots = slots; limit = limit; last_version = last; removals = n }) (record { slots = written; limit = limit; last_version = last; removals = n }) i) (sym same)
      record {
        new_id = new;
        value = v;
        by_make = by_make;
        filled = ap (λ l. record { slots = l; limit = limit; last_version = last; removals = n }) wrote;
        found = ap (λ l. find l at) wrote ∙ find-put_same slots at (record { version = at.version; item = Some v }) refl new.numbered (next new.version);
      }
    where
      next : IsNextVersion (record { slots = slots; limit = limit; last_version = last; removals = n }) at → at.slot ≤ length slots + 1
      next (inl end) = omega (arith, end.0)
      next (inr reused) = omega (arith, reused.0)

  pub whole_is : (slots : List (Slot T)) (free : List ℕ) (len limit last n : ℕ) → SlotsAreSound slots free len limit last → IsWhole (record { slots = slots; limit = limit; last_version = last; removals = n })
  whole_is slots free len limit last n sound = record { within = sound.within; versions = sound.versions }

  -- the room is what was never handed out and what the free list has
  pub room_is : (slots : List (Slot T)) (free : List ℕ) (len limit last n : ℕ) → SlotsAreSound slots free len limit last → room (record { slots = slots; limit = limit; last_version = last; removals = n }) ≡ (limit - length slots) + length free
  room_is slots free len limit last n sound =
      let counted = sound.counted in
      let total = sound.total in
      let within = sound.within in
      omega arith

  -- a slot with a value counts, and the free list does not have it
  pub taken_counts : (slots : List (Slot T)) (free : List ℕ) (len limit last k : ℕ) → SlotsAreSound slots free len limit last → k < length slots → IsSome (slot_in slots k).item → 1 ≤ len
  taken_counts slots free len limit last k sound within some =
      let counted = sum_by-set t slots k never never within in
      omega (arith, sound.counted, taken_t (slot_in slots k) some)

  pub unlisted_at : (slots : List (Slot T)) (free : List ℕ) (len limit last k : ℕ) → SlotsAreSound slots free len limit last → k < length slots → IsSome (slot_in slots k).item → count_by (nat_eq k) free ≡ 0
  unlisted_at slots free len limit last k sound within some =
      sound.listed k within ∙ taken_u last (slot_in slots k) some

  -- the record under an id leaves, and its slot goes on the free list
  pub vacate_listed : (slots : List (Slot T)) (free : List ℕ) (len limit last : ℕ) (id : ArenaIndex) → SlotsAreSound slots free len limit last → IsTaken slots id → nat_le (id.version + 2) last ≡ true → SlotsAreSound (set slots (id.slot - 1) (record { version = id.version; item = None })) ((id.slot - 1) ∷ free) (len - 1) limit last
  vacate_listed slots free len limit last id sound live fits =
      let one : u last (record { version = id.version; item = None }) ≡ 1 = rw fits refl in
      IsSound-vacate slots free ((id.slot - 1) ∷ free) len limit last (id.slot - 1) id.version sound live.within live.some (omega arith)
      (rw one (relisted_push free (id.slot - 1) (unlisted_at slots free len limit last (id.slot - 1) sound live.within live.some)))
      (rw (sym live.version) (sound.versions (id.slot - 1) live.within))

  -- the record under an id leaves, and its slot is empty for good
  pub vacate_retired : (slots : List (Slot T)) (free : List ℕ) (len limit last : ℕ) (id : ArenaIndex) → SlotsAreSound slots free len limit last → IsTaken slots id → nat_le (id.version + 2) last ≡ false → SlotsAreSound (set slots (id.slot - 1) (record { version = id.version; item = None })) free (len - 1) limit last
  vacate_retired slots free len limit last id sound live fits =
      let none : u last (record { version = id.version; item = None }) ≡ 0 = rw fits refl in
      IsSound-vacate slots free free len limit last (id.slot - 1) id.version sound live.within live.some (omega arith)
      (rw none (same_list free (id.slot - 1) 0 (unlisted_at slots free len limit last (id.slot - 1) sound live.within live.some)))
      (rw (sym live.version) (sound.versions (id.slot - 1) live.within))
