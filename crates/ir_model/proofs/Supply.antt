-- Where there is room there are new ids and numbers.
use mathlib.Core.Path.{◌≡◌, refl, sym, ap, ◌∙◌, subst}
use Rattle.std.proofs.Common.{ℕ, zero, suc, ◌+◌, ◌<◌, ◌≤◌, ◌⊎◌, inl, inr, Bool, true, false, not, eqb, List, [], ◌∷◌, length, cond, take, IsTrue, arith}
use Rattle.std.proofs.lemmas.Bool.Decides.{leb_tells}
use Rattle.std.proofs.lemmas.List.{length-take-le}
use Rattle.std.specs.List.{filter}
use Rattle.ir_model.specs.declared.ids.ArenaIndex.{ArenaIndex}
use Rattle.ir_model.specs.declared.ids.Limits.{Limits}
use Rattle.ir_model.specs.Ids.{Distinct}
use Rattle.ir_model.specs.Nesting.{In}
use Rattle.ir_model.specs.Sessions.{IsNewNumber, IsNewId, HasRoom, TakesSlot}
use Rattle.ir_model.proofs.Nests.{Absent-not_in, not_in-Absent}
use Rattle.ir_model.proofs.Filters.{In-filter, Distinct-filter}
use Rattle.ir_model.proofs.Fresh.{take-in, take-distinct}
use Rattle.ir_model.proofs.Removal.{length-within}
use Rattle.ir_model.proofs.Roomy.{numbers_from, numbers_from-in, numbers_from-distinct, numbers_from-length}
use Rattle.ir_model.proofs.TwoRuns.{number_tells}
use Rattle.ir_model.proofs.Decided.{Decided, bit_so, at_most, one, some}

not_true : (b : Bool) → not b ≡ true → b ≡ false
not_true true e = absurd cc
not_true false e = refl

-- what a test takes and what it leaves make up the list
filter-both : {A : Type 0} (t : A → Bool) (xs : List A) → length (filter t xs) + length (filter (λ x. not (t x)) xs) ≡ length xs
filter-both t [] = refl
filter-both t (x ∷ xs) = by (filter-both t xs) (t x)
  where
    by : length (filter t xs) + length (filter (λ x. not (t x)) xs) ≡ length xs → (b : Bool)
        → length (cond b (x ∷ filter t xs) (filter t xs)) + length (cond (not b) (x ∷ filter (λ x. not (t x)) xs) (filter (λ x. not (t x)) xs)) ≡ length (x ∷ xs)
    by more true = omega (arith, more)
    by more false = omega (arith, more)

pub above : (a b : ℕ) → (a ≤ b → ⊥) → b < a
above a b n = elim (leb_tells a b) [ inl h ↦ absurd (n h.1) | inr h ↦ h.1 ]

below_or : (a b : ℕ) → a ≤ b → (a ≡ b → ⊥) → a < b
below_or a b l n = elim (leb_tells b a) [ inl h ↦ (let m = h.1 in absurd (n (omega (arith, l, m)))) | inr h ↦ h.1 ]

-- so many new numbers
pub supply_numbers : (count : ℕ) (passed : ℕ → Bool) (n : ℕ) → HasRoom count (λ m. IsTrue (passed m)) n → (xs : List ℕ) × Distinct xs × (length xs ≡ n) × ((m : ℕ) → In m xs → IsNewNumber count passed m)
supply_numbers count passed n room = (
  take n free,
  take-distinct n free (Distinct-filter _ below (numbers_from-distinct 0 count)),
  length-take-le n free enough,
  λ m h. (let at = In-filter (λ m. not (passed m)) m below (take-in n free m h) in let low = numbers_from-in 0 count m at.0 in (omega (arith, low.1), not_true (passed m) at.1)),
)
  where
    below : List ℕ
    below = numbers_from 0 count

    free : List ℕ
    free = filter (λ m. not (passed m)) below

    enough : n ≤ length free
    enough =
        let used = length-within (filter passed below) (room.1).0 (Distinct-filter passed below (numbers_from-distinct 0 count)) (λ m h. ((room.1).2 m).1 (In-filter passed m below h).1) in
        let both = filter-both passed below in
        let all = numbers_from-length 0 count in
        let gone = (room.1).3 in
        let fits = room.2 in
        omega (arith, used, both, all, gone, fits)

module _ (limits : Limits) (passed : ArenaIndex → Bool) (live : ArenaIndex → Type 0) (live_so : (i : ArenaIndex) → Decided (live i)) (first : 1 ≤ limits.last_version) where
  abbrev New : ArenaIndex → Type 0
  New i = IsNewId limits passed live i

  abbrev at : ℕ → ℕ → ArenaIndex
  at k v = record { slot = k; version = v }

  -- the greatest version up to this one that passed in the slot, or none did
  abbrev Top : ℕ → ℕ → Type 0
  Top k v = ((w : ℕ) × IsTrue (passed (at k w)) × ((u : ℕ) → w < u → u ≤ v → IsTrue (passed (at k u)) → ⊥)) ⊎ ((u : ℕ) → u ≤ v → IsTrue (passed (at k u)) → ⊥)

  top : (k v : ℕ) → Top k v
  top k zero = elim (bit_so (passed (at k 0))) [
    | inl h ↦ inl (0, h, λ u a b p. absurd (omega (arith, a, b)))
    | inr h ↦ inr (λ u b p. (let e : u ≡ 0 = omega (arith, b) in h (subst (λ x. IsTrue (passed (at k x))) e p)))
  ]
  top k (suc v) = elim (bit_so (passed (at k (suc v)))) [
    | inl h ↦ inl (suc v, h, λ u a b p. absurd (omega (arith, a, b)))
    | inr h ↦ elim (top k v) [
      | inl t ↦ inl (t.0, t.1, λ u a b p. not_last u b p h (λ c. t.2 u a c p))
      | inr none ↦ inr (λ u b p. not_last u b p h (λ c. none u c p))
    ]
  ]
    where
      not_last : (u : ℕ) → u ≤ suc v → IsTrue (passed (at k u)) → (IsTrue (passed (at k (suc v))) → ⊥) → (u ≤ v → ⊥) → ⊥
      not_last u b p h more = elim (one eqb number_tells u (suc v)) [
        | inl e ↦ h (subst (λ x. IsTrue (passed (at k x))) e p)
        | inr n ↦ more (let l = below_or u (suc v) b n in omega (arith, l))
      ]

  -- an id that has passed and takes no slot is dead, and has a successor
  module _ (xs : List ArenaIndex) (takers : (i : ArenaIndex) → TakesSlot limits passed live i → In i xs) where
    has_next : (i : ArenaIndex) → IsTrue (passed i) → (In i xs → ⊥) → (live i → ⊥) × (i.version + 2 ≤ limits.last_version)
    has_next i p out = (
      λ l. out (takers i (inl l)),
      elim (at_most (i.version + 2) limits.last_version) [
        | inl h ↦ h
        | inr n ↦ absurd (out (takers i (inr (p, λ l. out (takers i (inl l)), above (i.version + 2) limits.last_version n))))
      ],
    )

    -- a slot is taken, or has a new id
    slot_so : (k : ℕ) → 1 ≤ k → k ≤ limits.slots → ((i : ArenaIndex) × In i xs × (i.slot ≡ k)) ⊎ ((i : ArenaIndex) × (i.slot ≡ k) × New i)
    slot_so k low high = elim (some (λ (i : ArenaIndex). i.slot ≡ k) (λ i. one eqb number_tells i.slot k) xs) [
      | inl t ↦ inl t
      | inr none ↦ inr (new_at none (top k limits.last_version))
    ]
      where
        late : (((i : ArenaIndex) × In i xs × (i.slot ≡ k)) → ⊥) → (j : ArenaIndex) → IsTrue (passed j) → j.slot ≡ k → j.version ≤ limits.last_version
        late none j p e = (let n = has_next j p (λ h. none (j, h, e)) in let m = n.1 in omega (arith, m))

        new_at : (((i : ArenaIndex) × In i xs × (i.slot ≡ k)) → ⊥) → Top k limits.last_version → (i : ArenaIndex) × (i.slot ≡ k) × New i
        new_at none (inr never) = (at k 1, refl, (low, high, first, inl (refl, λ j p e. never j.version (late none j p e) (subst (λ x. IsTrue (passed (at x j.version))) e p))))
        new_at none (inl t) =
            let n = has_next (at k t.0) t.1 (λ h. none (at k t.0, h, refl)) in (
              at k (t.0 + 2),
              refl,
              (
                low,
                high,
                n.1,
                inr (
                  at k t.0,
                  refl,
                  refl,
                  t.1,
                  n.0,
                  λ j p e. elim (at_most j.version t.0) [
                    | inl h ↦ h
                    | inr m ↦ absurd (t.2 j.version (above j.version t.0 m) (late none j p e) (subst (λ x. IsTrue (passed (at x j.version))) e p))
                  ],
                ),
              ),
            )

    -- these slots sorted into those that have a new id and those that are taken
    record Sorted (ks : List ℕ) : Type 0 where
      pub free : List ArenaIndex
      pub taken : List ArenaIndex
      pub free_new : (i : ArenaIndex) → In i free → New i
      pub free_at : (i : ArenaIndex) → In i free → In i.slot ks
      pub free_once : Distinct free
      pub taken_in : (i : ArenaIndex) → In i taken → In i xs
      pub taken_at : (i : ArenaIndex) → In i taken → In i.slot ks
      pub taken_once : Distinct taken
      pub sum : length free + length taken ≡ length ks

    -- an id of another slot is none of those
    not_there : (k : ℕ) (ks : List ℕ) (is : List ArenaIndex) (i : ArenaIndex) → i.slot ≡ k → (In k ks → ⊥) → ((j : ArenaIndex) → In j is → In j.slot ks) → In i is → ⊥
    not_there k ks is i e out all h = out (subst (λ z. In z ks) e (all i h))

    add_at : (k : ℕ) (ks : List ℕ) (is : List ArenaIndex) (i : ArenaIndex) → i.slot ≡ k → ((j : ArenaIndex) → In j is → In j.slot ks) → (j : ArenaIndex) → In j (i ∷ is) → In j.slot (k ∷ ks)
    add_at k ks is i e all j (inl s) = inl (ap (λ (x : ArenaIndex). x.slot) s ∙ e)
    add_at k ks is i e all j (inr h) = inr (all j h)

    sorted : (ks : List ℕ) → Distinct ks → ((k : ℕ) → In k ks → (1 ≤ k) × (k ≤ limits.slots)) → Sorted ks
    sorted [] d range = record { free = []; taken = []; free_new = λ i h. elim h [ ]; free_at = λ i h. elim h [ ]; free_once = tt; taken_in = λ i h. elim h [ ]; taken_at = λ i h. elim h [ ]; taken_once = tt; sum = refl }
    sorted (k ∷ ks) d range = by (sorted ks d.1 (λ j h. range j (inr h))) (slot_so k (range k (inl refl)).0 (range k (inl refl)).1)
      where
        by : Sorted ks → ((i : ArenaIndex) × In i xs × (i.slot ≡ k)) ⊎ ((i : ArenaIndex) × (i.slot ≡ k) × New i) → Sorted (k ∷ ks)
        by m (inl t) = record {
          free = m.free;
          taken = t.0 ∷ m.taken;
          free_new = m.free_new;
          free_at = λ i h. inr (m.free_at i h);
          free_once = m.free_once;
          taken_in = λ i h. elim h [ inl e ↦ subst (λ z. In z xs) (sym e) t.1 | inr j ↦ m.taken_in i j ];
          taken_at = add_at k ks m.taken t.0 t.2 m.taken_at;
          taken_once = (Absent-not_in t.0 m.taken (not_there k ks m.taken t.0 t.2 (not_in-Absent k ks d.0) m.taken_at), m.taken_once);
          sum = (let e = m.sum in omega (arith, e));
        }
        by m (inr t) = record {
          free = t.0 ∷ m.free;
          taken = m.taken;
          free_new = λ i h. elim h [ inl e ↦ subst New (sym e) t.2 | inr j ↦ m.free_new i j ];
          free_at = add_at k ks m.free t.0 t.1 m.free_at;
          free_once = (Absent-not_in t.0 m.free (not_there k ks m.free t.0 t.1 (not_in-Absent k ks d.0) m.free_at), m.free_once);
          taken_in = m.taken_in;
          taken_at = λ i h. inr (m.taken_at i h);
          taken_once = m.taken_once;
          sum = (let e = m.sum in omega (arith, e));
        }

  supply : (n : ℕ) → HasRoom limits.slots (TakesSlot limits passed live) n → (is : List ArenaIndex) × Distinct is × (length is ≡ n) × ((i : ArenaIndex) → In i is → New i)
  supply n room =
      let xs = (room.1).0 in
      let all = sorted xs (λ i h. ((room.1).2 i).1 h) (numbers_from 1 limits.slots) (numbers_from-distinct 1 limits.slots) (λ k h. (let b = numbers_from-in 1 limits.slots k h in let l = b.0 in let m = b.1 in (l, omega (arith, m)))) in
      let few = length-within all.taken xs all.taken_once all.taken_in in
      let long = numbers_from-length 1 limits.slots in
      let sum = all.sum in
      let gone = (room.1).3 in
      let fits = room.2 in
      (take n all.free, take-distinct n all.free all.free_once, length-take-le n all.free (omega (arith, few, long, sum, gone, fits)), λ i h. all.free_new i (take-in n all.free i h))

-- so many new ids, where a slot may have a first version or none is asked for
pub supply_ids : (limits : Limits) (passed : ArenaIndex → Bool) (live : ArenaIndex → Type 0) → ((i : ArenaIndex) → Decided (live i)) → (n : ℕ) → (1 ≤ n → 1 ≤ limits.last_version) → HasRoom limits.slots (TakesSlot limits passed live) n
    → (is : List ArenaIndex) × Distinct is × (length is ≡ n) × ((i : ArenaIndex) → In i is → IsNewId limits passed live i)
supply_ids limits passed live live_so zero first room = ([], tt, refl, λ i h. elim h [ ])
supply_ids limits passed live live_so (suc n) first room = supply limits passed live live_so (first (omega arith)) (suc n) room
