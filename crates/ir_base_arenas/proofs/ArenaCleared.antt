-- How an arena is emptied, one slot after another from the last one.
use Rattle.std.proofs.Common.{◌≡◌, ℕ, zero, suc, ◌+◌, ◌-◌, ◌<◌, List, [], ◌∷◌, length, map, set, Option, Some, None, IsSome, OnSome, is_some, cond, count_by, refl, sym, ap, ◌∙◌, arith, true≢false}
use Rattle.std.proofs.lemmas.List.{set-get_or}
use Rattle.std.proofs.lemmas.List.Sums.{sum_by-cons, sum_by-set}
use Rattle.ir_model.specs.declared.ids.ArenaIndex.{ArenaIndex}
use Rattle.ir_model.specs.Slots.{Slot, is_taken, never, slot_in, slot_at}
use Rattle.ir_model.proofs.Slots.{taken_at, find_at, put-set, slot_at-next}
use Rattle.ir_base_arenas.specs.Arena.{Arena, arena_len, cleared, cut, emptied, get, IsLiveIn}
use Rattle.ir_base_arenas.specs.ArenaSound.{emptied_at}

module _ {T : Type 0} where
  -- the slots from the k-th place on are emptied
  pub emptied_from : ℕ → List (Slot T) → List (Slot T)
  emptied_from k [] = []
  emptied_from zero (x ∷ xs) = emptied x ∷ emptied_from zero xs
  emptied_from (suc k) (x ∷ xs) = x ∷ emptied_from k xs

  from-end : (xs : List (Slot T)) → emptied_from (length xs) xs ≡ xs
  unfolding emptied_from
  from-end [] = refl
  from-end (x ∷ xs) = ap (λ l. x ∷ l) (from-end xs)

  from-start : (xs : List (Slot T)) → emptied_from 0 xs ≡ map emptied xs
  unfolding emptied_from
  from-start [] = refl
  from-start (x ∷ xs) = ap (λ l. emptied x ∷ l) (from-start xs)

  from-length : (k : ℕ) (xs : List (Slot T)) → length (emptied_from k xs) ≡ length xs
  unfolding emptied_from
  from-length k [] = refl
  from-length zero (x ∷ xs) = ap suc (from-length zero xs)
  from-length (suc k) (x ∷ xs) = ap suc (from-length k xs)

  from-next : (k : ℕ) (xs : List (Slot T)) → k < length xs → set (emptied_from (suc k) xs) k (emptied (slot_in (emptied_from (suc k) xs) k)) ≡ emptied_from k xs
  unfolding emptied_from
  from-next k [] within = absurd (omega arith)
  from-next zero (x ∷ xs) within = refl
  from-next (suc k) (x ∷ xs) within = ap (λ l. x ∷ l) (from-next k xs (omega arith))

  none_taken : (xs : List (Slot T)) → count_by is_taken (map emptied xs) ≡ 0
  none_taken [] = refl
  none_taken (x ∷ xs) = omega (arith, sum_by-cons (λ s. cond (is_taken s) 1 0) (emptied x) (map emptied xs), none_taken xs)

  -- one record fewer, where the slot had one
  len-emptied_at : (a : Arena T) (k : ℕ) → k < length a.slots → arena_len (emptied_at a k) + cond (is_taken (slot_in a.slots k)) 1 0 ≡ arena_len a
  len-emptied_at a k within = omega (arith, sum_by-set (λ s. cond (is_taken s) 1 0) a.slots k (emptied (slot_in a.slots k)) never within)

  -- the record of a slot is taken out
  pub emptied-live : (a : Arena T) (k : ℕ) (id : ArenaIndex) → id.slot ≡ k + 1 → IsLiveIn a id → cut a id ≡ emptied_at a k
  emptied-live a k id is live =
      let taken = taken_at a.slots id live in
      let place : id.slot - 1 ≡ k = omega (arith, is) in
      let slots = put-set a.slots id.slot (record { version = id.version; item = None }) taken.numbered taken.within ∙ (λ i. set a.slots (place i) (record { version = (sym taken.version ∙ ap (λ n. (slot_in a.slots n).version) place) i; item = None })) in
      let one : 1 ≡ cond {A = ℕ} (is_taken (slot_in a.slots k)) 1 0 = ap (λ b. cond {A = ℕ} b 1 0) (sym (ap (λ n. is_taken (slot_in a.slots n)) (sym place) ∙ taken.some)) in
      λ i. record { slots = slots i; limit = a.limit; last_version = a.last_version; removals = a.removals + one i }

  pub on_some : (o : Option T) (P : Type 0) → IsSome o → OnSome o P → P
  on_some None P some p = absurd (true≢false (sym some))
  on_some (Some x) P some p = p

  none_of : (o : Option T) → (IsSome o → ⊥) → o ≡ None
  none_of None dead = refl
  none_of (Some x) dead = absurd (dead refl)

  empty_is : (s : Slot T) → s.item ≡ None → emptied s ≡ s
  empty_is s none = λ i. record { version = s.version; item = sym none i }

  -- a slot without a record stays as it is
  pub emptied-dead : (a : Arena T) (k : ℕ) (id : ArenaIndex) → id.slot ≡ k + 1 → (slot_in a.slots k).version ≡ id.version → (IsLiveIn a id → ⊥) → a ≡ emptied_at a k
  emptied-dead a k id is version dead =
      let here : slot_at a.slots id.slot ≡ slot_in a.slots k = ap (slot_at a.slots) is ∙ slot_at-next a.slots k in
      let item : (slot_in a.slots k).item ≡ None = sym (find_at a.slots id (ap (λ s. s.version) here ∙ version) ∙ ap (λ s. s.item) here) ∙ none_of (get a id) dead in
      let slots = sym (ap (λ s. set a.slots k s) (empty_is (slot_in a.slots k) item) ∙ set-get_or a.slots k never) in
      let zero_more : 0 ≡ cond {A = ℕ} (is_taken (slot_in a.slots k)) 1 0 = ap (λ o. cond {A = ℕ} (is_some o) 1 0) (sym item) in
      let removals : a.removals ≡ a.removals + cond {A = ℕ} (is_taken (slot_in a.slots k)) 1 0 = omega (arith, zero_more) in
      λ i. record { slots = slots i; limit = a.limit; last_version = a.last_version; removals = removals i }

  -- the slots from the k-th place on are emptied, and each record that is gone was counted
  pub record IsEmptiedFrom (k : ℕ) (old now : Arena T) : Type 0 where
    pub slots : now.slots ≡ emptied_from k old.slots
    pub limit : now.limit ≡ old.limit
    pub last_version : now.last_version ≡ old.last_version
    pub counted : now.removals + arena_len now ≡ old.removals + arena_len old

  pub emptied-start : (a : Arena T) (k : ℕ) → k ≡ length a.slots → IsEmptiedFrom k a a
  emptied-start a k is = record { slots = sym (ap (λ n. emptied_from n a.slots) is ∙ from-end a.slots); limit = refl; last_version = refl; counted = refl }

  pub emptied-within : (k : ℕ) (old now : Arena T) → IsEmptiedFrom k old now → length now.slots ≡ length old.slots
  emptied-within k old now is = ap length is.slots ∙ from-length k old.slots

  pub emptied-step : (k : ℕ) (old now : Arena T) → k < length old.slots → IsEmptiedFrom (suc k) old now → IsEmptiedFrom k old (emptied_at now k)
  emptied-step k old now within is = record {
    slots = ap (λ l. set l k (emptied (slot_in l k))) is.slots ∙ from-next k old.slots within;
    limit = is.limit;
    last_version = is.last_version;
    counted = omega (arith, is.counted, len-emptied_at now k (omega (arith, within, emptied-within (suc k) old now is)));
  }

  pub emptied-end : (old now : Arena T) → IsEmptiedFrom 0 old now → now ≡ cleared old
  emptied-end old now is =
      let slots = is.slots ∙ from-start old.slots in
      let none : arena_len now ≡ 0 = ap (λ l. count_by is_taken l) slots ∙ none_taken old.slots in
      let removals : now.removals ≡ old.removals + arena_len old = omega (arith, is.counted, none) in
      λ i. record { slots = slots i; limit = is.limit i; last_version = is.last_version i; removals = removals i }
