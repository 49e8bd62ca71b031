-- The room of an arena, counted by ids: which are live or empty for good, and how many.
use Rattle.std.proofs.Common.{◌≡◌, ◌⊎◌, ◌↔◌, ℕ, zero, suc, ◌+◌, ◌-◌, ◌<◌, ◌≤◌, nat_lt, Bool, true, false, List, [], ◌∷◌, length, Option, Some, None, IsSome, is_some, is_none, ◌&&◌, IsTrue, cond, count_by, refl, sym, ap, subst, ◌∙◌, inl, inr, arith, true≢false}
use Rattle.std.proofs.lemmas.Bool.Decides.{leb_tells, nat_tests}
use Rattle.std.proofs.lemmas.Bool.{cases_eq}
use Rattle.std.proofs.lemmas.List.Sums.{sum_by-cons}
use Rattle.ir_model.specs.declared.ids.ArenaIndex.{ArenaIndex}
use Rattle.ir_model.specs.declared.ids.Limits.{Limits}
use Rattle.ir_model.specs.Ids.{Distinct}
use Rattle.ir_model.specs.Nesting.{In}
use Rattle.ir_model.specs.Sessions.{Number, HasRoom, LacksRoom, TakesSlot}
use Rattle.ir_model.proofs.Nests.{Absent-not_in}
use Rattle.ir_model.specs.Slots.{Slot, slot_in, slot_at, find, put_in, put_slot, is_taken, is_retired}
use Rattle.ir_model.specs.Arenas.{Arena, get, fill, cut, IsLiveIn, IsNextVersion, IsNew, IsWhole, is_passed, arena_len, room}
use Rattle.ir_model.proofs.Slots.{taken_at, slot_at-place, slot_at-next, put-place, at_zero, at_past, find_at}
use Rattle.ir_model.proofs.Arenas.{had-within, had-itself, had-below, same_id, open_live, open_new, whole-cut}

module _ {T : Type 0} where
  -- whether a slot has a record, or is empty for good
  abbrev is_gone : ℕ → Slot T → Bool
  is_gone last s = cond (is_taken s) true (is_retired last s)

  -- the ids of the slots that have a record or are empty for good, where the first slot has the number n
  abbrev gone : ℕ → ℕ → List (Slot T) → List ArenaIndex
  gone last n [] = []
  gone last n (s ∷ rest) = cond (is_gone last s) (record { slot = n; version = s.version } ∷ gone last (n + 1) rest) (gone last (n + 1) rest)

  -- the place of an id of that list
  record IsGone (last n : ℕ) (slots : List (Slot T)) (x : ArenaIndex) : Type 0 where
    pub place : ℕ
    pub within : place < length slots
    pub slot : x.slot ≡ n + place
    pub version : x.version ≡ (slot_in slots place).version
    pub is : is_gone last (slot_in slots place) ≡ true

  later : (last n : ℕ) (s : Slot T) (rest : List (Slot T)) (x : ArenaIndex) → IsGone last (n + 1) rest x → IsGone last n (s ∷ rest) x
  later last n s rest x it = record { place = suc it.place; within = omega (arith, it.within); slot = omega (arith, it.slot); version = it.version; is = it.is }

  In-gone : (last n : ℕ) (slots : List (Slot T)) (x : ArenaIndex) → In x (gone last n slots) → IsGone last n slots x
  In-gone last n [] x listed = absurd listed
  In-gone last n (s ∷ rest) x listed = by_test (λ there. later last n s rest x (In-gone last (n + 1) rest x there)) (is_gone last s) refl listed
    where
      by_test : (In x (gone last (n + 1) rest) → IsGone last n (s ∷ rest) x) → (b : Bool) → is_gone last s ≡ b → In x (cond b (record { slot = n; version = s.version } ∷ gone last (n + 1) rest) (gone last (n + 1) rest)) → IsGone last n (s ∷ rest) x
      by_test below true is (inl here) = record { place = 0; within = omega arith; slot = ap (λ i. i.slot) here ∙ omega arith; version = ap (λ i. i.version) here; is = is }
      by_test below true is (inr there) = below there
      by_test below false is there = below there

  gone-In : (last n : ℕ) (slots : List (Slot T)) (x : ArenaIndex) (k : ℕ) → k < length slots → x.slot ≡ n + k → x.version ≡ (slot_in slots k).version → is_gone last (slot_in slots k) ≡ true → In x (gone last n slots)
  gone-In last n [] x k within slot version is = absurd (omega arith)
  gone-In last n (s ∷ rest) x zero within slot version is =
      subst (λ b. In x (cond b (record { slot = n; version = s.version } ∷ gone last (n + 1) rest) (gone last (n + 1) rest))) (sym is)
      (inl (same_id x (record { slot = n; version = s.version }) (omega (arith, slot)) version))
  gone-In last n (s ∷ rest) x (suc k) within slot version is = by_test (is_gone last s) (gone-In last (n + 1) rest x k (omega arith) (omega (arith, slot)) version is)
    where
      by_test : (b : Bool) → In x (gone last (n + 1) rest) → In x (cond b (record { slot = n; version = s.version } ∷ gone last (n + 1) rest) (gone last (n + 1) rest))
      by_test true there = inr there
      by_test false there = there

  gone-distinct : (last n : ℕ) (slots : List (Slot T)) → Distinct (gone last n slots)
  gone-distinct last n [] = tt
  gone-distinct last n (s ∷ rest) = by_test (gone-distinct last (n + 1) rest) (is_gone last s)
    where
      by_test : Distinct (gone last (n + 1) rest) → (b : Bool) → Distinct (cond b (record { slot = n; version = s.version } ∷ gone last (n + 1) rest) (gone last (n + 1) rest))
      by_test below true =
          (Absent-not_in (record { slot = n; version = s.version }) (gone last (n + 1) rest) (λ listed. absurd (omega (arith, (In-gone last (n + 1) rest (record { slot = n; version = s.version }) listed).slot))), below)
      by_test below false = below

  length-one : (last : ℕ) (s : Slot T) (i : ArenaIndex) (g : List ArenaIndex) → length (cond (is_gone last s) (i ∷ g) g) ≡ cond (is_taken s) 1 0 + cond (is_retired last s) 1 0 + length g
  length-one last s i g = by_item s.item (nat_lt last (s.version + 2))
    where
      by_item : (o : Option T) (b : Bool) → length (cond (cond (is_some o) true (is_none o && b)) (i ∷ g) g) ≡ cond (is_some o) 1 0 + cond (is_none o && b) 1 0 + length g
      by_item (Some x) b = omega arith
      by_item None true = omega arith
      by_item None false = omega arith

  length-gone : (last n : ℕ) (slots : List (Slot T)) → length (gone last n slots) ≡ count_by is_taken slots + count_by (is_retired last) slots
  length-gone last n [] = refl
  length-gone last n (s ∷ rest) =
      let one = length-one last s (record { slot = n; version = s.version }) (gone last (n + 1) rest) in
      let taken = sum_by-cons (λ x. cond (is_taken x) 1 0) s rest in
      let retired = sum_by-cons (λ x. cond (is_retired last x) 1 0) s rest in
      omega (arith, one, taken, retired, length-gone last (n + 1) rest)

  -- a live id and an id that was the last of its slot are those of that list
  takes-In : (limits : Limits) (a : Arena T) → limits.last_version ≡ a.last_version → IsWhole a → (x : ArenaIndex) → TakesSlot limits (is_passed a) (IsLiveIn a) x → In x (gone a.last_version 1 a.slots)
  takes-In limits a last whole x (inl live) =
      let taken = taken_at a.slots x live in
      gone-In a.last_version 1 a.slots x (x.slot - 1) taken.within (omega (arith, taken.numbered)) (sym taken.version) (rw taken.some refl)
  takes-In limits a last whole x (inr dead) =
      let had = had-within (slot_at a.slots x.slot).version x.version dead.0 in
      let numbered = numbered_at (omega (arith, had.0, had.1)) in
      let within = within_at (omega (arith, had.0, had.1)) in
      let here = slot_at-place a.slots x.slot numbered in
      let version : x.version ≡ (slot_in a.slots (x.slot - 1)).version = top (whole.versions (x.slot - 1) within).within (rw here at (had-below (slot_at a.slots x.slot).version x.version dead.0)) in
      gone-In a.last_version 1 a.slots x (x.slot - 1) within (omega (arith, numbered)) version
      (retired (slot_in a.slots (x.slot - 1)) (vacant (find_at a.slots x (ap (λ s. s.version) here ∙ sym version) ∙ ap (λ s. s.item) here)) (omega (arith, dead.2, last, version)))
    where
      at_none : (n : ℕ) → n ≡ 0 → 1 ≤ (slot_at a.slots n).version → ⊥
      at_none n none some = absurd (omega (arith, some, ap (λ m. (slot_at a.slots m).version) none ∙ ap (λ s. s.version) (at_zero a.slots)))

      numbered_at : 1 ≤ (slot_at a.slots x.slot).version → 1 ≤ x.slot
      numbered_at some = elim (cases_eq x.slot 0) [ inl none ↦ absurd (at_none x.slot none some) | inr not_none ↦ omega arith ]

      within_at : 1 ≤ (slot_at a.slots x.slot).version → x.slot - 1 < length a.slots
      within_at some = elim (leb_tells x.slot (length a.slots)) [
        | inl eq ↦ omega (arith, eq.1, numbered_at some)
        | inr ne ↦ absurd (omega (arith, some, ap (λ s. s.version) (at_past a.slots x.slot ne.1)))
      ]

      top : (slot_in a.slots (x.slot - 1)).version ≤ a.last_version → (x.version ≡ (slot_in a.slots (x.slot - 1)).version) ⊎ (x.version + 2 ≤ (slot_in a.slots (x.slot - 1)).version) → x.version ≡ (slot_in a.slots (x.slot - 1)).version
      top most (inl same) = same
      top most (inr below) = absurd (omega (arith, most, below, dead.2, last))

      vacant : find a.slots x ≡ (slot_in a.slots (x.slot - 1)).item → (slot_in a.slots (x.slot - 1)).item ≡ None
      vacant found = by_item (slot_in a.slots (x.slot - 1)).item found
        where
          by_item : (o : Option T) → find a.slots x ≡ o → o ≡ None
          by_item None e = refl
          by_item (Some v) e = absurd (dead.1 (ap is_some e))

      retired : (s : Slot T) → s.item ≡ None → a.last_version < s.version + 2 → is_gone a.last_version s ≡ true
      retired s none past = grind (arith, nat_tests)

  -- and each id of that list is live, or was the last of its slot
  In-takes : (limits : Limits) (a : Arena T) → limits.last_version ≡ a.last_version → IsWhole a → (x : ArenaIndex) → In x (gone a.last_version 1 a.slots) → TakesSlot limits (is_passed a) (IsLiveIn a) x
  In-takes limits a last whole x listed =
      let it = In-gone a.last_version 1 a.slots x listed in
      let here : slot_at a.slots x.slot ≡ slot_in a.slots it.place = slot_at-place a.slots x.slot (omega (arith, it.slot)) ∙ ap (slot_in a.slots) (omega (arith, it.slot)) in
      let version : (slot_at a.slots x.slot).version ≡ x.version = ap (λ s. s.version) here ∙ sym it.version in
      let found : find a.slots x ≡ (slot_in a.slots it.place).item = find_at a.slots x version ∙ ap (λ s. s.item) here in
      let passed : IsTrue (is_passed a x) = rw version (had-itself x.version (omega (arith, (whole.versions it.place it.within).first, it.version))) in
      by_item (slot_in a.slots it.place).item (slot_in a.slots it.place).version it.version found passed it.is
    where
      past : (n : ℕ) → x.version ≡ n → nat_lt a.last_version (n + 2) ≡ true → limits.last_version < x.version + 2
      past n at past_is = grind (arith, nat_tests)

      by_item : (o : Option T) (n : ℕ) → x.version ≡ n → find a.slots x ≡ o → IsTrue (is_passed a x) → is_gone a.last_version (record { version = n; item = o }) ≡ true → TakesSlot limits (is_passed a) (IsLiveIn a) x
      by_item (Some v) n version found passed is = inl (ap is_some found)
      by_item None n version found passed is = inr (passed, λ live. true≢false (sym live ∙ ap is_some found), past n version is)

  gone-within : (last n : ℕ) (slots : List (Slot T)) → length (gone last n slots) ≤ length slots
  gone-within last n [] = omega arith
  gone-within last n (s ∷ rest) = by_test (is_gone last s) (gone-within last (n + 1) rest)
    where
      by_test : (b : Bool) → length (gone last (n + 1) rest) ≤ length rest → length (cond b (record { slot = n; version = s.version } ∷ gone last (n + 1) rest) (gone last (n + 1) rest)) ≤ suc (length rest)
      by_test true below = omega arith
      by_test false below = omega arith

  gone-less : (last n : ℕ) (slots : List (Slot T)) (k : ℕ) → k < length slots → is_gone last (slot_in slots k) ≡ false → length (gone last n slots) < length slots
  gone-less last n [] k within kept = absurd (omega (arith, within))
  gone-less last n (s ∷ rest) zero within kept = rw kept (omega (arith, gone-within last (n + 1) rest))
  gone-less last n (s ∷ rest) (suc k) within kept = by_test (is_gone last s) (gone-less last (n + 1) rest k (omega arith) kept)
    where
      by_test : (b : Bool) → length (gone last (n + 1) rest) < length rest → length (cond b (record { slot = n; version = s.version } ∷ gone last (n + 1) rest) (gone last (n + 1) rest)) < suc (length rest)
      by_test true below = omega arith
      by_test false below = omega arith

  -- where an id is new, there is room
  pub new-room : (a : Arena T) (id : ArenaIndex) → IsWhole a → IsNew a id → 1 ≤ room a
  new-room a id whole new = by_version new.version
    where
      kept : (s : Slot T) → s.item ≡ None → s.version + 2 ≤ a.last_version → is_gone a.last_version s ≡ false
      kept s none fits = grind (arith, nat_tests)

      by_version : IsNextVersion a id → 1 ≤ room a
      by_version (inl end) = omega (arith, length-gone a.last_version 1 a.slots, gone-within a.last_version 1 a.slots, end.0, new.within)
      by_version (inr reused) =
          let here = slot_at-place a.slots id.slot new.numbered in
          let vacant : (slot_in a.slots (id.slot - 1)).item ≡ None = rw here at new.vacant in
          let next : id.version ≡ (slot_in a.slots (id.slot - 1)).version + 2 = rw here at reused.2 in
          let less = gone-less a.last_version 1 a.slots (id.slot - 1) (omega (arith, reused.0, new.numbered)) (kept (slot_in a.slots (id.slot - 1)) vacant (omega (arith, next, new.fits))) in
          omega (arith, length-gone a.last_version 1 a.slots, less, whole.within)

  -- what is taken and the room are the limit
  pub room-splits : (a : Arena T) → IsWhole a → arena_len a + count_by (is_retired a.last_version) a.slots + room a ≡ a.limit
  room-splits a whole = omega (arith, length-gone a.last_version 1 a.slots, gone-within a.last_version 1 a.slots, whole.within)

  -- as many ids are live or retired as the limit is above the room
  pub takes-number : (limits : Limits) (a : Arena T) → limits.last_version ≡ a.last_version → IsWhole a → Number (TakesSlot limits (is_passed a) (IsLiveIn a)) (a.limit - room a)
  takes-number limits a last whole = (
    gone a.last_version 1 a.slots,
    gone-distinct a.last_version 1 a.slots,
    λ x. (In-takes limits a last whole x, takes-In limits a last whole x),
    omega (arith, length-gone a.last_version 1 a.slots, room-splits a whole),
  )

  -- there is room for as many as the room says, and not for more
  pub has-room : (limits : Limits) (a : Arena T) (n : ℕ) → limits.slots ≡ a.limit → limits.last_version ≡ a.last_version → IsWhole a → n ≤ room a → HasRoom limits.slots (TakesSlot limits (is_passed a) (IsLiveIn a)) n
  has-room limits a n slots last whole enough =
      (a.limit - room a, takes-number limits a last whole, omega (arith, slots, enough, room-splits a whole))

  pub lacks-room : (limits : Limits) (a : Arena T) (n : ℕ) → limits.slots ≡ a.limit → limits.last_version ≡ a.last_version → IsWhole a → room a < n → LacksRoom limits.slots (TakesSlot limits (is_passed a) (IsLiveIn a)) n
  lacks-room limits a n slots last whole few =
      (a.limit - room a, takes-number limits a last whole, omega (arith, slots, few, room-splits a whole))

module _ {T : Type 0} where
  -- what a slot adds to the count of the live records
  abbrev taken_by : Slot T → ℕ
  taken_by s = cond (is_taken s) 1 0

  -- a write of a slot that was there changes the count by that slot alone
  len-put_in : (slots : List (Slot T)) (k : ℕ) (s : Slot T) → k ≤ length slots → count_by is_taken (put_in slots k s) + taken_by (slot_in slots k) ≡ count_by is_taken slots + taken_by s
  len-put_in [] zero s within = omega (arith, sum_by-cons taken_by s [])
  len-put_in [] (suc k) s within = absurd (omega arith)
  len-put_in (x ∷ xs) zero s within =
      omega (arith, sum_by-cons taken_by s xs, sum_by-cons taken_by x xs)
  len-put_in (x ∷ xs) (suc k) s within =
      omega (arith, sum_by-cons taken_by x (put_in xs k s), sum_by-cons taken_by x xs, len-put_in xs k s (omega arith))

  len-put : (slots : List (Slot T)) (n : ℕ) (s : Slot T) → 1 ≤ n → n ≤ length slots + 1 → count_by is_taken (put_slot slots n s) + taken_by (slot_at slots n) ≡ count_by is_taken slots + taken_by s
  len-put slots n s numbered within = rw (put-place slots n s numbered, slot_at-place slots n numbered) (len-put_in slots (n - 1) s (omega arith))

  taken-one : (a : Arena T) (id : ArenaIndex) → IsLiveIn a id → taken_by (slot_at a.slots id.slot) ≡ 1
  taken-one a id live =
      let taken = taken_at a.slots id live in
      let some : IsSome (slot_at a.slots id.slot).item = rw (slot_at-place a.slots id.slot taken.numbered) taken.some in
      rw some refl

  -- how many records are live after each change
  pub len-fill_new : (a : Arena T) (id : ArenaIndex) (v : T) → IsNew a id → arena_len (fill a id v) ≡ arena_len a + 1
  len-fill_new a id v new =
      let at = open_new a id new in
      let vacant : taken_by (slot_at a.slots id.slot) ≡ 0 = rw new.vacant refl in
      omega (arith, len-put a.slots id.slot (record { version = id.version; item = Some v }) at.numbered at.within, vacant)

  pub len-fill_live : (a : Arena T) (id : ArenaIndex) (v : T) → IsLiveIn a id → arena_len (fill a id v) ≡ arena_len a
  len-fill_live a id v live =
      let at = open_live a id live in
      omega (arith, len-put a.slots id.slot (record { version = id.version; item = Some v }) at.numbered at.within, taken-one a id live)

  pub len-cut : (a : Arena T) (id : ArenaIndex) → IsLiveIn a id → arena_len (cut a id) + 1 ≡ arena_len a
  len-cut a id live =
      let at = open_live a id live in
      omega (arith, len-put a.slots id.slot (record { version = id.version; item = None }) at.numbered at.within, taken-one a id live)

  -- how many slots are empty for good after a write of one that was there
  retired-put_in : (last : ℕ) (slots : List (Slot T)) (k : ℕ) (s : Slot T) → k < length slots → count_by (is_retired last) (put_in slots k s) + cond (is_retired last (slot_in slots k)) 1 0 ≡ count_by (is_retired last) slots + cond (is_retired last s) 1 0
  retired-put_in last [] k s within = absurd (omega (arith, within))
  retired-put_in last (x ∷ xs) zero s within =
      omega (arith, sum_by-cons (λ y. cond (is_retired last y) 1 0) s xs, sum_by-cons (λ y. cond (is_retired last y) 1 0) x xs)
  retired-put_in last (x ∷ xs) (suc k) s within =
      omega (arith, sum_by-cons (λ y. cond (is_retired last y) 1 0) x (put_in xs k s), sum_by-cons (λ y. cond (is_retired last y) 1 0) x xs, retired-put_in last xs k s (omega arith))

  -- what a slot adds to the count of those that are empty for good
  abbrev lost_by : ℕ → Slot T → ℕ
  lost_by last s = cond (is_retired last s) 1 0

  -- a write of the slot of a live id, which was not empty for good
  retired-put : (a : Arena T) (id : ArenaIndex) (s : Slot T) → IsLiveIn a id → count_by (is_retired a.last_version) (put_slot a.slots id.slot s) ≡ count_by (is_retired a.last_version) a.slots + lost_by a.last_version s
  retired-put a id s live =
      let taken = taken_at a.slots id live in
      let before : lost_by a.last_version (slot_in a.slots (id.slot - 1)) ≡ 0 = has_record (slot_in a.slots (id.slot - 1)) taken.some in
      rw (put-place a.slots id.slot s taken.numbered) (omega (arith, retired-put_in a.last_version a.slots (id.slot - 1) s taken.within, before))
    where
      has_record : (x : Slot T) → IsSome x.item → lost_by a.last_version x ≡ 0
      has_record x some = rw some refl

  -- the room after each change
  pub room-fill_live : (a : Arena T) (id : ArenaIndex) (v : T) → IsLiveIn a id → room (fill a id v) ≡ room a
  room-fill_live a id v live =
      omega (arith, len-fill_live a id v live, retired-put a id (record { version = id.version; item = Some v }) live)

  stays : (last : ℕ) (s : Slot T) → s.item ≡ None → s.version + 2 ≤ last → lost_by last s ≡ 0
  stays last s none fits = grind (arith, nat_tests)

  ends : (last : ℕ) (s : Slot T) → s.item ≡ None → last < s.version + 2 → lost_by last s ≡ 1
  ends last s none past = grind (arith, nat_tests)

  pub room-cut : (a : Arena T) (id : ArenaIndex) → IsWhole a → IsLiveIn a id → id.version + 2 ≤ a.last_version → room (cut a id) ≡ room a + 1
  room-cut a id whole live fits =
      omega (arith, len-cut a id live, retired-put a id (record { version = id.version; item = None }) live, stays a.last_version (record { version = id.version; item = None }) refl fits, room-splits a whole, room-splits (cut a id) (whole-cut a id whole live))

  pub room-cut_last : (a : Arena T) (id : ArenaIndex) → IsWhole a → IsLiveIn a id → a.last_version < id.version + 2 → room (cut a id) ≡ room a
  room-cut_last a id whole live past =
      omega (arith, len-cut a id live, retired-put a id (record { version = id.version; item = None }) live, ends a.last_version (record { version = id.version; item = None }) refl past, room-splits a whole, room-splits (cut a id) (whole-cut a id whole live))

  none-counts : (slots : List (Slot T)) → ((k : ℕ) → k < length slots → (slot_in slots k).item ≡ None) → count_by is_taken slots ≡ 0
  none-counts [] none = refl
  none-counts (s ∷ rest) none =
      let first : taken_by s ≡ 0 = rw (none 0 (omega arith)) refl in
      omega (arith, sum_by-cons taken_by s rest, first, none-counts rest (λ k below. none (suc k) (omega arith)))

  -- an arena has no record exactly where nothing stands under any id
  pub len-none : (a : Arena T) → (arena_len a ≡ 0) ↔ ((id : ArenaIndex) → get a id ≡ None)
  len-none a = (λ none id. nothing none id (get a id) refl, λ none. none-counts a.slots (λ k below. sym (find_at a.slots (record { slot = k + 1; version = (slot_in a.slots k).version }) (ap (λ s. s.version) (slot_at-next a.slots k)) ∙ ap (λ s. s.item) (slot_at-next a.slots k)) ∙ none (record { slot = k + 1; version = (slot_in a.slots k).version })))
    where
      nothing : arena_len a ≡ 0 → (id : ArenaIndex) → (o : Option T) → get a id ≡ o → get a id ≡ None
      nothing none id None is = is
      nothing none id (Some v) is =
          let at = open_live a id (ap is_some is) in
          absurd (omega (arith, none, len-put a.slots id.slot (record { version = id.version; item = None }) at.numbered at.within, taken-one a id (ap is_some is)))
