-- Sessions that hand out ids and numbers in order, with room for more.
use mathlib.Core.Path.{◌≡◌, refl}
use Rattle.std.proofs.Common.{ℕ, zero, suc, ◌+◌, ◌<◌, ◌≤◌, ◌⊎◌, ◌↔◌, inl, inr, Bool, true, false, eqb, Option, None, List, [], ◌∷◌, ◌++◌, length, cond, is_some, IsSome, IsTrue, length-append, arith}
use Rattle.std.specs.List.{list_any, filter}
use Rattle.ir_model.specs.Ids.{Fresh, Counts, Distinct}
use Rattle.ir_model.specs.ContextIds.{context_ids, same_id}
use Rattle.ir_model.specs.Forest.{Dialect, Behaviour}
use Rattle.ir_model.specs.Nesting.{In}
use Rattle.ir_model.specs.Edits.{Edit, State, Condition, Change, needs, answer as reply}
use Rattle.ir_model.specs.declared.ids.ArenaIndex.{ArenaIndex}
use Rattle.ir_model.specs.declared.ids.Limits.{Limits}
use Rattle.ir_model.specs.Sessions.{Passed, Session, Beside, Step, made, HasRoom, TakesSlot, IsNewId}
use Rattle.ir_model.specs.Soundness.{Sound}
use Rattle.ir_model.proofs.Renaming.{Tells}
use Rattle.ir_model.proofs.Nests.{In-append, In-left, In-right, Absent-not_in, Distinct-append}
use Rattle.ir_model.proofs.Filters.{In-filter, In-kept, Distinct-filter}
use Rattle.ir_model.proofs.KeepsNew.{any_in}
use Rattle.ir_model.proofs.TwoRuns.{id_tells, number_tells}

pub limits : Limits
limits = record { values = 100; uses = 100; slots = 100; last_version = 3 }

-- the first ids of the slots from the one behind n on, and the numbers from n on
abbrev pub ids_from : ℕ → ℕ → List ArenaIndex
ids_from n zero = []
ids_from n (suc k) = record { slot = suc n; version = 1 } ∷ ids_from (suc n) k

abbrev pub numbers_from : ℕ → ℕ → List ℕ
numbers_from n zero = []
numbers_from n (suc k) = n ∷ numbers_from (suc n) k

pub ids_from-in : (n k : ℕ) (i : ArenaIndex) → In i (ids_from n k) → (i.version ≡ 1) × (n < i.slot) × (i.slot ≤ n + k)
ids_from-in n zero i h = elim h [ ]
ids_from-in n (suc k) i (inl e) = rw e (refl, omega arith, omega arith)
ids_from-in n (suc k) i (inr h) = let more = ids_from-in (suc n) k i h in (more.0, omega arith, omega arith)

pub numbers_from-in : (n k : ℕ) (m : ℕ) → In m (numbers_from n k) → (n ≤ m) × (m < n + k)
numbers_from-in n zero m h = elim h [ ]
numbers_from-in n (suc k) m (inl e) = (omega arith, omega arith)
numbers_from-in n (suc k) m (inr h) = let more = numbers_from-in (suc n) k m h in (omega arith, omega arith)

pub ids_from-distinct : (n k : ℕ) → Distinct (ids_from n k)
ids_from-distinct n zero = tt
ids_from-distinct n (suc k) = (
  Absent-not_in _ (ids_from (suc n) k) (λ h. (let at = ids_from-in (suc n) k (record { slot = suc n; version = 1 }) h in let l : suc n < suc n = at.1 in absurd (omega arith))),
  ids_from-distinct (suc n) k,
)

pub numbers_from-distinct : (n k : ℕ) → Distinct (numbers_from n k)
numbers_from-distinct n zero = tt
numbers_from-distinct n (suc k) = (
  Absent-not_in n (numbers_from (suc n) k) (λ h. (let at = numbers_from-in (suc n) k n h in absurd (omega arith))),
  numbers_from-distinct (suc n) k,
)

pub ids_from-length : (n k : ℕ) → length (ids_from n k) ≡ k
ids_from-length n zero = refl
ids_from-length n (suc k) = (let more = ids_from-length (suc n) k in omega arith)

pub numbers_from-length : (n k : ℕ) → length (numbers_from n k) ≡ k
numbers_from-length n zero = refl
numbers_from-length n (suc k) = (let more = numbers_from-length (suc n) k in omega arith)

-- what was handed out is what stands in these lists
abbrev pub passed_by : Fresh context_ids → Passed
passed_by a = record {
  ops = λ i. list_any (λ j. same_id j i) a.ops;
  blocks = λ i. list_any (λ j. same_id j i) a.blocks;
  regions = λ i. list_any (λ j. same_id j i) a.regions;
  numbers = λ n. list_any (λ m. eqb m n) a.numbers;
  uses = λ n. list_any (λ m. eqb m n) a.uses;
}

abbrev pub with_more : Fresh context_ids → Fresh context_ids → Fresh context_ids
with_more a b = record { ops = a.ops ++ b.ops; blocks = a.blocks ++ b.blocks; regions = a.regions ++ b.regions; numbers = a.numbers ++ b.numbers; uses = a.uses ++ b.uses }

-- so many of each, in order behind these
abbrev pub next : Fresh context_ids → Counts → Fresh context_ids
next a n = record {
  ops = ids_from (length a.ops) n.ops;
  blocks = ids_from (length a.blocks) n.blocks;
  regions = ids_from (length a.regions) n.regions;
  numbers = numbers_from (length a.numbers) n.numbers;
  uses = numbers_from (length a.uses) n.uses;
}

abbrev InOrderIds : List ArenaIndex → Type 0
InOrderIds xs = Distinct xs × ((i : ArenaIndex) → In i xs → (i.version ≡ 1) × (i.slot ≤ length xs))

abbrev InOrderNumbers : List ℕ → Type 0
InOrderNumbers xs = Distinct xs × ((n : ℕ) → In n xs → n < length xs)

-- the ids are first ones of the first slots, and the numbers are the first
pub record InOrder (a : Fresh context_ids) : Type 0 where
  pub ops : InOrderIds a.ops
  pub blocks : InOrderIds a.blocks
  pub regions : InOrderIds a.regions
  pub numbers : InOrderNumbers a.numbers
  pub uses : InOrderNumbers a.uses

-- there is room for so many more
pub record Fits (a : Fresh context_ids) (n : Counts) : Type 0 where
  pub ops : length a.ops + n.ops ≤ 100
  pub blocks : length a.blocks + n.blocks ≤ 100
  pub regions : length a.regions + n.regions ≤ 100
  pub numbers : length a.numbers + n.numbers ≤ 100
  pub uses : length a.uses + n.uses ≤ 100

module _ {A : Type 0} (same : A → A → Bool) (tells : Tells same) where
  pub any_iff : (xs : List A) (x : A) → (list_any (λ y. same y x) xs ≡ true) ↔ In x xs
  any_iff xs x = elim (any_in same tells x xs) [
    | inl e ↦ (λ h. e.1, λ h. e.0)
    | inr e ↦ (λ h. absurd (let f : list_any (λ y. same y x) xs ≡ false = e.0 in cc), λ h. absurd (e.1 h))
  ]

  any_not : (xs : List A) (x : A) → (In x xs → ⊥) → list_any (λ y. same y x) xs ≡ false
  any_not xs x n = elim (any_in same tells x xs) [ inl e ↦ absurd (n e.1) | inr e ↦ e.0 ]

  any_append : (xs ys : List A) (x : A) → (list_any (λ y. same y x) (xs ++ ys) ≡ true) ↔ ((list_any (λ y. same y x) xs ≡ true) ⊎ In x ys)
  any_append xs ys x = (
    λ h. elim (In-append x xs ys ((any_iff (xs ++ ys) x).0 h)) [ inl i ↦ inl ((any_iff xs x).1 i) | inr i ↦ inr i ],
    λ h. (any_iff (xs ++ ys) x).1 (elim h [ inl e ↦ In-left x xs ys ((any_iff xs x).0 e) | inr i ↦ In-right x xs ys i ]),
  )

filter-shorter : {A : Type 0} (t : A → Bool) (xs : List A) → length (filter t xs) ≤ length xs
filter-shorter t [] = omega arith
filter-shorter t (x ∷ xs) = by (filter-shorter t xs) (t x)
  where
    by : length (filter t xs) ≤ length xs → (b : Bool) → length (cond b (x ∷ filter t xs) (filter t xs)) ≤ length (x ∷ xs)
    by more true = omega arith
    by more false = omega arith

ids_more : (xs : List ArenaIndex) (k : ℕ) → InOrderIds xs → InOrderIds (xs ++ ids_from (length xs) k)
ids_more xs k o =
    let l = length-append xs (ids_from (length xs) k) in
    let m = ids_from-length (length xs) k in (
      Distinct-append xs (ids_from (length xs) k) o.0 (ids_from-distinct (length xs) k) (λ i h j. (let a = o.1 i h in let b = ids_from-in (length xs) k i j in absurd (omega arith))),
      λ i h. elim (In-append i xs (ids_from (length xs) k) h) [
        | inl j ↦ (let a = o.1 i j in (a.0, omega arith))
        | inr j ↦ (let a = ids_from-in (length xs) k i j in (a.0, omega arith))
      ],
    )

numbers_more : (xs : List ℕ) (k : ℕ) → InOrderNumbers xs → InOrderNumbers (xs ++ numbers_from (length xs) k)
numbers_more xs k o =
    let l = length-append xs (numbers_from (length xs) k) in
    let m = numbers_from-length (length xs) k in (
      Distinct-append xs (numbers_from (length xs) k) o.0 (numbers_from-distinct (length xs) k) (λ i h j. (let a = o.1 i h in let b = numbers_from-in (length xs) k i j in absurd (omega arith))),
      λ i h. elim (In-append i xs (numbers_from (length xs) k) h) [
        | inl j ↦ (let a = o.1 i j in omega arith)
        | inr j ↦ (let a = numbers_from-in (length xs) k i j in omega arith)
      ],
    )

pub order_more : (a : Fresh context_ids) (n : Counts) → InOrder a → InOrder (with_more a (next a n))
order_more a n o = record {
  ops = ids_more a.ops n.ops o.ops;
  blocks = ids_more a.blocks n.blocks o.blocks;
  regions = ids_more a.regions n.regions o.regions;
  numbers = numbers_more a.numbers n.numbers o.numbers;
  uses = numbers_more a.uses n.uses o.uses;
}

-- as many numbers are gone as were handed out
number_room : (xs : List ℕ) (k : ℕ) → InOrderNumbers xs → length xs + k ≤ 100 → HasRoom 100 (λ m. IsTrue (list_any (λ n. eqb n m) xs)) k
number_room xs k o fits = (length xs, (xs, o.0, λ m. ((any_iff eqb number_tells xs m).1, (any_iff eqb number_tells xs m).0), refl), fits)

-- as many slots are taken as are live
slot_room : {R : Type 0} (xs : List ArenaIndex) (k : ℕ) (m : ArenaIndex → Option R) → InOrderIds xs → length xs + k ≤ 100 → ((i : ArenaIndex) → IsSome (m i) → In i xs)
    → HasRoom 100 (TakesSlot limits (λ i. list_any (λ j. same_id j i) xs) (λ i. IsSome (m i))) k
unfolding limits
slot_room xs k m o fits live =
    let shorter = filter-shorter (λ i. is_some (m i)) xs in (
      length (filter (λ i. is_some (m i)) xs),
      (
        filter (λ i. is_some (m i)) xs,
        Distinct-filter (λ i. is_some (m i)) xs o.0,
        λ i. (
          λ h. inl (In-filter (λ i. is_some (m i)) i xs h).1,
          λ h. elim h [
            | inl l ↦ In-kept (λ i. is_some (m i)) i xs (live i l) l
            | inr p ↦ absurd (let at = o.1 i ((any_iff same_id id_tells xs i).0 p.0) in let late = p.2 in omega arith)
          ],
        ),
        refl,
      ),
      omega arith,
    )

new_id : (xs : List ArenaIndex) (k : ℕ) (live : ArenaIndex → Type 0) → InOrderIds xs → length xs + k ≤ 100 → (i : ArenaIndex) → In i (ids_from (length xs) k) → IsNewId limits (λ i. list_any (λ j. same_id j i) xs) live i
unfolding limits
new_id xs k live o fits i h =
    let at = ids_from-in (length xs) k i h in
    let one = at.0 in
    (omega arith, omega arith, omega arith, inl (at.0, λ j p e. (let was = o.1 j ((any_iff same_id id_tells xs j).0 p) in absurd (omega arith))))

module _ {W : Dialect} where
  pub nothing : Beside W
  nothing = record { saved = []; aux = λ _. None; aux_names = λ _. None; aux_passed = λ _. false }

  abbrev pub at_state : State context_ids W → Fresh context_ids → Session W
  at_state s a = record { state = s; beside = nothing; passed = passed_by a; limits = limits }

  -- what the session has handed out is in order, and it is sound
  pub record Roomy (s : State context_ids W) (a : Fresh context_ids) : Type 0 where
    pub sound : Sound (at_state s a)
    pub order : InOrder a

  pub make : (B : Behaviour W) (edit : Edit W) (s t : State context_ids W) (a : Fresh context_ids) → Roomy s a → Fits a (needs edit) → Condition s edit → Change B s edit (next a (needs edit)) t
      → Step B (at_state s a) edit (reply s edit) (at_state t (with_more a (next a (needs edit))))
  unfolding limits
  make B edit s t a r fits c change = made c
      (record { values = number_room a.numbers n.numbers r.order.numbers fits.numbers; uses = number_room a.uses n.uses r.order.uses fits.uses })
      (record {
        ops = slot_room a.ops n.ops s.forest.ops r.order.ops fits.ops (λ i l. (any_iff same_id id_tells a.ops i).0 (r.sound.passed.ops i (r.sound.listed.ops i l)));
        blocks = slot_room a.blocks n.blocks s.forest.blocks r.order.blocks fits.blocks (λ i l. (any_iff same_id id_tells a.blocks i).0 (r.sound.passed.blocks i (r.sound.listed.blocks i l)));
        regions = slot_room a.regions n.regions s.forest.regions r.order.regions fits.regions (λ i l. (any_iff same_id id_tells a.regions i).0 (r.sound.passed.regions i (r.sound.listed.regions i l)));
      })
      refl
      (record {
        new = next a n;
        enough = λ i. record {
          ops = ids_from-length (length a.ops) n.ops i;
          blocks = ids_from-length (length a.blocks) n.blocks i;
          regions = ids_from-length (length a.regions) n.regions i;
          numbers = numbers_from-length (length a.numbers) n.numbers i;
          uses = numbers_from-length (length a.uses) n.uses i;
        };
        distinct = record {
          ops = ids_from-distinct (length a.ops) n.ops;
          blocks = ids_from-distinct (length a.blocks) n.blocks;
          regions = ids_from-distinct (length a.regions) n.regions;
          numbers = numbers_from-distinct (length a.numbers) n.numbers;
          uses = numbers_from-distinct (length a.uses) n.uses;
        };
        are_new = record {
          ops = new_id a.ops n.ops _ r.order.ops fits.ops;
          blocks = new_id a.blocks n.blocks _ r.order.blocks fits.blocks;
          regions = new_id a.regions n.regions _ r.order.regions fits.regions;
          numbers = λ m h. (let at = numbers_from-in (length a.numbers) n.numbers m h in let k = fits.numbers in (omega arith, any_not eqb number_tells a.numbers m (λ i. (let was = r.order.numbers.1 m i in absurd (omega arith)))));
          uses = λ m h. (let at = numbers_from-in (length a.uses) n.uses m h in let k = fits.uses in (omega arith, any_not eqb number_tells a.uses m (λ i. (let was = r.order.uses.1 m i in absurd (omega arith)))));
        };
        change = change;
        passed = record {
          ops = any_append same_id id_tells a.ops (ids_from (length a.ops) n.ops);
          blocks = any_append same_id id_tells a.blocks (ids_from (length a.blocks) n.blocks);
          regions = any_append same_id id_tells a.regions (ids_from (length a.regions) n.regions);
          numbers = any_append eqb number_tells a.numbers (numbers_from (length a.numbers) n.numbers);
          uses = any_append eqb number_tells a.uses (numbers_from (length a.uses) n.uses);
        };
        beside = refl;
        limits = refl;
      })
    where
      n : Counts
      n = needs edit
