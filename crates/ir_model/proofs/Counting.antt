-- What is gone can be counted: in a new session, and after what passes and what dies.
use mathlib.Core.Path.{◌≡◌, refl, sym, ap, ◌∙◌, subst}
use Rattle.std.proofs.Common.{ℕ, ◌+◌, ◌⊎◌, ◌↔◌, inl, inr, Bool, false, eqb, Option, None, List, [], ◌∷◌, ◌++◌, length, is_some, IsSome, IsTrue, arith}
use Rattle.std.specs.List.{filter}
use Rattle.ir_model.specs.declared.ids.ArenaIndex.{ArenaIndex}
use Rattle.ir_model.specs.declared.ids.Limits.{Limits}
use Rattle.ir_model.specs.ContextIds.{context_ids, same_id}
use Rattle.ir_model.specs.Ids.{Fresh, Distinct}
use Rattle.ir_model.specs.Forest.{Dialect}
use Rattle.ir_model.specs.Nesting.{In}
use Rattle.ir_model.specs.Sessions.{Passed, Passes, Session, Number, TakesSlot, IsNewSession, live_op, live_block, live_region}
use Rattle.ir_model.specs.Soundness.{IsCounted}
use Rattle.ir_model.proofs.Nests.{In-left, In-right, Absent-not_in}
use Rattle.ir_model.proofs.Filters.{In-filter, In-kept, Distinct-filter}
use Rattle.ir_model.proofs.Back.{Back}
use Rattle.ir_model.proofs.Decided.{Decided, says, holds, says_true, bit_so, some_so, at_most, one, some}
use Rattle.ir_model.proofs.TwoRuns.{id_tells, number_tells}

-- each of the list once
once : {A : Type 0} → ((x y : A) → Decided (x ≡ y)) → (xs : List A) → (ys : List A) × Distinct ys × ((x : A) → In x ys ↔ In x xs)
once same [] = ([], tt, λ x. (λ h. h, λ h. h))
once {A = A} same (y ∷ xs) = by (once same xs) (some (λ z. z ≡ y) (λ z. same z y) (once same xs).0)
  where
    by : (more : (ys : List A) × Distinct ys × ((x : A) → In x ys ↔ In x xs)) → Decided ((z : A) × In z more.0 × (z ≡ y)) → (ys : List A) × Distinct ys × ((x : A) → In x ys ↔ In x (y ∷ xs))
    by more (inl t) = (more.0, more.1, λ x. (λ h. inr ((more.2 x).0 h), λ h. elim h [ inl e ↦ subst (λ z. In z more.0) (t.2 ∙ sym e) t.1 | inr i ↦ (more.2 x).1 i ]))
    by more (inr n) = (y ∷ more.0, (Absent-not_in y more.0 (λ h. n (y, h, refl)), more.1), λ x. (λ h. elim h [ inl e ↦ inl e | inr i ↦ inr ((more.2 x).0 i) ], λ h. elim h [ inl e ↦ inl e | inr i ↦ inr ((more.2 x).1 i) ]))

-- what is decided and stands in a list is counted
pub counted : {A : Type 0} → ((x y : A) → Decided (x ≡ y)) → (P : A → Type 0) → ((x : A) → Decided (P x)) → (xs : List A) → ((x : A) → P x → In x xs) → (n : ℕ) × Number P n
counted same P d xs all =
    let o = once same xs in
    let ys = filter (λ x. says (d x)) o.0 in
    (length ys, (ys, Distinct-filter (λ x. says (d x)) o.0 o.1, λ x. (λ h. holds (d x) (In-filter (λ x. says (d x)) x o.0 h).1, λ p. In-kept (λ x. says (d x)) x o.0 ((o.2 x).1 (all x p)) (says_true (d x) p)), refl))

-- there is none, and so none is counted
none_is : {A : Type 0} (P : A → Type 0) → ((x : A) → P x → ⊥) → Number P 0
none_is P none = ([], tt, λ x. (λ h. elim h [ ], λ p. absurd (none x p)), refl)

takes_slot_so : (limits : Limits) (passed : ArenaIndex → Bool) (live : ArenaIndex → Type 0) → ((i : ArenaIndex) → Decided (live i)) → (i : ArenaIndex) → Decided (TakesSlot limits passed live i)
takes_slot_so limits passed live d i = elim (d i) [
  | inl l ↦ inl (inl l)
  | inr n ↦ elim (bit_so (passed i)) [
    | inr u ↦ inr (λ h. elim h [ inl l ↦ n l | inr p ↦ u p.0 ])
    | inl p ↦ elim (at_most (limits.last_version + 1) (i.version + 2)) [
      | inl late ↦ inl (inr (p, n, omega (arith, late)))
      | inr early ↦ inr (λ h. elim h [ inl l ↦ n l | inr q ↦ (let late = q.2 in early (omega (arith, late))) ])
    ]
  ]
]

-- numbers that pass are counted beside those before
numbers_more : (old new : ℕ → Bool) (fresh : List ℕ) → ((n : ℕ) → IsTrue (new n) ↔ (IsTrue (old n) ⊎ In n fresh)) → (k : ℕ) → Number (λ n. IsTrue (old n)) k → (m : ℕ) × Number (λ n. IsTrue (new n)) m
numbers_more old new fresh passes k was =
    counted (one eqb number_tells) _ (λ n. bit_so (new n)) (fresh ++ was.0) (λ n h. elim ((passes n).0 h) [ inl o ↦ In-right n fresh was.0 ((was.2 n).1 o) | inr i ↦ In-left n fresh was.0 i ])

-- slots that are taken are counted: what takes one took one before, or has just passed
slots_more : {R : Type 0} (limits : Limits) (old new : ArenaIndex → Bool) (before after : ArenaIndex → Option R) (fresh : List ArenaIndex)
    → ((i : ArenaIndex) → IsTrue (new i) ↔ (IsTrue (old i) ⊎ In i fresh)) → ((i : ArenaIndex) → IsSome (after i) → IsSome (before i) ⊎ In i fresh)
    → (k : ℕ) → Number (TakesSlot limits old (λ i. IsSome (before i))) k → (m : ℕ) × Number (TakesSlot limits new (λ i. IsSome (after i))) m
slots_more {R = R} limits old new before after fresh passes back k was = counted (one same_id id_tells) _ (takes_slot_so limits new _ (λ i. some_so (after i))) (fresh ++ was.0) listed
  where
    took : (i : ArenaIndex) → TakesSlot limits old (λ i. IsSome (before i)) i → In i (fresh ++ was.0)
    took i t = In-right i fresh was.0 ((was.2 i).1 t)

    listed : (i : ArenaIndex) → TakesSlot limits new (λ i. IsSome (after i)) i → In i (fresh ++ was.0)
    listed i (inl l) = elim (back i l) [ inl b ↦ took i (inl b) | inr h ↦ In-left i fresh was.0 h ]
    listed i (inr p) = elim ((passes i).0 p.0) [
      | inr h ↦ In-left i fresh was.0 h
      | inl o ↦ elim (some_so (before i)) [ inl l ↦ took i (inl l) | inr dead ↦ took i (inr (o, dead, p.2)) ]
    ]

module _ {W : Dialect} where
  -- nothing is live and nothing has passed, and so nothing is gone
  pub new_counted : (s : Session W) → IsNewSession s → IsCounted s
  new_counted s n = (
    record { ops = 0; blocks = 0; regions = 0; numbers = 0; uses = 0 },
    record {
      numbers = none_is _ (λ k h. not_true (ap (λ (p : Passed). p.numbers k) n.none_passed) h);
      uses = none_is _ (λ k h. not_true (ap (λ (p : Passed). p.uses k) n.none_passed) h);
      ops = none_is _ (none_taken s.limits s.passed.ops s.state.forest.ops n.ops (λ i. ap (λ (p : Passed). p.ops i) n.none_passed));
      blocks = none_is _ (none_taken s.limits s.passed.blocks s.state.forest.blocks n.blocks (λ i. ap (λ (p : Passed). p.blocks i) n.none_passed));
      regions = none_is _ (none_taken s.limits s.passed.regions s.state.forest.regions n.regions (λ i. ap (λ (p : Passed). p.regions i) n.none_passed));
    },
  )
    where
      not_true : {b : Bool} → b ≡ false → IsTrue b → ⊥
      not_true e h = absurd cc

      none_taken : {R : Type 0} (limits : Limits) (passed : ArenaIndex → Bool) (m : ArenaIndex → Option R) → ((i : ArenaIndex) → m i ≡ None) → ((i : ArenaIndex) → passed i ≡ false) → (i : ArenaIndex) → TakesSlot limits passed (λ i. IsSome (m i)) i → ⊥
      none_taken limits passed m empty none i (inl l) = not_true (ap is_some (empty i)) l
      none_taken limits passed m empty none i (inr p) = not_true (none i) p.0

  -- what is gone is counted still, where what is live later was live before or has just passed
  pub still_counted : (s t : Session W) (fresh : Fresh context_ids) → t.limits ≡ s.limits → Passes s.passed fresh t.passed → Back s.state.forest t.state.forest fresh → IsCounted s → IsCounted t
  still_counted s t fresh limits passed back was =
      let numbers = numbers_more s.passed.numbers t.passed.numbers fresh.numbers passed.numbers _ (was.1).numbers in
      let uses = numbers_more s.passed.uses t.passed.uses fresh.uses passed.uses _ (was.1).uses in
      let ops = slots_more t.limits s.passed.ops t.passed.ops s.state.forest.ops t.state.forest.ops fresh.ops passed.ops back.ops _ (subst (λ (l : Limits). Number (TakesSlot l s.passed.ops (live_op s.state)) (was.0).ops) (sym limits) (was.1).ops) in
      let blocks = slots_more t.limits s.passed.blocks t.passed.blocks s.state.forest.blocks t.state.forest.blocks fresh.blocks passed.blocks back.blocks _ (subst (λ (l : Limits). Number (TakesSlot l s.passed.blocks (live_block s.state)) (was.0).blocks) (sym limits) (was.1).blocks) in
      let regions = slots_more t.limits s.passed.regions t.passed.regions s.state.forest.regions t.state.forest.regions fresh.regions passed.regions back.regions _ (subst (λ (l : Limits). Number (TakesSlot l s.passed.regions (live_region s.state)) (was.0).regions) (sym limits) (was.1).regions) in
      (record { ops = ops.0; blocks = blocks.0; regions = regions.0; numbers = numbers.0; uses = uses.0 }, record { ops = ops.1; blocks = blocks.1; regions = regions.1; numbers = numbers.1; uses = uses.1 })
