-- What a step tells, by the table of the edits.
use mathlib.Core.Path.{◌≡◌, refl, sym, ◌∙◌, subst}
use Rattle.std.proofs.Common.{ℕ, ◌+◌, ◌<◌, ◌≤◌, ◌⊎◌, inl, inr, Bool, Some, [], arith}
use Rattle.ir_model.specs.declared.answer.Answer.{Answer}
use Rattle.ir_model.specs.declared.answer.Answer.TheVariants.{Refused}
use Rattle.ir_model.specs.declared.answer.Refused.{Refused as Reason}
use Rattle.ir_model.specs.declared.answer.Refused.TheVariants.{Condition as ForCondition, Counter, Slots, Memory}
use Rattle.ir_model.specs.Ids.{Counts}
use Rattle.ir_model.specs.ContextIds.{context_ids}
use Rattle.ir_model.specs.Forest.{Dialect, Behaviour, OpRecord}
use Rattle.ir_model.specs.Nesting.{In, list_of, regions_of}
use Rattle.ir_model.specs.Edits.{Edit, State, Condition, NewType, MoveRegion, ReplaceAllUses, needs, answer as reply, MayRunOut}
use Rattle.ir_model.specs.Sessions.{Session, Passed, Step, condition, counter, slots, memory, made, Number, HasRoom, LacksRoom, HasNumbers, HasSlots, LacksNumbers, LacksSlots, Makes, Skips, live_op, live_block, live_region}
use Rattle.ir_model.specs.Soundness.{AreGone}
use Rattle.ir_model.specs.StepTells.{line, NumbersFit, NumbersLack, SlotsFit, SlotsLack, AtMostMore, PassesExactly, PassesAtMost, CounterIsTold, SlotsAreTold, OthersAreMade, OnlyGrowthIsRefused, MadePassExactly, RefusedPassAtMost, ConditionLeavesAll}
use Rattle.ir_model.proofs.Removal.{length-same}
use Rattle.ir_model.proofs.TwoRuns.{new_unpassed}

-- two counts of the same things are one
pub one_count : {A : Type 0} (P : A → Type 0) (n m : ℕ) → Number P n → Number P m → n ≡ m
one_count P n m a b = sym a.3 ∙ length-same a.0 b.0 a.1 b.1 (λ x h. (b.2 x).1 ((a.2 x).0 h)) (λ x h. (a.2 x).1 ((b.2 x).0 h)) ∙ b.3

fits : {A : Type 0} (count : ℕ) (P : A → Type 0) (gone n : ℕ) → Number P gone → HasRoom count P n → gone + n ≤ count
fits count P gone n a h = subst (λ m. m + n ≤ count) (one_count P h.0 gone h.1 a) h.2

lacks : {A : Type 0} (count : ℕ) (P : A → Type 0) (gone n : ℕ) → Number P gone → LacksRoom count P n → count < gone + n
lacks count P gone n a h = subst (λ m. count < m + n) (one_count P h.0 gone h.1 a) h.2

passes_none : (p : Passed) (n : Counts) → PassesAtMost p p n
passes_none p n = record { ops = none p.ops n.ops; blocks = none p.blocks n.blocks; regions = none p.regions n.regions; numbers = none p.numbers n.numbers; uses = none p.uses n.uses }
  where
    none : {A : Type 0} (q : A → Bool) (k : ℕ) → AtMostMore q q k
    none q k = ([], omega arith, (λ x h. elim h [ ], λ x. (λ h. inl h, λ h. elim h [ inl i ↦ i | inr i ↦ elim i [ ] ])))

module _ {W : Dialect} where
  pub takes_so : (s : State context_ids W) (edit : Edit W) → needs edit ≡ (line s edit).takes
  takes_so s (NewType key) = refl
  takes_so s _ = refl

  pub answers_so : (s : State context_ids W) (edit : Edit W) → reply s edit ≡ (line s edit).answer
  answers_so s (NewType key) = refl
  answers_so s _ = refl

  module _ (s : Session W) (edit : Edit W) (gone : Counts) (g : AreGone s gone) where
    numbers_fit : HasNumbers s (needs edit) → NumbersFit s gone (line s.state edit).takes
    numbers_fit h = subst (NumbersFit s gone) (takes_so s.state edit) (fits _ _ _ _ g.numbers h.values, fits _ _ _ _ g.uses h.uses)

    numbers_lack : LacksNumbers s (needs edit) → NumbersLack s gone (line s.state edit).takes
    numbers_lack (inl h) = subst (NumbersLack s gone) (takes_so s.state edit) (inl (lacks _ _ _ _ g.numbers h))
    numbers_lack (inr h) = subst (NumbersLack s gone) (takes_so s.state edit) (inr (lacks _ _ _ _ g.uses h))

    slots_fit : HasSlots s (needs edit) → SlotsFit s gone (line s.state edit).takes
    slots_fit h = subst (SlotsFit s gone) (takes_so s.state edit) (fits _ _ _ _ g.ops h.ops, fits _ _ _ _ g.blocks h.blocks, fits _ _ _ _ g.regions h.regions)

    slots_lack : LacksSlots s (needs edit) → SlotsLack s gone (line s.state edit).takes
    slots_lack (inl h) = subst (SlotsLack s gone) (takes_so s.state edit) (inl (lacks _ _ _ _ g.ops h))
    slots_lack (inr (inl h)) = subst (SlotsLack s gone) (takes_so s.state edit) (inr (inl (lacks _ _ _ _ g.blocks h)))
    slots_lack (inr (inr h)) = subst (SlotsLack s gone) (takes_so s.state edit) (inr (inr (lacks _ _ _ _ g.regions h)))

  -- what fits is not lacking
  numbers_or : (s : Session W) (gone n : Counts) → NumbersFit s gone n → NumbersLack s gone n → ⊥
  numbers_or s gone n f (inl l) = let a = f.0 in absurd (omega (arith, a, l))
  numbers_or s gone n f (inr l) = let a = f.1 in absurd (omega (arith, a, l))

  slots_or : (s : Session W) (gone n : Counts) → SlotsFit s gone n → SlotsLack s gone n → ⊥
  slots_or s gone n f (inl l) = let a = f.0 in absurd (omega (arith, a, l))
  slots_or s gone n f (inr (inl l)) = let a = f.1 in absurd (omega (arith, a, l))
  slots_or s gone n f (inr (inr l)) = let a = f.2 in absurd (omega (arith, a, l))

  -- the answers of the table are no refusals
  not_refused : (s : State context_ids W) (edit : Edit W) (reason : Reason) → (line s edit).answer ≡ Refused reason → ⊥
  not_refused s (NewType key) reason e = absurd cc
  not_refused s _ reason e = absurd cc

  may_grow : (s : State context_ids W) (edit : Edit W) → MayRunOut s edit → (line s edit).grows
  may_grow s (MoveRegion n m) may = λ home.
      let region_same : home.0 ≡ may.value = (let e : Some home.0 ≡ Some may.value = sym home.2 ∙ may.found in cc) in
      let target = may.holds in
      let op_same : home.1 ≡ target.value = (let e : Some home.1 ≡ Some target.value = sym home.3 ∙ target.found in cc) in
      let there : In may.value (regions_of s.forest target.value) = subst (λ x. In x (regions_of s.forest target.value)) region_same (subst (λ x. In home.0 (regions_of s.forest x)) op_same home.4) in
      target.holds.holds (subst (λ k. In may.value (list_of (λ (r : OpRecord context_ids W). r.regions) k)) target.holds.found there)
  may_grow s (ReplaceAllUses v w) may = may
  may_grow s _ may = may

  passes_exactly : (B : Behaviour W) (s t : Session W) (edit : Edit W) → Makes B s edit t → PassesExactly s.passed t.passed (line s.state edit).takes
  passes_exactly B s t edit k = subst (PassesExactly s.passed t.passed) (k.enough ∙ takes_so s.state edit) (record {
    ops = (k.new.ops, k.distinct.ops, refl, (λ i h. new_unpassed s.limits s.passed.ops (live_op s.state) i (k.are_new.ops i h), k.passed.ops));
    blocks = (k.new.blocks, k.distinct.blocks, refl, (λ i h. new_unpassed s.limits s.passed.blocks (live_block s.state) i (k.are_new.blocks i h), k.passed.blocks));
    regions = (k.new.regions, k.distinct.regions, refl, (λ i h. new_unpassed s.limits s.passed.regions (live_region s.state) i (k.are_new.regions i h), k.passed.regions));
    numbers = (k.new.numbers, k.distinct.numbers, refl, (λ n h. (k.are_new.numbers n h).1, k.passed.numbers));
    uses = (k.new.uses, k.distinct.uses, refl, (λ n h. (k.are_new.uses n h).1, k.passed.uses));
  })

  passes_at_most : (s : Session W) (t : Session W) (edit : Edit W) → Skips s edit t → PassesAtMost s.passed t.passed (line s.state edit).takes
  passes_at_most s t edit k = subst (PassesAtMost s.passed t.passed) (takes_so s.state edit) (record {
    ops = (k.skipped.ops, k.within.ops, (λ i h. new_unpassed s.limits s.passed.ops (live_op s.state) i (k.were_new.ops i h), k.passed.ops));
    blocks = (k.skipped.blocks, k.within.blocks, (λ i h. new_unpassed s.limits s.passed.blocks (live_block s.state) i (k.were_new.blocks i h), k.passed.blocks));
    regions = (k.skipped.regions, k.within.regions, (λ i h. new_unpassed s.limits s.passed.regions (live_region s.state) i (k.were_new.regions i h), k.passed.regions));
    numbers = (k.skipped.numbers, k.within.numbers, (λ n h. (k.were_new.numbers n h).1, k.passed.numbers));
    uses = (k.skipped.uses, k.within.uses, (λ n h. (k.were_new.uses n h).1, k.passed.uses));
  })

module _ (W : Dialect) (B : Behaviour W) where
  pub counter_is_told : CounterIsTold W B
  counter_is_told edit s t a gone g (condition c e f) = (λ h. absurd (let k : Refused ForCondition ≡ Refused Counter = sym e ∙ h in cc), λ h. absurd (c h.0))
  counter_is_told edit s t a gone g (counter c n e k) = (λ _. (c, numbers_lack s edit gone g n), λ _. e)
  counter_is_told edit s t a gone g (slots c n m e k) = (λ h. absurd (let k : Refused Slots ≡ Refused Counter = sym e ∙ h in cc), λ h. absurd (numbers_or s gone (line s.state edit).takes (numbers_fit s edit gone g n) h.1))
  counter_is_told edit s t a gone g (memory c n m x e k) = (λ h. absurd (let k : Refused Memory ≡ Refused Counter = sym e ∙ h in cc), λ h. absurd (numbers_or s gone (line s.state edit).takes (numbers_fit s edit gone g n) h.1))
  counter_is_told edit s t a gone g (made c n m e k) = (λ h. absurd (not_refused s.state edit Counter (sym (answers_so s.state edit) ∙ sym e ∙ h)), λ h. absurd (numbers_or s gone (line s.state edit).takes (numbers_fit s edit gone g n) h.1))

  pub slots_are_told : SlotsAreTold W B
  slots_are_told edit s t a gone g (condition c e f) = (λ h. absurd (let k : Refused ForCondition ≡ Refused Slots = sym e ∙ h in cc), λ h. absurd (c h.0))
  slots_are_told edit s t a gone g (counter c n e k) = (λ h. absurd (let k : Refused Counter ≡ Refused Slots = sym e ∙ h in cc), λ h. absurd (numbers_or s gone (line s.state edit).takes h.1 (numbers_lack s edit gone g n)))
  slots_are_told edit s t a gone g (slots c n m e k) = (λ _. (c, numbers_fit s edit gone g n, slots_lack s edit gone g m), λ _. e)
  slots_are_told edit s t a gone g (memory c n m x e k) = (λ h. absurd (let k : Refused Memory ≡ Refused Slots = sym e ∙ h in cc), λ h. absurd (slots_or s gone (line s.state edit).takes (slots_fit s edit gone g m) h.2))
  slots_are_told edit s t a gone g (made c n m e k) = (λ h. absurd (not_refused s.state edit Slots (sym (answers_so s.state edit) ∙ sym e ∙ h)), λ h. absurd (slots_or s gone (line s.state edit).takes (slots_fit s edit gone g m) h.2))

  -- an answer that is no refusal but for memory
  neither : (s : Session W) (edit : Edit W) (a : Answer) (reason : Reason) → a ≡ Refused reason → (reason ≡ Memory → ⊥) → (a ≡ (line s.state edit).answer) ⊎ (a ≡ Refused Memory) → ⊥
  neither s edit a reason e not (inl h) = not_refused s.state edit reason (sym h ∙ e)
  neither s edit a reason e not (inr h) = not (let k : Refused reason ≡ Refused Memory = sym e ∙ h in cc)

  pub others_are_made : OthersAreMade W B
  others_are_made edit s t a gone g (condition c e f) = (λ h. absurd (neither s edit a ForCondition e (λ k. absurd cc) h), λ h. absurd (c h.0))
  others_are_made edit s t a gone g (counter c n e k) = (λ h. absurd (neither s edit a Counter e (λ k. absurd cc) h), λ h. absurd (numbers_or s gone (line s.state edit).takes h.1 (numbers_lack s edit gone g n)))
  others_are_made edit s t a gone g (slots c n m e k) = (λ h. absurd (neither s edit a Slots e (λ k. absurd cc) h), λ h. absurd (slots_or s gone (line s.state edit).takes h.2 (slots_lack s edit gone g m)))
  others_are_made edit s t a gone g (memory c n m x e k) = (λ _. (c, numbers_fit s edit gone g n, slots_fit s edit gone g m), λ _. inr e)
  others_are_made edit s t a gone g (made c n m e k) = (λ _. (c, numbers_fit s edit gone g n, slots_fit s edit gone g m), λ _. inl (e ∙ answers_so s.state edit))

  grows_by : (edit : Edit W) (s t : Session W) (a : Answer) → a ≡ Refused Memory → Step B s edit a t → (line s.state edit).grows
  grows_by edit s t a r (condition c e f) = absurd (let k : Refused ForCondition ≡ Refused Memory = sym e ∙ r in cc)
  grows_by edit s t a r (counter c n e k) = absurd (let k : Refused Counter ≡ Refused Memory = sym e ∙ r in cc)
  grows_by edit s t a r (slots c n m e k) = absurd (let k : Refused Slots ≡ Refused Memory = sym e ∙ r in cc)
  grows_by edit s t a r (memory c n m x e k) = may_grow s.state edit x
  grows_by edit s t a r (made c n m e k) = absurd (not_refused s.state edit Memory (sym (answers_so s.state edit) ∙ sym e ∙ r))

  pub only_growth_is_refused : OnlyGrowthIsRefused W B
  only_growth_is_refused edit s t step = grows_by edit s t (Refused Memory) refl step

  -- what is answered by the table is made
  pub makes_by : (edit : Edit W) (s t : Session W) (a : Answer) → a ≡ (line s.state edit).answer → Step B s edit a t → Makes B s edit t
  makes_by edit s t a r (condition c e f) = absurd (not_refused s.state edit ForCondition (sym r ∙ e))
  makes_by edit s t a r (counter c n e k) = absurd (not_refused s.state edit Counter (sym r ∙ e))
  makes_by edit s t a r (slots c n m e k) = absurd (not_refused s.state edit Slots (sym r ∙ e))
  makes_by edit s t a r (memory c n m x e k) = absurd (not_refused s.state edit Memory (sym r ∙ e))
  makes_by edit s t a r (made c n m e k) = k

  pub conditions_by : (edit : Edit W) (s t : Session W) (a : Answer) → a ≡ (line s.state edit).answer → Step B s edit a t → Condition s.state edit
  conditions_by edit s t a r (condition c e f) = absurd (not_refused s.state edit ForCondition (sym r ∙ e))
  conditions_by edit s t a r (counter c n e k) = c
  conditions_by edit s t a r (slots c n m e k) = c
  conditions_by edit s t a r (memory c n m x e k) = c
  conditions_by edit s t a r (made c n m e k) = c

  pub made_pass_exactly : MadePassExactly W B
  made_pass_exactly edit s t step = passes_exactly B s t edit (makes_by edit s t (line s.state edit).answer refl step)

  at_most_by : (edit : Edit W) (s t : Session W) (a : Answer) (reason : Reason) → a ≡ Refused reason → Step B s edit a t → PassesAtMost s.passed t.passed (line s.state edit).takes
  at_most_by edit s t a reason r (condition c e f) = subst (λ (u : Session W). PassesAtMost s.passed u.passed (line s.state edit).takes) (sym f) (passes_none s.passed (line s.state edit).takes)
  at_most_by edit s t a reason r (counter c n e k) = passes_at_most s t edit k
  at_most_by edit s t a reason r (slots c n m e k) = passes_at_most s t edit k
  at_most_by edit s t a reason r (memory c n m x e k) = passes_at_most s t edit k
  at_most_by edit s t a reason r (made c n m e k) = absurd (not_refused s.state edit reason (sym (answers_so s.state edit) ∙ sym e ∙ r))

  pub refused_pass_at_most : RefusedPassAtMost W B
  refused_pass_at_most edit s t reason step = at_most_by edit s t (Refused reason) reason refl step

  stays_by : (edit : Edit W) (s t : Session W) (a : Answer) → a ≡ Refused ForCondition → Step B s edit a t → t ≡ s
  stays_by edit s t a r (condition c e f) = f
  stays_by edit s t a r (counter c n e k) = absurd (let k : Refused Counter ≡ Refused ForCondition = sym e ∙ r in cc)
  stays_by edit s t a r (slots c n m e k) = absurd (let k : Refused Slots ≡ Refused ForCondition = sym e ∙ r in cc)
  stays_by edit s t a r (memory c n m x e k) = absurd (let k : Refused Memory ≡ Refused ForCondition = sym e ∙ r in cc)
  stays_by edit s t a r (made c n m e k) = absurd (not_refused s.state edit ForCondition (sym (answers_so s.state edit) ∙ sym e ∙ r))

  pub condition_leaves_all : ConditionLeavesAll W B
  condition_leaves_all edit s t step = stays_by edit s t (Refused ForCondition) refl step
