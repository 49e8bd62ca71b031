-- What each single step tells and leaves.
use mathlib.Core.Path.{◌≡◌, refl, sym, ap, ◌∙◌, subst}
use Rattle.std.proofs.Common.{◌<◌, inl, inr, Bool, Some, cond, IsTrue, arith}
use Rattle.ir_model.specs.declared.ids.ArenaIndex.{ArenaIndex}
use Rattle.ir_model.specs.declared.ids.Limits.{Limits}
use Rattle.ir_model.specs.declared.answer.Answer.{Answer}
use Rattle.ir_model.specs.declared.answer.Answer.TheVariants.{Refused}
use Rattle.ir_model.specs.declared.answer.Refused.{Refused as Reason}
use Rattle.ir_model.specs.declared.answer.Refused.TheVariants.{Condition as ForCondition}
use Rattle.ir_model.specs.ContextIds.{context_ids, same_id}
use Rattle.ir_model.specs.Forest.{Dialect, Behaviour, OpRecord}
use Rattle.ir_model.specs.Nesting.{In, list_of, regions_of}
use Rattle.ir_model.specs.Changes.{move_region}
use Rattle.ir_model.specs.Edits.{Edit, State, NewType, answer as reply, over}
use Rattle.ir_model.specs.Sessions.{Session, Step, condition, counter, slots, memory, made, IsNewId, live_op, live_block, live_region}
use Rattle.ir_model.specs.StepLaws.{ConditionIsTold, RefusedLeaveState, AllLeaveTheRest, ChangesAreOne, MovedHomeStays, VersionsRise}
use Rattle.ir_model.proofs.KeepsNew.{any_in}
use Rattle.ir_model.proofs.TwoRuns.{id_tells}
use Rattle.ir_model.proofs.Unique.{Change-unique}

pub rises : (limits : Limits) (passed : ArenaIndex → Bool) (live : ArenaIndex → Type 0) (i old : ArenaIndex) → old.slot ≡ i.slot → IsNewId limits passed live i → IsTrue (passed old) → old.version < i.version
rises limits passed live i old same new h = elim new.3 [
  | inl first ↦ absurd (first.1 old h same)
  | inr later ↦ (let below = later.5 old h same in omega arith)
]

module _ {W : Dialect} where
  -- an edit that is made is not refused
  reply_made : (s : State context_ids W) (edit : Edit W) (reason : Reason) → reply s edit ≡ Refused reason → ⊥
  reply_made s (NewType key) reason e = absurd cc
  reply_made s _ reason e = absurd cc

module _ (W : Dialect) (B : Behaviour W) where
  pub condition_is_told : ConditionIsTold W B
  condition_is_told edit s t a (condition c e f) = (λ _. c, λ _. e)
  condition_is_told edit s t a (counter c n e k) = (λ h. absurd cc, λ h. absurd (h c))
  condition_is_told edit s t a (slots c n m e k) = (λ h. absurd cc, λ h. absurd (h c))
  condition_is_told edit s t a (memory c n m x e k) = (λ h. absurd cc, λ h. absurd (h c))
  condition_is_told edit s t a (made c n m e k) = (λ h. absurd (reply_made s.state edit ForCondition (sym e ∙ h)), λ h. absurd (h c))

  refused_leave : (edit : Edit W) (s t : Session W) (a : Answer) (reason : Reason) → a ≡ Refused reason → Step B s edit a t → t.state ≡ s.state
  refused_leave edit s t a reason r (condition c e f) = ap (λ (x : Session W). x.state) f
  refused_leave edit s t a reason r (counter c n e k) = k.state
  refused_leave edit s t a reason r (slots c n m e k) = k.state
  refused_leave edit s t a reason r (memory c n m x e k) = k.state
  refused_leave edit s t a reason r (made c n m e k) = absurd (reply_made s.state edit reason (sym e ∙ r))

  pub refused_leave_state : RefusedLeaveState W B
  refused_leave_state edit s t reason step = refused_leave edit s t (Refused reason) reason refl step

  pub all_leave_the_rest : AllLeaveTheRest W B
  all_leave_the_rest edit s t a (condition c e f) = (ap (λ (x : Session W). x.beside) f, ap (λ (x : Session W). x.limits) f)
  all_leave_the_rest edit s t a (counter c n e k) = (k.beside, k.limits)
  all_leave_the_rest edit s t a (slots c n m e k) = (k.beside, k.limits)
  all_leave_the_rest edit s t a (memory c n m x e k) = (k.beside, k.limits)
  all_leave_the_rest edit s t a (made c n m e k) = (k.beside, k.limits)

  pub changes_are_one : ChangesAreOne W B
  changes_are_one edit s t u new c d = Change-unique B edit s t u new c d

  pub moved_home_stays : MovedHomeStays W B
  moved_home_stays s t n m region op new is_region is_op home change =
      let target = change.holds in
      let region_same : region ≡ change.value = (let e : Some region ≡ Some change.value = sym is_region ∙ change.found in cc) in
      let op_same : op ≡ target.value = (let e : Some op ≡ Some target.value = sym is_op ∙ target.found in cc) in
      let there : In change.value (regions_of s.forest target.value) = subst (λ x. In x (regions_of s.forest target.value)) region_same (subst (λ x. In region (regions_of s.forest x)) op_same home) in
      let found : In change.value (target.holds.value).regions = subst (λ k. In change.value (list_of (λ (r : OpRecord context_ids W). r.regions) k)) target.holds.found there in
      elim (any_in same_id id_tells change.value (target.holds.value).regions) [
        | inl e ↦ target.holds.holds ∙ ap (λ b. cond b s (over s (move_region s.forest change.value target.value))) e.0
        | inr e ↦ absurd (e.1 found)
      ]

pub versions_rise : (W : Dialect) → VersionsRise W
versions_rise W s i old same = (
  rises s.limits s.passed.ops (live_op s.state) i old same,
  rises s.limits s.passed.blocks (live_block s.state) i old same,
  rises s.limits s.passed.regions (live_region s.state) i old same,
)
