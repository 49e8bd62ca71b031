-- Which refusal a call answers that asks first what is left.
use Rattle.std.proofs.Common.{◌≡◌, ◌⊎◌, ◌↔◌, ◌-◌, ◌≤◌, IfErr, nat_lt, IsTrue, Result, Ok, Err, sym, ap, subst, ◌∙◌, inl, inr, arith}
use Rattle.std.specs.Result.{IsErrAnd}
use Rattle.ir_model.specs.declared.error.CoreError.{CoreError}
use Rattle.ir_model.specs.declared.error.CoreError.TheVariants.{OutOfMemory, CounterSpent, SlotsSpent}
use Rattle.ir_model.specs.Ids.{Counts}
use Rattle.ir_model.specs.Forest.{Dialect}
use Rattle.ir_model.specs.Sessions.{Session, HasNumbers, LacksNumbers, LacksSlots}
use Rattle.ir_core_context.specs.Calls.{Left, region_needs}
use Rattle.ir_core_context.specs.State.{ContextState, bare}
use Rattle.ir_core_context.proofs.RoomLemmas.{Left-below}
use Rattle.ir_core_context.proofs.Rooms.{lacks-left, left-has, no_counter, no_slots}

same_refusal : {T U : Type 0} (x y : CoreError) → ◌≡◌ {A = Result T CoreError} (Err x) (Err y) → ◌≡◌ {A = Result U CoreError} (Err x) (Err y)
same_refusal x y e = let same : x ≡ y = cc in ap Err same

module _ {W : Dialect} (s : Session W) where
  -- the answer tells exactly which of so many numbers and slots lack
  pub record TellsLacks {T : Type 0} (n : Counts) (r : Result T CoreError) : Type 0 where
    pub counter : (r ≡ Err CounterSpent) ↔ LacksNumbers s n
    pub slots : (r ≡ Err SlotsSpent) ↔ (HasNumbers s n × LacksSlots s n)

  -- so does an answer that tells it of needs that are these
  pub tells-of : {T : Type 0} (r : Result T CoreError) {m n : Counts} → m ≡ n → (r ≡ Err CounterSpent) ↔ LacksNumbers s m → (r ≡ Err SlotsSpent) ↔ (HasNumbers s m × LacksSlots s m) → TellsLacks n r
  tells-of r {m = m} {n = n} same counter slots = let told : TellsLacks m r = record { counter = counter; slots = slots } in subst (λ k. TellsLacks k r) same told

  -- a refusal that is passed on
  pub tells-refused : {T U : Type 0} (n : Counts) (q : Result T CoreError) (r : Result U CoreError) (e : CoreError) → TellsLacks n q → q ≡ Err e → IsErrAnd r (λ y. y ≡ e) → TellsLacks n r
  tells-refused n q (Ok v) e tells was h = absurd h
  tells-refused {T = T} {U = U} n q (Err y) e tells was h = record {
    counter = (
      λ k. tells.counter.0 (was ∙ ap Err (sym h) ∙ same_refusal {T = U} {U = T} y CounterSpent k),
      λ k. same_refusal {T = T} {U = U} y CounterSpent (ap Err h ∙ sym was ∙ tells.counter.1 k),
    );
    slots = (
      λ k. tells.slots.0 (was ∙ ap Err (sym h) ∙ same_refusal {T = U} {U = T} y SlotsSpent k),
      λ k. same_refusal {T = T} {U = U} y SlotsSpent (ap Err h ∙ sym was ∙ tells.slots.1 k),
    );
  }

  -- there was enough, and memory lacked
  pub tells-memory : {T U : Type 0} (n : Counts) (q : Result T CoreError) (r : Result U CoreError) (v : T) → TellsLacks n q → q ≡ Ok v → IsErrAnd r (λ y. y ≡ OutOfMemory) → TellsLacks n r
  tells-memory n q r v tells was h = record {
    counter = (λ k. absurd (no_counter r h k), λ k. absurd (let never = tells.counter.1 k in cc));
    slots = (λ k. absurd (no_slots r h k), λ k. absurd (let never = tells.slots.1 k in cc));
  }

  -- no number lacks where none is needed
  pub tells-slots : {T : Type 0} (n : Counts) (r : Result T CoreError) → TellsLacks n r → HasNumbers s n → (r ≡ Err SlotsSpent) ↔ LacksSlots s n
  tells-slots n r tells has = (λ k. (tells.slots.0 k).1, λ k. tells.slots.1 (has, k))

  -- there was enough
  pub tells-done : {T U : Type 0} (n : Counts) (q : Result T CoreError) (v : T) (w : U) → TellsLacks n q → q ≡ Ok v → TellsLacks n (Ok w)
  tells-done n q v w tells was = record {
    counter = (λ k. absurd cc, λ k. absurd (let never = tells.counter.1 k in cc));
    slots = (λ k. absurd cc, λ k. absurd (let never = tells.slots.1 k in cc));
  }

-- a region needs no numbers
module _ {D A K B S X L : Type 0} (s : ContextState D A K B S X L) (values : s.next_value ≤ s.limits.values) (uses : s.next_use ≤ s.limits.uses) where
  values_left : Left s.limits.values (λ m. IsTrue (nat_lt m s.next_value)) (s.limits.values - s.next_value)
  values_left = Left-below s.next_value s.limits.values values

  uses_left : Left s.limits.uses (λ m. IsTrue (nat_lt m s.next_use)) (s.limits.uses - s.next_use)
  uses_left = Left-below s.next_use s.limits.uses uses

  pub has-no-numbers : HasNumbers (bare s) region_needs
  has-no-numbers = record {
    values = left-has s.limits.values (λ m. IsTrue (nat_lt m s.next_value)) (s.limits.values - s.next_value) 0 values_left (omega arith);
    uses = left-has s.limits.uses (λ m. IsTrue (nat_lt m s.next_use)) (s.limits.uses - s.next_use) 0 uses_left (omega arith);
  }

  pub lacks-no-numbers : LacksNumbers (bare s) region_needs → ⊥
  lacks-no-numbers (inl h) = absurd (omega (arith, lacks-left s.limits.values (λ m. IsTrue (nat_lt m s.next_value)) (s.limits.values - s.next_value) 0 values_left h))
  lacks-no-numbers (inr h) = absurd (omega (arith, lacks-left s.limits.uses (λ m. IsTrue (nat_lt m s.next_use)) (s.limits.uses - s.next_use) 0 uses_left h))

-- a refusal that is for numbers or slots, and not for slots, is for numbers
pub only-counter : {T : Type 0} (r : Result T CoreError) → IfErr r (λ e. (e ≡ CounterSpent) ⊎ (e ≡ SlotsSpent)) → (r ≡ Err SlotsSpent → ⊥) → IfErr r (λ e. e ≡ CounterSpent)
only-counter (Ok v) h never = tt
only-counter (Err e) (inl k) never = k
only-counter (Err e) (inr k) never = absurd (never (ap Err k))
