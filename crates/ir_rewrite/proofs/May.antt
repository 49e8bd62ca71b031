-- Whether a call can be made, by what is said of the answer of its check.
use Rattle.std.proofs.Common.{◌≡◌, ◌⊎◌, refl, sym, ◌∙◌, inl, inr, Bool, true, false, not, List}
use Rattle.std.specs.Prelude.{◌↔◌, Result, Ok, Err, IsOk}
use Rattle.ir_model.specs.declared.ids.ArenaIndex.{ArenaIndex}
use Rattle.ir_model.specs.ContextIds.{context_ids}
use Rattle.ir_model.specs.Forest.{Dialect, Forest, a_block, an_op}
use Rattle.ir_model.specs.Nesting.{IsClosed, IsLive, Nested}
use Rattle.ir_model.specs.Edits.{MayGoBeside, MayGoInto}
use Rattle.ir_checked_core.specs.declared.error.Call.{Call}
use Rattle.ir_checked_core.specs.declared.error.CheckedErr.{CheckedErr}
use Rattle.ir_checked_core.specs.Answers.{own_value}
use Rattle.ir_core_records.specs.declared.handles.Value.{Value}
use Rattle.ir_rewrite.specs.Answers.{EraseAnswers, InsertBesideAnswers, InsertIntoAnswers, MoveAnswers, ReplaceAnswers}
use Rattle.ir_rewrite.specs.Points.{MayMoveBeside}
use Rattle.ir_rewrite.specs.Replacing.{MayReplace}

-- no fault was told, so the rest holds
rest_of : {P T E X : Type 0} {x : T} {e : E} → (P × (◌≡◌ {A = Result T E} (Ok x) (Err e))) ⊎ X → X
rest_of {T = T} {E = E} {x = x} {e = e} (inl h) = let w : ◌≡◌ {A = Result T E} (Ok x) (Err e) = h.1 in absurd cc
rest_of (inr h) = h

-- a fault was told, and what it denies holds, or something after it
fault_of : {P A X : Type 0} → ((P → ⊥) × A) ⊎ (P × X) → P → (X → ⊥) → ⊥
fault_of (inl h) p never = h.0 p
fault_of (inr h) p never = never h.1

no_wonder : {A : Type 0} → false ≡ true → A
no_wonder e = absurd cc

pub was_true : (b : Bool) → not b ≡ false → b ≡ true
was_true true e = refl
was_true false e = let w : true ≡ false = e in absurd cc

module _ {T : Type 0} {W : Dialect} (f : Forest context_ids W) (o : ArenaIndex) where
  pub into_may : (call : Call) (b : ArenaIndex) (r : Result T CheckedErr) → InsertIntoAnswers call f o b own_value r
      → IsOk r ↔ (IsLive f (an_op o) × IsLive f (a_block b) × MayGoInto f (an_op o) (a_block b))
  into_may call b (Ok x) h =
      let h1 = rest_of h in let h2 = rest_of h1.1 in let h3 = rest_of h2.1 in let h4 = rest_of h3.1 in
      (λ _. (h1.0, h2.0, (h3.0, h4.0)), λ _. refl)
  into_may call b (Err e) h =
      (λ k. no_wonder k, λ m. absurd (fault_of h m.0 (λ h1. fault_of h1 m.1 (λ h2. fault_of h2 m.2.0 (λ h3. fault_of h3 m.2.1 (λ z. z))))))

  pub beside_may : Nested f → (call : Call) (mark : ArenaIndex) (r : Result T CheckedErr) → InsertBesideAnswers call f o mark own_value r
      → IsOk r ↔ (IsLive f (an_op o) × MayGoBeside f (an_op o) (an_op mark))
  beside_may nested call mark (Ok x) h =
      let h1 = rest_of h in let h2 = rest_of h1.1 in let h3 = rest_of h2.1 in let h4 = rest_of h3.1 in let h5 = rest_of h4.1 in
      (λ _. (h1.0, (h4.0, h5.0)), λ _. refl)
  beside_may nested call mark (Err e) h =
      (λ k. no_wonder k, λ m. absurd (fault_of h m.0 (λ h1. fault_of h1 (nested.live (an_op mark) m.1.1.0 m.1.1.1) (λ h2. fault_of h2 (m.1.1.0, m.1.1.1) (λ h3. fault_of h3 m.1.0 (λ h4. fault_of h4 m.1.1 (λ z. z)))))))

  pub move_may : Nested f → (call : Call) (mark : ArenaIndex) (r : Result T CheckedErr) → MoveAnswers call f o mark own_value r → IsOk r ↔ MayMoveBeside f o mark
  move_may nested call mark (Ok x) h =
      let h1 = rest_of h in let h2 = rest_of h1.1 in let h3 = rest_of h2.1 in let h4 = rest_of h3.1 in let h5 = rest_of h4.1 in
      (λ _. h5.0, λ _. refl)
  move_may nested call mark (Err e) h =
      (λ k. no_wonder k, λ m. absurd (fault_of h (nested.live (an_op o) m.0.0 m.0.1) (λ h1. fault_of h1 m.0 (λ h2. fault_of h2 (nested.live (an_op mark) m.2.0 m.2.1) (λ h3. fault_of h3 (m.2.0, m.2.1) (λ h4. fault_of h4 m (λ z. z)))))))

  pub erase_may : (r : Result T CheckedErr) → EraseAnswers f o own_value r → IsOk r → IsLive f (an_op o) × IsClosed f (an_op o)
  erase_may (Ok x) h = let h1 = rest_of h in let h2 = rest_of h1.1 in λ _. (h1.0, h2.0)
  erase_may (Err e) h = λ k. no_wonder k

  pub replace_may : {D A K B S X L : Type 0} (values : List (Value D A K B S X L)) (r : Result T CheckedErr) → ReplaceAnswers f o values own_value r → IsOk r ↔ MayReplace f o values
  replace_may values (Ok x) h =
      let h1 = rest_of h in let h2 = rest_of h1.1 in let h3 = rest_of h2.1 in let h4 = rest_of h3.1 in let h5 = rest_of h4.1 in
      (λ _. record { live = h1.0; as_many = h2.0; values_live = h3.0; outside = h4.0; closed = h5.0 }, λ _. refl)
  replace_may values (Err e) h =
      (λ k. no_wonder k, λ m. absurd (fault_of h m.live (λ h1. fault_of h1 m.as_many (λ h2. fault_of h2 m.values_live (λ h3. fault_of h3 m.outside (λ h4. fault_of h4 m.closed (λ z. z)))))))
