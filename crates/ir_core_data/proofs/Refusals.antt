-- Answers and refusals of one call that are handed on by another.
use Rattle.std.proofs.Common.{◌≡◌, ◌↔◌, Result, Ok, Err, ap, ◌∙◌}
use Rattle.ir_model.specs.declared.error.CoreError.{CoreError}
use Rattle.ir_model.specs.declared.error.CoreError.TheVariants.{OutOfMemory, SlotsSpent}

-- a refusal that is handed on is one for slots exactly where it was
pub handed_on : {A B : Type 0} {P : Type 0} (was : Result A CoreError) (is : Result B CoreError) (e : CoreError) → was ≡ Err e → is ≡ Err e → (was ≡ Err SlotsSpent) ↔ P → (is ≡ Err SlotsSpent) ↔ P
handed_on was is e at to spent = (
  λ h. spent.0 (let same : e ≡ SlotsSpent = cc in at ∙ ap Err same),
  λ p. let refused : was ≡ Err SlotsSpent = spent.1 p in let same : e ≡ SlotsSpent = cc in to ∙ ap Err same,
)

-- and what is answered is none
pub answered : {A B : Type 0} {P : Type 0} (was : Result A CoreError) (is : Result B CoreError) (a : A) (b : B) → was ≡ Ok a → is ≡ Ok b → (was ≡ Err SlotsSpent) ↔ P → (is ≡ Err SlotsSpent) ↔ P
answered was is a b at to spent = (λ h. absurd (cc), λ p. let refused : was ≡ Err SlotsSpent = spent.1 p in absurd (cc))

-- an answer is no refusal for memory
pub answered-memory : {A : Type 0} {P : Type 0} (is : Result A CoreError) (a : A) → is ≡ Ok a → is ≡ Err OutOfMemory → P
answered-memory is a at refused = absurd (cc)

-- and a refusal for memory that is handed on was one
pub handed-memory : {A B : Type 0} {P : Type 0} (was : Result A CoreError) (is : Result B CoreError) (e : CoreError) → was ≡ Err e → is ≡ Err e → (was ≡ Err OutOfMemory → P) → is ≡ Err OutOfMemory → P
handed-memory was is e at to told refused = told (let same : e ≡ OutOfMemory = cc in at ∙ ap Err same)
