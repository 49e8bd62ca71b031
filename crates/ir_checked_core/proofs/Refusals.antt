-- What a call was refused for, as the checked call tells it.
use Rattle.std.proofs.Common.{◌≡◌, ap, sym, ◌∙◌, Err, Result}
use Rattle.std.specs.Prelude.{◌↔◌}
use Rattle.ir_model.specs.declared.error.CoreError.{CoreError}
use Rattle.ir_checked_core.specs.declared.error.CheckedErr.{CheckedErr}
use Rattle.ir_checked_core.specs.declared.error.CheckedErr.TheVariants.{Core}

-- the checked call tells this exactly where P, as the call does
pub told_as : {T U : Type 0} (r : Result T CoreError) (e k : CoreError) (P : Type 0) → r ≡ Err e → (r ≡ Err k) ↔ P → (◌≡◌ {A = Result U CheckedErr} (Err (Core e)) (Err (Core k))) ↔ P
told_as {T} {U} r e k P is exact =
    let back : ◌≡◌ {A = Result U CheckedErr} (Err (Core e)) (Err (Core k)) → e ≡ k = λ same. cc in
    let one : ◌≡◌ {A = Result T CoreError} (Err e) (Err k) → e ≡ k = λ same. cc in
    let told : CoreError → Result U CheckedErr = λ z. Err (Core z) in
    let kept : CoreError → Result T CoreError = λ z. Err z in
    (λ same. exact.0 (is ∙ ap kept (back same)), λ p. ap told (one (sym is ∙ exact.1 p)))
