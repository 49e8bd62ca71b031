-- An identifier followed by a number is one.
use Rattle.std.proofs.Common.{◌≡◌, ℕ, ◌+◌, ◌<◌, ◌^◌, ◌%◌, ◌++◌, List, [], ◌∷◌, true, subst, arith, append_assoc}
use Rattle.std.proofs.lemmas.Grind.{common_steps}
use Rattle.std.proofs.lemmas.List.Folds.{list_all-append}
use Rattle.std.proofs.lemmas.Fmt.{decimal_by_steps}
use Rattle.std.specs.Fmt.{decimal}
use Rattle.ir_model.specs.Identifier.{can_continue, IsIdentifier}

-- a digit may stand further on in an identifier
digit-continues : (d : ℕ) → d < 10 → can_continue (48 + d) ≡ true
digit-continues d small = grind (arith, common_steps)

-- an identifier followed by a digit is one
before-digit : (text : List ℕ) (d : ℕ) → IsIdentifier text → d < 10 → IsIdentifier (text ++ (48 + d) ∷ [])
before-digit [] d valid small = cc
before-digit (b ∷ bs) d valid small = grind (arith, common_steps, list_all-append, digit-continues d)

-- an identifier followed by a number in decimal is one
pub before-decimal : (text : List ℕ) (n : ℕ) → IsIdentifier text → n < 2 ^ 64 → IsIdentifier (text ++ decimal n)
before-decimal text n valid fits =
    decimal_by_steps (λ _ digits. IsIdentifier (text ++ digits))
    (λ d small. before-digit text d valid small)
    (λ m digits _ front. let small : m % 10 < 10 = omega arith in subst IsIdentifier (append_assoc text digits ((48 + m % 10) ∷ [])) (before-digit (text ++ digits) (m % 10) front small))
    n fits
