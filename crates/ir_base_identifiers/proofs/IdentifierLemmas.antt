-- What holds of the texts that are identifiers.
use Rattle.std.proofs.Common.{◌≡◌, ℕ, ◌+◌, ◌<◌, ◌^◌, ◌%◌, ◌++◌, List, [], ◌∷◌, true, refl, arith}
use Rattle.std.proofs.lemmas.Grind.{common_steps}
use Rattle.std.proofs.lemmas.List.Folds.{list_all-append}
use Rattle.std.proofs.lemmas.Fmt.{decimal_by_steps}
use Rattle.std.specs.Fmt.{decimal}
use Rattle.std.specs.List.{list_all}
use Rattle.ir_model.specs.Identifier.{can_start, can_continue, IsIdentifier}

-- what may stand first may stand further on
pub can_start-can_continue : (b : ℕ) → can_start b ≡ true → can_continue b ≡ true
can_start-can_continue b first = grind (arith, common_steps)

-- each byte of an identifier may stand further on in one
pub is_identifier-can_continue : (text : List ℕ) → IsIdentifier text → list_all can_continue text ≡ true
is_identifier-can_continue [] valid = cc
is_identifier-can_continue (b ∷ bs) valid = grind (arith, common_steps, can_start-can_continue b)

-- an identifier followed by bytes that may stand further on is one
pub is_identifier-append : (text more : List ℕ) → IsIdentifier text → list_all can_continue more ≡ true → IsIdentifier (text ++ more)
is_identifier-append [] more valid continues = cc
is_identifier-append (b ∷ bs) more valid continues = grind (arith, common_steps)

-- an identifier followed by one is one
pub is_identifier-join : (text more : List ℕ) → IsIdentifier text → IsIdentifier more → IsIdentifier (text ++ more)
is_identifier-join text more first second = is_identifier-append text more first (is_identifier-can_continue more second)

-- a digit may stand further on
digit-can_continue : (n : ℕ) → n < 10 → can_continue (48 + n) ≡ true
digit-can_continue n small = grind (arith, common_steps)

-- so may all of a number in decimal
pub decimal-can_continue : (n : ℕ) → n < 2 ^ 64 → list_all can_continue (decimal n) ≡ true
decimal-can_continue n fits =
    decimal_by_steps (λ _ digits. list_all can_continue digits ≡ true)
    (λ d small. grind (arith, common_steps, digit-can_continue d))
    (λ m digits _ front.
    let small : m % 10 < 10 = omega arith in
    let last : can_continue (48 + m % 10) ≡ true = digit-can_continue (m % 10) small in
    rw (list_all-append, front, last) refl)
    n fits
