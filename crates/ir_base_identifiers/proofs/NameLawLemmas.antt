-- What holds of every identifier.
use Rattle.std.proofs.Common.{◌≡◌, ℕ, suc, zero, List, [], ◌∷◌, Bool, true, Contains, ◌⊎◌, inl, inr, refl, sym, ◌∙◌, ap, arith}
use Rattle.std.proofs.lemmas.Grind.{common_steps}
use Rattle.std.specs.List.{list_all}
use Rattle.std.specs.Char.{IsAsciiAlphabetic, IsAsciiAlphanumeric}
use Rattle.ir_model.specs.Identifier.{can_start, can_continue, IsIdentifier}
use Rattle.ir_base_identifiers.specs.NameLaws.{FollowsRule}

-- an element of a list is its head or stands in its tail
pub Contains-split : {X : Type 0} (x : X) (xs : List X) (p : X) → Contains (x ∷ xs) p → (x ≡ p) ⊎ Contains xs p
Contains-split x xs p (zero, below, is) = inl is
Contains-split x xs p (suc k, below, is) = inr (k, omega arith, is)

Contains-head : {X : Type 0} (x : X) (xs : List X) → Contains (x ∷ xs) x
Contains-head x xs = (0, omega arith, refl)

Contains-tail : {X : Type 0} (x : X) (xs : List X) (p : X) → Contains xs p → Contains (x ∷ xs) p
Contains-tail x xs p at = (suc at.0, omega (arith, at.1), at.2)

-- the bytes that may start an identifier
can_start-is : (b : ℕ) → can_start b ≡ true → IsAsciiAlphabetic b ⊎ (b ≡ 95)
can_start-is b is = grind (arith, common_steps)

can_start-from : (b : ℕ) → IsAsciiAlphabetic b ⊎ (b ≡ 95) → can_start b ≡ true
can_start-from b is = grind (arith, common_steps)

-- the bytes that may continue one
can_continue-is : (b : ℕ) → can_continue b ≡ true → IsAsciiAlphanumeric b ⊎ (b ≡ 95)
can_continue-is b is = grind (arith, common_steps)

can_continue-from : (b : ℕ) → IsAsciiAlphanumeric b ⊎ (b ≡ 95) → can_continue b ≡ true
can_continue-from b is = grind (arith, common_steps)

-- a test that all pass is passed by each
passed : (p : ℕ → Bool) (xs : List ℕ) → list_all p xs ≡ true → (b : ℕ) → Contains xs b → p b ≡ true
passed p [] all b at = absurd (omega (arith, at.1))
passed p (x ∷ xs) all b at =
    let first : p x ≡ true = grind (arith, common_steps) in
    let others : list_all p xs ≡ true = grind (arith, common_steps) in
    elim (Contains-split x xs b at) [ inl same ↦ ap p (sym same) ∙ first | inr later ↦ passed p xs others b later ]

-- and one that each passes is passed by all
all_pass : (p : ℕ → Bool) (xs : List ℕ) → ((b : ℕ) → Contains xs b → p b ≡ true) → list_all p xs ≡ true
all_pass p [] each = refl
all_pass p (x ∷ xs) each = rw (each x (Contains-head x xs)) (all_pass p xs (λ b at. each b (Contains-tail x xs b at)))

pub FollowsRule-from : (text : List ℕ) → IsIdentifier text → FollowsRule text
FollowsRule-from [] valid = cc
FollowsRule-from (b ∷ bs) valid =
    let first : can_start b ≡ true = grind (arith, common_steps) in
    let others : list_all can_continue bs ≡ true = grind (arith, common_steps) in
    record { first = b; rest = bs; text_is = refl; starts = can_start-is b first; continues = λ c at. can_continue-is c (passed can_continue bs others c at) }

pub IsIdentifier-from : (text : List ℕ) → FollowsRule text → IsIdentifier text
IsIdentifier-from text rule =
    rw (rule.text_is, can_start-from rule.first rule.starts)
    (all_pass can_continue rule.rest (λ b at. can_continue-from b (rule.continues b at)))
