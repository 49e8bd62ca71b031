-- Where a value would be saved that isn't saved yet.
use Rattle.std.proofs.Common.{◌≡◌, ℕ, suc, ◌+◌, Bool, true, false, not, ◌||◌, cond, List, [], ◌∷◌, length, Result, Ok, Err, refl, arith}
use Rattle.std.specs.Prelude.{OnErr}
use Rattle.std.specs.List.{list_any, position_or_len}

-- where nothing passes the test, the place of the first that does is behind the last
pub nowhere : {A : Type 0} (p : A → Bool) (xs : List A) → list_any p xs ≡ false → position_or_len p xs ≡ length xs
nowhere p [] none = refl
nowhere p (x ∷ xs) none = by (p x) none (nowhere p xs)
  where
    by : (b : Bool) → (b || list_any p xs) ≡ false → (list_any p xs ≡ false → position_or_len p xs ≡ length xs) → cond (not b) (1 + position_or_len p xs) 0 ≡ suc (length xs)
    by true h rest = absurd cc
    by false h rest = let same = rest h in omega (arith, same)

-- what follows of a refusal holds where one came
pub on_refusal : {A E P Q : Type 0} (r : Result A E) → (P → Q) → OnErr r P → OnErr r Q
on_refusal (Ok a) follows h = tt
on_refusal (Err e) follows h = follows h
