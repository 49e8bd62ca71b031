-- Lists that are told place by place.
use mathlib.Core.Path.{◌≡◌, refl, sym, ap, ap₂, ◌∙◌, subst}
use Rattle.std.proofs.Common.{ℕ, zero, suc, ◌+◌, ◌<◌, ◌≤◌, inl, inr, Bool, true, false, Option, Some, None, List, [], ◌∷◌, map, length, get_or, fold, take, arith}
use Rattle.std.proofs.lemmas.Bool.{cases_lt}
use Rattle.std.proofs.lemmas.List.Sums.{fold_more}
use Rattle.std.proofs.lemmas.Option.{slice_get_within}
use Rattle.std.specs.Prelude.{◌↔◌, IsTrue, slice_get}
use Rattle.std.specs.Option.{option_map}

some_same : {A : Type 0} (x y : A) → Some x ≡ Some y → x ≡ y
some_same x y e = cc

-- two lists of one length that agree at each place are one
pub same_by_places : {A : Type 0} (xs ys : List A) → length xs ≡ length ys → ((k : ℕ) → k < length xs → slice_get xs k ≡ slice_get ys k) → xs ≡ ys
same_by_places [] [] n h = refl
same_by_places [] (y ∷ ys) n h = absurd (omega (arith, n))
same_by_places (x ∷ xs) [] n h = absurd (omega (arith, n))
same_by_places (x ∷ xs) (y ∷ ys) n h =
    ap₂ (λ z zs. z ∷ zs) (some_same x y (h zero (omega arith))) (same_by_places xs ys (omega (arith, n)) (λ k lt. h (suc k) (omega (arith, lt))))

-- what is found at a place, seen through a map
pub seen_at : {A B : Type 0} (v : A → B) (xs : List A) (k : ℕ) (y : B) → option_map v (slice_get xs k) ≡ Some y → slice_get (map v xs) k ≡ Some y
seen_at v [] k y e = absurd cc
seen_at v (x ∷ xs) zero y e = e
seen_at v (x ∷ xs) (suc k) y e = seen_at v xs k y e

pub read_at : {A : Type 0} (xs : List A) (k : ℕ) (x d : A) → slice_get xs k ≡ Some x → get_or xs k d ≡ x
read_at [] k x d e = absurd cc
read_at (y ∷ xs) zero x d e = some_same y x e
read_at (y ∷ xs) (suc k) x d e = read_at xs k x d e

-- ## Lists that are compared

module _ {A : Type 0} (xs ys : List A) (n : ℕ) (x y : A) (at : slice_get xs n ≡ Some x) (other : slice_get ys n ≡ Some y) where
  -- they differ at a place
  pub differs_at : (b : Bool) → IsTrue b ↔ (x ≡ y) → b ≡ false → IsTrue false ↔ (xs ≡ ys)
  differs_at true told e = absurd (let z : true ≡ false = e in cc)
  differs_at false told e = (λ t. absurd (let z : false ≡ true = t in cc), λ same. told.1 (some_same x y (sym at ∙ ap (λ zs. slice_get zs n) same ∙ other)))

  -- they agree at a place more
  pub agrees_more : ((k : ℕ) → k < n → slice_get xs k ≡ slice_get ys k) → (b : Bool) → IsTrue b ↔ (x ≡ y) → b ≡ true → (k : ℕ) → k < n + 1 → slice_get xs k ≡ slice_get ys k
  agrees_more so_far b told e k lt = elim (cases_lt k n) [
    | inl h ↦ so_far k h
    | inr h ↦ (
        let here : k ≡ n = omega arith in
        ap (slice_get xs) here ∙ at ∙ ap Some (told.0 e) ∙ sym other ∙ sym (ap (slice_get ys) here))
  ]

-- they agree at all places
pub agree_all : {A : Type 0} (xs ys : List A) (n : ℕ) → n ≡ length xs → n ≡ length ys → ((k : ℕ) → k < n → slice_get xs k ≡ slice_get ys k) → IsTrue true ↔ (xs ≡ ys)
agree_all xs ys n one other so_far = (λ t. same_by_places xs ys (sym one ∙ other) (λ k lt. so_far k (omega (arith, lt, one))), λ e. refl)

-- lists of different lengths
pub lengths_differ : {A : Type 0} (xs ys : List A) (m n : ℕ) → m ≡ length xs → n ≡ length ys → (m ≡ n → ⊥) → IsTrue false ↔ (xs ≡ ys)
lengths_differ xs ys m n one other apart = (λ t. absurd (let z : false ≡ true = t in cc), λ e. absurd (apart (one ∙ ap length e ∙ sym other)))

-- ## Lists that are fed

-- one more was fed
pub fed_more : {S : Type 0} (step : S → ℕ → S) (start : S) (xs : List ℕ) (i n : ℕ) → slice_get xs i ≡ Some n → (s t : S) → s ≡ fold step start (take i xs) → t ≡ step s n → t ≡ fold step start (take (i + 1) xs)
fed_more step start xs i n at s t so_far e =
    e ∙ ap (λ r. step r n) so_far ∙ ap (step (fold step start (take i xs))) (sym (read_at xs i n 0 at)) ∙ sym (fold_more step start xs i 0 (slice_get_within xs i n at))

-- all were fed
pub fed_all : {S : Type 0} (step : S → ℕ → S) (start : S) (xs : List ℕ) (n : ℕ) → n ≡ length xs → (s : S) → s ≡ fold step start (take n xs) → s ≡ fold step start xs
fed_all step start xs n e s so_far = so_far ∙ ap (fold step start) (ap (λ k. take k xs) e ∙ all xs)
  where
    all : (ys : List ℕ) → take (length ys) ys ≡ ys
    all [] = refl
    all (y ∷ ys) = ap (λ zs. y ∷ zs) (all ys)
