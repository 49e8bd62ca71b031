-- A list that grows by what an iterator gives, until nothing is left.
use Rattle.std.proofs.Common.{◌≡◌, All, map, List, [], ◌∷◌, ◌++◌, refl, sym, ap, ◌∙◌}
use Rattle.std.proofs.lemmas.List.Elements.{All-nil, All-cons, All-head, All-tail}

-- before the first, all is left
pub all-left : {A B : Type 0} (xs : List A) (v : A → B) (left : List B) → xs ≡ [] → map v xs ++ left ≡ left
all-left xs v left none = ap (λ l. map v l ++ left) none

-- what is gathered and what is left stay the same together when one goes over
pub goes-over : {A B : Type 0} (xs ys : List A) (x : A) (v : A → B) (left after : List B) → left ≡ v x ∷ after → ys ≡ xs ++ x ∷ [] → map v xs ++ left ≡ map v ys ++ after
goes-over {A = A} xs ys x v left after given grown = ap (λ l. map v xs ++ l) given ∙ by xs ∙ ap (λ l. map v l ++ after) (sym grown)
  where
    by : (l : List A) → map v l ++ v x ∷ after ≡ map v (l ++ x ∷ []) ++ after
    by [] = refl
    by (y ∷ l) = ap (λ z. v y ∷ z) (by l)

-- with nothing left, all is gathered
pub all-gathered : {A B : Type 0} (xs : List A) (v : A → B) (left : List B) → left ≡ [] → map v xs ++ left ≡ map v xs
all-gathered {B = B} xs v left none = ap (λ l. map v xs ++ l) none ∙ by (map v xs)
  where
    by : (l : List B) → l ++ [] ≡ l
    by [] = refl
    by (y ∷ l) = ap (λ z. y ∷ z) (by l)

-- what holds of what is seen of all items holds of the items
pub all-seen : {A B : Type 0} (xs : List A) (v : A → B) (P : B → Type 0) → All P (map v xs) → All (λ x. P (v x)) xs
all-seen [] v P h = All-nil (λ x. P (v x))
all-seen (x ∷ xs) v P h = All-cons (λ y. P (v y)) x xs (All-head P (v x) (map v xs) h) (all-seen xs v P (All-tail P (v x) (map v xs) h))
