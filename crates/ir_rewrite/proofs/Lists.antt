-- Lists that are gone over place by place, turned, or one longer.
use Rattle.std.proofs.Common.{◌≡◌, ◌⊎◌, refl, sym, subst, inl, inr, ℕ, zero, suc, ◌+◌, ◌<◌, ◌≤◌, Option, Some, None, All, List, [], ◌∷◌, ◌++◌, map, length, below_more, arith, get_or, ◌∙◌}
use mathlib.Core.List.{reverse, reverse_aux}
use Rattle.std.specs.Prelude.{slice_get}
use Rattle.std.proofs.lemmas.Option.{slice_get_read, slice_get_within}
use Rattle.std.proofs.lemmas.List.Elements.{All-nil, All-cons, All-head, All-tail}
use Rattle.ir_model.specs.Nesting.{In}

pub some_is : {A : Type 0} (x y : A) → ◌≡◌ {A = Option A} (Some x) (Some y) → x ≡ y
some_is x y e = cc

none_is : {A : Type 0} (x : A) → ◌≡◌ {A = Option A} None (Some x) → ⊥
none_is x e = cc

-- what holds at each place holds of all
pub all_at : {A : Type 0} (P : A → Type 0) (xs : List A) → ((k : ℕ) (x : A) → slice_get xs k ≡ Some x → P x) → All P xs
all_at P [] h = All-nil P
all_at P (x ∷ xs) h = All-cons P x xs (h zero x refl) (all_at P xs (λ k y e. h (suc k) y e))

-- what holds at each place below i, and at i, holds at each below i + 1
pub at_more : {A : Type 0} (P : A → Type 0) (xs : List A) (i : ℕ) → ((k : ℕ) (x : A) → k < i → slice_get xs k ≡ Some x → P x) → ((x : A) → slice_get xs i ≡ Some x → P x) → (k : ℕ) (x : A) → k < i + 1 → slice_get xs k ≡ Some x → P x
at_more P xs i h here k x lt e = below_more (λ n. (y : _) → slice_get xs n ≡ Some y → P y) i (λ n less y. h n y less) here k lt x e

-- what holds at each place below the length holds of all
pub all_below : {A : Type 0} (P : A → Type 0) (xs : List A) (n : ℕ) → length xs ≤ n → ((k : ℕ) (x : A) → k < n → slice_get xs k ≡ Some x → P x) → All P xs
all_below P xs n le h = all_at P xs (λ k x e. h k x (omega (arith, slice_get_within xs k x e, le)) e)

-- what holds of all holds at each place
pub at_all : {A : Type 0} (P : A → Type 0) (xs : List A) → All P xs → (k : ℕ) (x : A) → slice_get xs k ≡ Some x → P x
at_all P [] h k x e = absurd (none_is x e)
at_all P (y ∷ ys) h zero x e = subst P (some_is y x e) (All-head P y ys h)
at_all P (y ∷ ys) h (suc k) x e = at_all P ys (All-tail P y ys h) k x e

-- what holds of all holds of each
pub in_all : {A : Type 0} (P : A → Type 0) (xs : List A) → All P xs → (x : A) → In x xs → P x
in_all P [] h x i = elim i [ ]
in_all P (y ∷ ys) h x (inl e) = subst P (sym e) (All-head P y ys h)
in_all P (y ∷ ys) h x (inr i) = in_all P ys (All-tail P y ys h) x i

-- what holds of each holds of all
pub all_in : {A : Type 0} (P : A → Type 0) (xs : List A) → ((x : A) → In x xs → P x) → All P xs
all_in P [] h = All-nil P
all_in P (x ∷ xs) h = All-cons P x xs (h x (inl refl)) (all_in P xs (λ y i. h y (inr i)))

module _ {A B : Type 0} (v : A → B) where
  -- in a list that is one longer stands what stood there, and the one
  pub in_longer : (o : B) (xs : List A) (x : A) → (In o (map v xs) ⊎ (o ≡ v x)) → In o (map v (xs ++ x ∷ []))
  in_longer o [] x (inl i) = elim i [ ]
  in_longer o [] x (inr e) = inl e
  in_longer o (y ∷ ys) x (inl (inl e)) = inl e
  in_longer o (y ∷ ys) x (inl (inr i)) = inr (in_longer o ys x (inl i))
  in_longer o (y ∷ ys) x (inr e) = inr (in_longer o ys x (inr e))

  pub in_shorter : (o : B) (xs : List A) (x : A) → In o (map v (xs ++ x ∷ [])) → In o (map v xs) ⊎ (o ≡ v x)
  in_shorter o [] x (inl e) = inr e
  in_shorter o [] x (inr i) = elim i [ ]
  in_shorter o (y ∷ ys) x (inl e) = inl (inl e)
  in_shorter o (y ∷ ys) x (inr i) = elim (in_shorter o ys x i) [ inl k ↦ inl (inr k) | inr e ↦ inr e ]

  onto : (o : B) (xs ys : List A) → (In o (map v xs) ⊎ In o (map v ys)) → In o (map v (reverse_aux xs ys))
  onto o [] ys (inl i) = elim i [ ]
  onto o [] ys (inr i) = i
  onto o (x ∷ xs) ys (inl (inl e)) = onto o xs (x ∷ ys) (inr (inl e))
  onto o (x ∷ xs) ys (inl (inr i)) = onto o xs (x ∷ ys) (inl i)
  onto o (x ∷ xs) ys (inr i) = onto o xs (x ∷ ys) (inr (inr i))

  -- a turned list has what the list has
  pub in_turned : (o : B) (xs : List A) → In o (map v xs) → In o (map v (reverse xs))
  in_turned o xs i = onto o xs [] (inl i)

-- what is read at a place stands there
pub at_item : {A : Type 0} (xs : List A) (i : ℕ) (x item : A) → item ≡ get_or xs i item → slice_get xs i ≡ Some x → x ≡ item
at_item xs i x item is e = some_is x item (sym e ∙ slice_get_read xs (length xs) i item refl (slice_get_within xs i x e) is)
