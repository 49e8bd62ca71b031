-- What stands at one place of two lists.
use Rattle.std.proofs.Common.{◌≡◌, ℕ, zero, suc, ◌<◌, List, [], ◌∷◌, map, length, Option, Some, None, slice_get, refl, ap, ap₂, subst, inl, inr, arith}
use Rattle.std.specs.Option.{option_map}
use Rattle.std.specs.List.{AllZip}
use Rattle.ir_text_described.specs.Alike.{AtOnePlace}

-- what a function gives of something, it gives of some thing
pub mapped_some : {A X : Type 0} (h : A → X) (o : Option A) (x : X) → option_map h o ≡ Some x → (a : A) × (o ≡ Some a) × (h a ≡ x)
mapped_some h None x e = cc
mapped_some h (Some a) x e = let same : h a ≡ x = cc in (a, refl, same)

-- items with one index stand at one place
pub at_index : {A B X Y : Type 0} (h : A → X) (h' : B → Y) (xs : List A) (ys : List B) (k : ℕ) (x : X) (y : Y) → option_map h (slice_get xs k) ≡ Some x → option_map h' (slice_get ys k) ≡ Some y → AtOnePlace x y (map h xs) (map h' ys)
at_index h h' [] ys k x y e e' = let no : ⊥ = cc in absurd no
at_index h h' (a ∷ xs) [] k x y e e' = let no : ⊥ = cc in absurd no
at_index h h' (a ∷ xs) (b ∷ ys) zero x y e e' =
    let one : x ≡ h a = cc in
    let other : y ≡ h' b = cc in
    inl (ap₂ (λ u v. (u, v)) one other)
at_index h h' (a ∷ xs) (b ∷ ys) (suc k) x y e e' = inr (at_index h h' xs ys k x y e e')

-- what stands at one place of two lists to which functions were applied
pub unmapped : {A B X Y : Type 0} (h : A → X) (h' : B → Y) (xs : List A) (ys : List B) (x : X) (y : Y) → AtOnePlace x y (map h xs) (map h' ys) → (a : A) × (b : B) × (x ≡ h a) × (y ≡ h' b) × AtOnePlace a b xs ys
unmapped h h' [] ys x y at = absurd at
unmapped h h' (a ∷ xs) [] x y at = absurd at
unmapped h h' (a ∷ xs) (b ∷ ys) x y (inl e) = (a, b, ap (λ p. p.0) e, ap (λ p. p.1) e, inl refl)
unmapped h h' (a ∷ xs) (b ∷ ys) x y (inr at) =
    let r = unmapped h h' xs ys x y at in
    (r.0, r.1, r.2, r.3, inr r.4)

-- two lists of one length that agree place by place
pub same_by_place : {A B X : Type 0} (h : A → X) (h' : B → X) (xs : List A) (ys : List B) → length xs ≡ length ys → ((k : ℕ) → k < length xs → option_map h (slice_get xs k) ≡ option_map h' (slice_get ys k)) → map h xs ≡ map h' ys
same_by_place h h' [] [] so_many each = refl
same_by_place h h' [] (b ∷ ys) so_many each = absurd (omega arith)
same_by_place h h' (a ∷ xs) [] so_many each = absurd (omega arith)
same_by_place h h' (a ∷ xs) (b ∷ ys) so_many each =
    let first : Some (h a) ≡ Some (h' b) = each zero (omega arith) in
    let same : h a ≡ h' b = cc in
    ap₂ (λ x xs. x ∷ xs) same (same_by_place h h' xs ys (omega arith) (λ k lt. each (suc k) (omega arith)))

-- two lists of one length between which a relation holds place by place
pub zip_by_place : {A B : Type 0} (R : A → B → Type 0) (xs : List A) (ys : List B) → length xs ≡ length ys → ((k : ℕ) → k < length xs → (a : A) × (b : B) × (slice_get xs k ≡ Some a) × (slice_get ys k ≡ Some b) × R a b) → AllZip R xs ys
zip_by_place R [] [] so_many each = tt
zip_by_place R [] (b ∷ ys) so_many each = absurd (omega arith)
zip_by_place R (a ∷ xs) [] so_many each = absurd (omega arith)
zip_by_place R (a ∷ xs) (b ∷ ys) so_many each =
    let first : (c : _) × (d : _) × (Some a ≡ Some c) × (Some b ≡ Some d) × R c d = each zero (omega arith) in
    (related first.0 first.1 first.2 first.3 first.4, zip_by_place R xs ys (omega arith) (λ k lt. each (suc k) (omega arith)))
  where
    related : (c : _) (d : _) → Some a ≡ Some c → Some b ≡ Some d → R c d → R a b
    related c d one other r =
        let e : c ≡ a = cc in
        let e' : d ≡ b = cc in
        subst (λ z. R z b) e (subst (R c) e' r)

-- what stands at one place still does where functions were applied
pub at_place_mapped : {A B X Y : Type 0} (h : A → X) (h' : B → Y) (xs : List A) (ys : List B) (a : A) (b : B) → AtOnePlace a b xs ys → AtOnePlace (h a) (h' b) (map h xs) (map h' ys)
at_place_mapped h h' [] ys a b at = absurd at
at_place_mapped h h' (x ∷ xs) [] a b at = absurd at
at_place_mapped h h' (x ∷ xs) (y ∷ ys) a b (inl e) = inl (ap (λ p. (h p.0, h' p.1)) e)
at_place_mapped h h' (x ∷ xs) (y ∷ ys) a b (inr at) = inr (at_place_mapped h h' xs ys a b at)
