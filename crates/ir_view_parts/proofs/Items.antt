-- Facts of all items of a list, and of the items of two lists place by place.
use Rattle.std.proofs.Common.{◌≡◌, ◌∙◌, ap, Bool, true, false, ◌||◌, nat_lt, ℕ, suc, ◌+◌, ◌<◌, List, [], ◌∷◌, ◌++◌, length, map, take, get_or, All, Some, refl, subst, sym, inl, inr, arith, slice_get}
use Rattle.std.specs.Prelude.{◌↔◌, Any, IsTrue}
use Rattle.std.specs.List.{AllZip, list_any}
use Rattle.std.proofs.lemmas.List.Elements.{All-nil, All-cons, All-head, All-tail}
use Rattle.std.proofs.lemmas.Option.{slice_get-get_or, slice_get_within, get_or_from_slice_get}
use Rattle.std.proofs.lemmas.Bool.{lt-ltb}
use Rattle.std.proofs.Math.Bool.{or-true}
use Rattle.std.proofs.Math.Seq.{take-suc}
use Rattle.ir_model.specs.declared.ids.ArenaIndex.{ArenaIndex}
use Rattle.ir_model.specs.ContextIds.{same_id}
use Rattle.ir_model.specs.Nesting.{In}
use Rattle.ir_model.proofs.Edges.{got_in}
use Rattle.ir_model.proofs.IdCases.{id_cases, id_differs, id_same}

module _ {A : Type 0} (P : A → Type 0) where
  -- the place of what stands in the list
  pub place-in : (xs : List A) (x : A) → In x xs → (k : ℕ) × (slice_get xs k ≡ Some x)
  place-in [] x h = absurd h
  place-in (y ∷ ys) x (inl e) = (0, λ i. Some (sym e i))
  place-in (y ∷ ys) x (inr h) = let more = place-in ys x h in (suc more.0, more.1)

  -- one of them, at a place or in the list
  pub any-in : (xs : List A) → Any P xs ↔ ((x : A) × In x xs × P x)
  any-in xs = (
    λ h. (h.1, got_in xs h.0 h.1 (subst (λ y. slice_get xs h.0 ≡ Some y) h.3 (slice_get-get_or xs h.0 h.1 h.2)), h.4),
    λ h. let at = place-in xs h.0 h.1 in (at.0, h.0, slice_get_within xs at.0 h.0 at.1, get_or_from_slice_get xs at.0 h.0 h.0 at.1, h.2),
  )

-- of each item at its place, to all that is made of them
pub all-mapped : {A B : Type 0} (P : B → Type 0) (g : A → B) (xs : List A) → ((k : ℕ) (x : A) → slice_get xs k ≡ Some x → P (g x)) → All P (map g xs)
all-mapped P g [] each = All-nil P
all-mapped P g (x ∷ xs) each = All-cons P (g x) (map g xs) (each 0 x refl) (all-mapped P g xs (λ k y e. each (suc k) y e))

module _ {A B : Type 0} (R : A → B → Type 0) where
  -- one more item in each list
  pub zip-push : (xs : List A) (ys : List B) (x : A) (y : B) → AllZip R xs ys → R x y → AllZip R (xs ++ x ∷ []) (ys ++ y ∷ [])
  zip-push [] [] x y z r = (r, tt)
  zip-push [] (w ∷ ys) x y z r = absurd z
  zip-push (v ∷ xs) [] x y z r = absurd z
  zip-push (v ∷ xs) (w ∷ ys) x y z r = (z.0, zip-push xs ys x y z.1 r)

  -- one more of the first list, and an item more in the second
  pub zip-next : (xs : List A) (ys zs : List B) (k : ℕ) (d : A) (y : B) → AllZip R (take k xs) ys → k < length xs → zs ≡ ys ++ y ∷ [] → R (get_or xs k d) y → AllZip R (take (k + 1) xs) zs
  zip-next xs ys zs k d y z below is r =
      let next : take (k + 1) xs ≡ take k xs ++ get_or xs k d ∷ [] = (let more : k + 1 ≡ suc k = omega arith in ap (λ n. take n xs) more ∙ take-suc xs k d below) in
      subst (λ vs. AllZip R vs zs) (sym next) (subst (AllZip R (take k xs ++ get_or xs k d ∷ [])) (sym is) (zip-push (take k xs) ys (get_or xs k d) y z r))

  -- what follows of each item of the second list
  pub zip-second : (P : B → Type 0) → ((x : A) (y : B) → R x y → P y) → (xs : List A) (ys : List B) → AllZip R xs ys → All P ys
  zip-second P each [] [] z = All-nil P
  zip-second P each [] (w ∷ ys) z = absurd z
  zip-second P each (v ∷ xs) [] z = absurd z
  zip-second P each (v ∷ xs) (w ∷ ys) z = All-cons P w ys (each v w z.0) (zip-second P each xs ys z.1)

  module _ {C D : Type 0} (g : C → A) (h : D → B) where
    -- what is read of each item
    pub zip-map : (xs : List C) (ys : List D) → AllZip (λ x y. R (g x) (h y)) xs ys → AllZip R (map g xs) (map h ys)
    zip-map [] [] z = tt
    zip-map [] (w ∷ ys) z = absurd z
    zip-map (v ∷ xs) [] z = absurd z
    zip-map (v ∷ xs) (w ∷ ys) z = (z.0, zip-map xs ys z.1)

-- two readings of one list
pub zip-mapped : {A B C : Type 0} (R : B → C → Type 0) (g : A → B) (h : A → C) (xs : List A) → ((k : ℕ) (x : A) → slice_get xs k ≡ Some x → R (g x) (h x)) → AllZip R (map g xs) (map h xs)
zip-mapped R g h [] each = tt
zip-mapped R g h (x ∷ xs) each = (each 0 x refl, zip-mapped R g h xs (λ k y e. each (suc k) y e))

-- there is an item in a list that is not empty
pub some-in : {A : Type 0} (n : ℕ) (xs : List A) → n ≡ length xs → IsTrue (nat_lt 0 n) ↔ ((x : A) × In x xs)
some-in n [] e = (λ t. absurd (let no : nat_lt 0 n ≡ false = ap (nat_lt 0) e in cc), λ h. absurd h.1)
some-in n (x ∷ xs) e = (λ t. (x, inl refl), λ h. lt-ltb 0 n (omega (arith, e)))

-- an id stands in the list where a search finds it
pub listed-told : (i : ArenaIndex) (xs : List ArenaIndex) (b : Bool) → b ≡ list_any (λ j. same_id j i) xs → IsTrue b ↔ In i xs
listed-told i xs b is = (λ t. to xs (sym is ∙ t), λ h. is ∙ from xs h)
  where
    to : (ys : List ArenaIndex) → list_any (λ j. same_id j i) ys ≡ true → In i ys
    to [] e = absurd cc
    to (y ∷ ys) e = elim (id_cases y i) [
      | inl same ↦ inl (sym same)
      | inr ne ↦ inr (to ys (sym (ap (λ b. b || list_any (λ j. same_id j i) ys) (id_differs y i ne)) ∙ e))
    ]

    from : (ys : List ArenaIndex) → In i ys → list_any (λ j. same_id j i) ys ≡ true
    from [] h = absurd h
    from (y ∷ ys) (inl e) = ap (λ b. b || list_any (λ j. same_id j i) ys) (ap (λ z. same_id z i) (sym e) ∙ id_same i)
    from (y ∷ ys) (inr h) = ap (λ b. same_id y i || b) (from ys h) ∙ or-true (same_id y i)

-- of all that is read, to all items
pub all-read : {A B : Type 0} (P : B → Type 0) (g : A → B) (xs : List A) → All P (map g xs) → All (λ x. P (g x)) xs
all-read P g [] all = All-nil (λ x. P (g x))
all-read P g (x ∷ xs) all = All-cons (λ y. P (g y)) x xs (All-head P (g x) (map g xs) all) (all-read P g xs (All-tail P (g x) (map g xs) all))
