-- Items of a list by place and by number.
use Rattle.std.proofs.Common.{◌≡◌, ℕ, suc, ◌==◌, List, [], ◌∷◌, get_or, Option, Some, None, IsSome, slice_get, refl, sym, ap, ◌∙◌, inl, inr, arith, position, eqb-true}
use Rattle.std.specs.Option.{option_map}
use Rattle.std.proofs.lemmas.Bool.{eq-eqb, false≢true}
use Rattle.std.proofs.lemmas.Option.{slice_get-get_or, same_Some}
use Rattle.std.proofs.lemmas.List.Quantifiers.{position-Some}
use Rattle.ir_model.specs.Ids.{Distinct}
use Rattle.ir_model.specs.Nesting.{In, list_of}
use Rattle.ir_model.proofs.Nests.{Absent-not_in}
use Rattle.ir_core_records.specs.Numbered.{position-None}

pub some_behind : {T U : Type 0} (f : T → U) (o : Option T) (y : U) → option_map f o ≡ Some y → (x : T) × (o ≡ Some x) × (f x ≡ y)
some_behind f None y h = absurd (cc)
some_behind f (Some x) y h = (x, refl, same_Some _ _ h)

-- where a list of a record has something, the record is there
pub record-there : {R X : Type 0} (read : R → List X) (x : X) (m : Option R) → In x (list_of read m) → IsSome m
record-there read x None h = absurd h
record-there read x (Some r) h = refl

module _ {A : Type 0} where
  -- what is in a list stands at a place
  pub place-In : (xs : List A) (x : A) → In x xs → (i : ℕ) × (slice_get xs i ≡ Some x)
  place-In [] x h = elim h [ ]
  place-In (y ∷ ys) x (inl e) = (0, ap Some (sym e))
  place-In (y ∷ ys) x (inr h) = let p = place-In ys x h in (suc p.0, p.1)

  -- a list is distinct where each item stands at one place
  pub Distinct-places : (xs : List A) → ((i j : ℕ) (x : A) → slice_get xs i ≡ Some x → slice_get xs j ≡ Some x → i ≡ j) → Distinct xs
  Distinct-places [] one = tt
  Distinct-places (y ∷ ys) one = (
    Absent-not_in y ys (λ h. let p = place-In ys y h in let e : 0 ≡ suc p.0 = one 0 (suc p.0) y refl p.1 in omega (arith, e)),
    Distinct-places ys (λ i j x e f. let k : suc i ≡ suc j = one (suc i) (suc j) x e f in omega (arith, k)),
  )

module _ {X : Type 0} (number : X → ℕ) where
  -- what was found has the number
  pub number-found : (xs : List X) (n i : ℕ) → position (λ x. number x == n) xs ≡ Some i → (x : X) × (slice_get xs i ≡ Some x) × (number x ≡ n)
  number-found [] n i e = absurd (cc)
  number-found (y ∷ ys) n i e =
      let p = position-Some (λ x. number x == n) (y ∷ ys) i y e in
      (get_or (y ∷ ys) i y, slice_get-get_or (y ∷ ys) i y p.0, eqb-true (number (get_or (y ∷ ys) i y)) n p.1)

  -- where nothing was found, nothing has the number
  pub number-missing : (xs : List X) (n : ℕ) → position (λ x. number x == n) xs ≡ None → (x : X) → In x xs → number x ≡ n → ⊥
  number-missing xs n none x h e =
      let p = place-In xs x h in
      false≢true (sym (position-None (λ y. number y == n) xs p.0 x none p.1) ∙ eq-eqb (number x) n e)
