-- One-to-one maps of names, and the paths between names that they make.
use mathlib.Core.Path.{PathP, ◌≡◌, refl, sym, ap, ap₂, ◌∙◌, subst}
use mathlib.Core.Equiv.{Iso, iso_to_equiv}
use Rattle.std.proofs.Common.{suc, ◌≢◌, Bool, true, false, List, [], ◌∷◌, map, cond, length, ◌↔◌, arith}
use Rattle.ir_model.specs.Ids.{Absent, AllAbsent, Distinct}

-- the line of types that a one-to-one map makes
abbrev pub along : {A : Type 0} → Iso A A → 𝕀 → Type 0
along {A} e = λ i. V i A A (iso_to_equiv e)

pub list_along : {A : Type 0} (e : Iso A A) (xs : List A) → PathP (λ i. List (along e i)) xs (map e.fun xs)
list_along e [] = λ i. []
list_along e (x ∷ xs) = λ i. vin i x (e.fun x) ∷ list_along e xs i

pub list_onto : {A : Type 0} (e : Iso A A) (xs ys : List A) → map e.fun xs ≡ ys → PathP (λ i. List (along e i)) xs ys
list_onto e xs ys same = subst (λ zs. PathP (λ i. List (along e i)) xs zs) same (list_along e xs)

pub test_along : {A : Type 0} (e : Iso A A) (t : A → A → Bool) → ((a b : A) → t (e.fun a) (e.fun b) ≡ t a b) → PathP (λ i. along e i → along e i → Bool) t t
test_along e t keeps = λ i x y. hcom 0 1 (t (vproj i x (iso_to_equiv e)) (vproj i y (iso_to_equiv e))) [ i = 0 ↦ j. keeps x y j | i = 1 ↦ _. t x y ]

module _ {A : Type 0} where
  id_iso : Iso A A
  id_iso = record { fun = λ a. a; inv = λ a. a; rinv = λ _. refl; linv = λ _. refl }

  -- a test that tells equal from different
  abbrev pub Tells : (A → A → Bool) → Type 0
  Tells t = (a b : A) → (t a b ≡ true) ↔ (a ≡ b)

  abbrev swap : (A → A → Bool) → A → A → A → A
  swap t x y z = cond (t z x) y (cond (t z y) x z)

  data At (t : A → A → Bool) (x y z : A) : Type 0 where
    first : z ≡ x → swap t x y z ≡ y → At t x y z
    second : z ≢ x → z ≡ y → swap t x y z ≡ x → At t x y z
    other : z ≢ x → z ≢ y → swap t x y z ≡ z → At t x y z

  at : (t : A → A → Bool) → Tells t → (x y z : A) → At t x y z
  at t tells x y z =
      by (t z x) (t z y) refl refl
    where
      by : (b c : Bool) → t z x ≡ b → t z y ≡ c → At t x y z
      by true c p q = first ((tells z x).0 p) (rw p)
      by false true p q = second (λ e. absurd (cc ((tells z x).1 e))) ((tells z y).0 q) (rw (p, q))
      by false false p q = other (λ e. absurd (cc ((tells z x).1 e))) (λ e. absurd (cc ((tells z y).1 e))) (rw (p, q))

  swap_first : (t : A → A → Bool) → Tells t → (x y : A) → swap t x y x ≡ y
  swap_first t tells x y = rw ((tells x x).1 refl)

  swap_second : (t : A → A → Bool) → Tells t → (x y : A) → swap t x y y ≡ x
  swap_second t tells x y = elim (at t tells x y y) [
    | first e s ↦ s ∙ e
    | second n e s ↦ s
    | other n m s ↦ absurd (m refl)
  ]

  swap_other : (t : A → A → Bool) → Tells t → (x y z : A) → z ≢ x → z ≢ y → swap t x y z ≡ z
  swap_other t tells x y z n m = elim (at t tells x y z) [
    | first e s ↦ absurd (n e)
    | second n e s ↦ absurd (m e)
    | other n m s ↦ s
  ]

  swap_twice : (t : A → A → Bool) → Tells t → (x y z : A) → swap t x y (swap t x y z) ≡ z
  swap_twice t tells x y z = elim (at t tells x y z) [
    | first e s ↦ ap (swap t x y) s ∙ swap_second t tells x y ∙ sym e
    | second n e s ↦ ap (swap t x y) s ∙ swap_first t tells x y ∙ sym e
    | other n m s ↦ ap (swap t x y) s ∙ s
  ]

  swap_iso : (t : A → A → Bool) → Tells t → A → A → Iso A A
  swap_iso t tells x y = record {
    fun = swap t x y;
    inv = swap t x y;
    rinv = swap_twice t tells x y;
    linv = swap_twice t tells x y;
  }

  abbrev then : Iso A A → Iso A A → Iso A A
  then e f = record {
    fun = λ a. f.fun (e.fun a);
    inv = λ a. e.inv (f.inv a);
    rinv = λ a. ap f.fun (e.rinv (f.inv a)) ∙ f.rinv a;
    linv = λ a. ap e.inv (f.linv (e.fun a)) ∙ e.linv a;
  }

  -- takes each of the first list to its partner in the second
  pub moving : (t : A → A → Bool) → Tells t → List A → List A → Iso A A
  unfolding swap_iso id_iso
  moving t tells xs [] = id_iso
  moving t tells [] (y ∷ ys) = id_iso
  moving t tells (x ∷ xs) (y ∷ ys) = then (swap_iso t tells x y) (moving t tells (map (swap t x y) xs) ys)

  swap_absent : (t : A → A → Bool) (tells : Tells t) (x y z : A) (xs : List A) → z ≢ x → z ≢ y → Absent z xs → Absent z (map (swap t x y) xs)
  swap_absent t tells x y z [] n m a = tt
  swap_absent t tells x y z (w ∷ xs) n m a = (
    λ e. a.0 (sym (swap_twice t tells x y z) ∙ ap (swap t x y) (swap_other t tells x y z n m ∙ e) ∙ swap_twice t tells x y w),
    swap_absent t tells x y z xs n m a.1,
  )

  -- the partner of the first is absent from what the rest becomes
  partner_absent : (t : A → A → Bool) (tells : Tells t) (x y : A) (xs : List A) → Absent x xs → Absent y (map (swap t x y) xs)
  partner_absent t tells x y [] a = tt
  partner_absent t tells x y (w ∷ xs) a = (
    λ e. a.0 (sym (swap_second t tells x y) ∙ ap (swap t x y) e ∙ swap_twice t tells x y w),
    partner_absent t tells x y xs a.1,
  )

  swap_distinct : (t : A → A → Bool) (tells : Tells t) (x y : A) (xs : List A) → Distinct xs → Distinct (map (swap t x y) xs)
  swap_distinct t tells x y [] d = tt
  swap_distinct t tells x y (w ∷ xs) d = (absent xs d.0, swap_distinct t tells x y xs d.1)
    where
      absent : (vs : List A) → Absent w vs → Absent (swap t x y w) (map (swap t x y) vs)
      absent [] a = tt
      absent (v ∷ vs) a = (λ e. a.0 (sym (swap_twice t tells x y w) ∙ ap (swap t x y) e ∙ swap_twice t tells x y v), absent vs a.1)

  pub moving_fixes : (t : A → A → Bool) (tells : Tells t) (z : A) (ys xs : List A) → Absent z xs → Absent z ys → (moving t tells xs ys).fun z ≡ z
  unfolding moving
  moving_fixes t tells z [] xs a b = refl
  moving_fixes t tells z (y ∷ ys) [] a b = refl
  moving_fixes t tells z (y ∷ ys) (x ∷ xs) a b =
      ap (moving t tells (map (swap t x y) xs) ys).fun (swap_other t tells x y z a.0 b.0)
      ∙ moving_fixes t tells z ys (map (swap t x y) xs) (swap_absent t tells x y z xs a.0 b.0 a.1) b.1

  pub map_moving_fixes : (t : A → A → Bool) (tells : Tells t) (xs ys zs : List A) → AllAbsent zs xs → AllAbsent zs ys → map (moving t tells xs ys).fun zs ≡ zs
  map_moving_fixes t tells xs ys [] a b = refl
  map_moving_fixes t tells xs ys (z ∷ zs) a b = ap₂ (λ v vs. v ∷ vs) (moving_fixes t tells z ys xs a.0 b.0) (map_moving_fixes t tells xs ys zs a.1 b.1)

  map_map : (f g : A → A) (xs : List A) → map (λ x. g (f x)) xs ≡ map g (map f xs)
  map_map f g [] = refl
  map_map f g (x ∷ xs) = ap (λ ys. g (f x) ∷ ys) (map_map f g xs)

  pub moving_moves : (t : A → A → Bool) (tells : Tells t) (ys xs : List A) → length xs ≡ length ys → Distinct xs → Distinct ys → map (moving t tells xs ys).fun xs ≡ ys
  unfolding moving
  moving_moves t tells [] [] l d e = refl
  moving_moves t tells [] (x ∷ xs) l d e = absurd (omega arith)
  moving_moves t tells (y ∷ ys) [] l d e = absurd (omega arith)
  moving_moves t tells (y ∷ ys) (x ∷ xs) l d e =
      let rest = moving t tells (map (swap t x y) xs) ys in
      ap₂ (λ v vs. v ∷ vs)
      (ap rest.fun (swap_first t tells x y) ∙ moving_fixes t tells y ys (map (swap t x y) xs) (partner_absent t tells x y xs d.0) e.0)
      (map_map (swap t x y) rest.fun xs ∙ moving_moves t tells ys (map (swap t x y) xs) (length_map (swap t x y) xs ∙ (let k : length xs ≡ length ys = omega arith in k)) (swap_distinct t tells x y xs d.1) e.1)
    where
      length_map : (f : A → A) (vs : List A) → length (map f vs) ≡ length vs
      length_map f [] = refl
      length_map f (v ∷ vs) = ap suc (length_map f vs)

  -- a one-to-one map keeps a test that tells equal from different
  pub keeps_test : (t : A → A → Bool) → Tells t → (e : Iso A A) (a b : A) → t (e.fun a) (e.fun b) ≡ t a b
  keeps_test t tells e a b = by (t (e.fun a) (e.fun b)) (t a b) refl refl
    where
      by : (p q : Bool) → t (e.fun a) (e.fun b) ≡ p → t a b ≡ q → p ≡ q
      by true true p q = refl
      by false false p q = refl
      by true false p q =
          let same : a ≡ b = sym (e.linv a) ∙ ap e.inv ((tells (e.fun a) (e.fun b)).0 p) ∙ e.linv b in
          absurd (cc ((tells a b).1 same))
      by false true p q = absurd (cc ((tells (e.fun a) (e.fun b)).1 (ap e.fun ((tells a b).0 q))))
