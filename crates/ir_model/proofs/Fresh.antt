-- What an edit makes stands nowhere before it.
use mathlib.Core.Path.{◌≡◌, refl, sym, ap, ◌∙◌, subst}
use Rattle.std.proofs.Common.{ℕ, zero, suc, inl, inr, Option, Some, None, List, [], ◌∷◌, map, length, take, drop, arith}
use Rattle.std.specs.List.{zip, cons_option}
use Rattle.std.specs.Prelude.{slice_get}
use Rattle.ir_model.specs.Ids.{Ids, Fresh, Distinct, FreshDistinct}
use Rattle.ir_model.specs.Forest.{Dialect, Definer, Forest}
use Rattle.ir_model.specs.Nesting.{In, numbers_of, use_numbers_of}
use Rattle.ir_model.specs.Edits.{The, Each, these}
use Rattle.ir_model.proofs.Nests.{Absent-not_in, not_in-Absent}
use Rattle.ir_model.proofs.Back.{slice_get-in}

module _ {N : Ids} {W : Dialect} where
  -- no two are equal, none is live, and no record has one
  pub record NotIn (f : Forest N W) (new : Fresh N) : Type 0 where
    pub distinct : FreshDistinct N new
    pub ops : (o : N.Op) → In o new.ops → f.ops o ≡ None
    pub blocks : (b : N.Block) → In b new.blocks → f.blocks b ≡ None
    pub regions : (r : N.Region) → In r new.regions → f.regions r ≡ None
    pub numbers : (d : Definer N) (n : N.ValueNumber) → In n new.numbers → In n (numbers_of f d) → ⊥
    pub uses : (o : N.Op) (u : N.UseNumber) → In u new.uses → In u (use_numbers_of f o) → ⊥

module _ {A : Type 0} where
  pub only : (xs : List A) (x : A) → length xs ≡ 1 → slice_get xs 0 ≡ Some x → xs ≡ x ∷ []
  only [] x l e = absurd cc
  only (y ∷ []) x l e = (let f : Some y ≡ Some x = e in let g : y ≡ x = cc in ap (λ z. z ∷ []) g)
  only (y ∷ z ∷ xs) x l e = absurd (omega arith)

  pub no_more : (xs : List A) → length xs ≡ 0 → xs ≡ []
  no_more [] l = refl
  no_more (x ∷ xs) l = absurd (omega arith)

  pub take-in : (n : ℕ) (xs : List A) (x : A) → In x (take n xs) → In x xs
  take-in zero xs x h = elim h [ ]
  take-in (suc n) [] x h = elim h [ ]
  take-in (suc n) (y ∷ xs) x (inl e) = inl e
  take-in (suc n) (y ∷ xs) x (inr h) = inr (take-in n xs x h)

  pub drop-in : (n : ℕ) (xs : List A) (x : A) → In x (drop n xs) → In x xs
  drop-in zero xs x h = h
  drop-in (suc n) [] x h = elim h [ ]
  drop-in (suc n) (y ∷ xs) x h = inr (drop-in n xs x h)

  pub take-distinct : (n : ℕ) (xs : List A) → Distinct xs → Distinct (take n xs)
  take-distinct zero xs d = tt
  take-distinct (suc n) [] d = tt
  take-distinct (suc n) (y ∷ xs) d = (Absent-not_in y (take n xs) (λ h. not_in-Absent y xs d.0 (take-in n xs y h)), take-distinct n xs d.1)

  pub drop-distinct : (n : ℕ) (xs : List A) → Distinct xs → Distinct (drop n xs)
  drop-distinct zero xs d = d
  drop-distinct (suc n) [] d = tt
  drop-distinct (suc n) (y ∷ xs) d = drop-distinct n xs d.1

  pub take-drop-apart : (n : ℕ) (xs : List A) → Distinct xs → (x : A) → In x (take n xs) → In x (drop n xs) → ⊥
  take-drop-apart zero xs d x h k = elim h [ ]
  take-drop-apart (suc n) [] d x h k = elim h [ ]
  take-drop-apart (suc n) (y ∷ xs) d x (inl e) k = not_in-Absent y xs d.0 (subst (λ z. In z xs) e (drop-in n xs x k))
  take-drop-apart (suc n) (y ∷ xs) d x (inr h) k = take-drop-apart n xs d.1 x h k

  -- what was looked up is in the table, and is as each was said to be
  pub these-in : (table : List A) (ns : List ℕ) (x : A) → In x (these table ns) → In x table
  these-in table [] x h = elim h [ ]
  these-in table (n ∷ ns) x h = by (these-in table ns x) (slice_get table n) refl h
    where
      by : (In x (these table ns) → In x table) → (m : Option A) → slice_get table n ≡ m → In x (cons_option m (these table ns)) → In x table
      by more None e k = more k
      by more (Some y) e (inl s) = slice_get-in table n x (e ∙ ap Some (sym s))
      by more (Some y) e (inr k) = more k

  pub these-each : (P : A → Type 0) (table : List A) (ns : List ℕ) (x : A) → Each (λ n. The (slice_get table n) P) ns → In x (these table ns) → P x
  these-each P table [] x c h = elim h [ ]
  these-each P table (n ∷ ns) x c h = by (these-each P table ns x c.1) (slice_get table n) refl h
    where
      by : (In x (these table ns) → P x) → (m : Option A) → slice_get table n ≡ m → In x (cons_option m (these table ns)) → P x
      by more None e k = more k
      by more (Some y) e (inl s) = (let f : Some c.0.value ≡ Some y = sym c.0.found ∙ e in let g : c.0.value ≡ x = (let g' : c.0.value ≡ y = cc in g' ∙ sym s) in subst P g c.0.holds)
      by more (Some y) e (inr k) = more k

-- what was made of two lists, side by side
module _ {A B C : Type 0} (make : A × B → C) where
  pub zip-firsts : (first : C → A) → ((p : A × B) → first (make p) ≡ p.0) → (xs : List A) (ys : List B) (x : A) → In x (map first (map make (zip xs ys))) → In x xs
  zip-firsts first is [] ys x h = elim h [ ]
  zip-firsts first is (y ∷ xs) [] x h = elim h [ ]
  zip-firsts first is (y ∷ xs) (z ∷ ys) x (inl e) = inl (e ∙ is (y, z))
  zip-firsts first is (y ∷ xs) (z ∷ ys) x (inr h) = inr (zip-firsts first is xs ys x h)

  pub zip-seconds : {D : Type 0} (g : B → D) (second : C → D) → ((p : A × B) → second (make p) ≡ g p.1) → (xs : List A) (ys : List B) (x : D) → In x (map second (map make (zip xs ys))) → (y : B) × In y ys × (x ≡ g y)
  zip-seconds g second is [] ys x h = elim h [ ]
  zip-seconds g second is (y ∷ xs) [] x h = elim h [ ]
  zip-seconds g second is (y ∷ xs) (z ∷ ys) x (inl e) = (z, inl refl, e ∙ is (y, z))
  zip-seconds g second is (y ∷ xs) (z ∷ ys) x (inr h) = let more = zip-seconds g second is xs ys x h in (more.0, inr more.1, more.2)

  pub zip-distinct : (first : C → A) → ((p : A × B) → first (make p) ≡ p.0) → (xs : List A) (ys : List B) → Distinct xs → Distinct (map first (map make (zip xs ys)))
  zip-distinct first is [] ys d = tt
  zip-distinct first is (y ∷ xs) [] d = tt
  zip-distinct first is (y ∷ xs) (z ∷ ys) d = (
    Absent-not_in _ _ (λ h. not_in-Absent y xs d.0 (subst (λ k. In k xs) (is (y, z)) (zip-firsts first is xs ys _ h))),
    zip-distinct first is xs ys d.1,
  )
