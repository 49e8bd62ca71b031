use Rattle.std.proofs.Common.{◌≡◌, List, [], ◌∷◌, ◌++◌, length, Option, Some, None, refl, sym, ap, ◌∙◌, subst, inl, inr, arith, length-append, append-nil}
use Rattle.std.proofs.lemmas.Option.{same_Some}
use Rattle.ir_model.specs.declared.ids.ArenaIndex.{ArenaIndex}
use Rattle.ir_model.specs.Ids.{Distinct}
use Rattle.ir_model.specs.Nesting.{In}
use Rattle.ir_model.proofs.Nests.{In-right, Absent-not_in, not_in-Absent}
use Rattle.ir_model.proofs.IdCases.{id_same, id_differs}
use Rattle.ir_base_arenas.specs.Lists.{Links, linked, Heap, change, with_next, with_prev, head_or, last_from, last_or, IsChain}

-- change
pub change-other : {A : Type 0} (f : A → A) (i : ArenaIndex) (h : Heap A) (j : ArenaIndex) → (i ≡ j → ⊥) → change f (Some i) h j ≡ h j
change-other f i h j ne = rw (id_differs i j ne)

pub change-here : {A : Type 0} (f : A → A) (i : ArenaIndex) (h : Heap A) (a : A) → h i ≡ Some a → change f (Some i) h i ≡ Some (f a)
change-here f i h a e = rw (id_same i, e)

-- ends
pub head_or-append : (d : Option ArenaIndex) (xs ys : List ArenaIndex) → head_or d (xs ++ ys) ≡ head_or (head_or d ys) xs
head_or-append d [] ys = refl
head_or-append d (x ∷ xs) ys = refl

pub head-None : (xs : List ArenaIndex) → None ≡ head_or None xs → xs ≡ []
head-None [] e = refl
head-None (x ∷ xs) e = cc

pub last_of-append : (x : ArenaIndex) (xs : List ArenaIndex) (y : ArenaIndex) (ys : List ArenaIndex) → last_from x (xs ++ y ∷ ys) ≡ last_from y ys
last_of-append x [] y ys = refl
last_of-append x (z ∷ zs) y ys = last_of-append z zs y ys

pub last_or-append : (d : Option ArenaIndex) (xs ys : List ArenaIndex) → last_or d (xs ++ ys) ≡ last_or (last_or d xs) ys
last_or-append d xs [] = rw append-nil
last_or-append d [] (y ∷ ys) = refl
last_or-append d (x ∷ xs) (y ∷ ys) = ap Some (last_of-append x xs y ys)

-- membership
pub last_of-In : (x : ArenaIndex) (xs : List ArenaIndex) → In (last_from x xs) (x ∷ xs)
last_of-In x [] = inl refl
last_of-In x (y ∷ ys) = inr (last_of-In y ys)

pub In-split : (x : ArenaIndex) (xs : List ArenaIndex) → In x xs → (us : List ArenaIndex) × (vs : List ArenaIndex) × (xs ≡ us ++ x ∷ vs)
In-split x [] h = absurd h
In-split x (z ∷ zs) (inl e) = ([], zs, ap (λ y. y ∷ zs) (sym e))
In-split x (z ∷ zs) (inr h) = let r = In-split x zs h in (z ∷ r.0, r.1, ap (λ ys. z ∷ ys) r.2)

-- chains
module _ (h : Heap Links) (c : ArenaIndex) where
  pub chain-split : (p : Option ArenaIndex) (xs ys : List ArenaIndex) (n : Option ArenaIndex) → IsChain h c p (xs ++ ys) n → IsChain h c p xs (head_or n ys) × IsChain h c (last_or p xs) ys n
  chain-split p [] ys n k = (tt, k)
  chain-split p (x ∷ []) ys n k = ((k.0, tt), k.1)
  chain-split p (x ∷ (z ∷ zs)) ys n k = let r = chain-split (Some x) (z ∷ zs) ys n k.1 in ((k.0, r.0), r.1)

  pub chain-join : (p : Option ArenaIndex) (xs ys : List ArenaIndex) (n : Option ArenaIndex) → IsChain h c p xs (head_or n ys) → IsChain h c (last_or p xs) ys n → IsChain h c p (xs ++ ys) n
  chain-join p [] ys n k l = l
  chain-join p (x ∷ []) ys n k l = (k.0, l)
  chain-join p (x ∷ (z ∷ zs)) ys n k l = (k.0, chain-join (Some x) (z ∷ zs) ys n k.1 l)

  pub chain-at : (p : Option ArenaIndex) (xs : List ArenaIndex) (n : Option ArenaIndex) (y : ArenaIndex) → IsChain h c p xs n → In y xs → (l : Links) × (h y ≡ Some l) × (l.container ≡ Some c)
  chain-at p [] n y k i = absurd i
  chain-at p (x ∷ xs) n y k (inl e) = (linked p (head_or n xs) c, rw e k.0, refl)
  chain-at p (x ∷ xs) n y k (inr i) = chain-at (Some x) xs n y k.1 i

-- the links from a node on determine the rest of its chain
pub chain-unique : (h : Heap Links) (c d : ArenaIndex) (p q : Option ArenaIndex) (xs ys : List ArenaIndex) → IsChain h c p xs None → IsChain h d q ys None → head_or None xs ≡ head_or None ys → xs ≡ ys
chain-unique h c d p q [] [] k l e = refl
chain-unique h c d p q [] (y ∷ ys) k l e = cc
chain-unique h c d p q (x ∷ xs) [] k l e = cc
chain-unique h c d p q (x ∷ xs) (y ∷ ys) k l e =
    let same : x ≡ y = cc in
    let links : linked p (head_or None xs) c ≡ linked q (head_or None ys) d = same_Some _ _ (sym k.0 ∙ ap h same ∙ l.0) in
    let nexts : head_or None xs ≡ head_or None ys = ap (λ (l : Links). l.next) links in
    let rest : xs ≡ ys = chain-unique h c d (Some x) (Some y) xs ys k.1 l.1 nexts in
    cc

pub chain-apart : (h : Heap Links) (c : ArenaIndex) (p : Option ArenaIndex) (xs : List ArenaIndex) → IsChain h c p xs None → Distinct xs
chain-apart h c p [] k = tt
chain-apart h c p (x ∷ xs) k = (
  Absent-not_in x xs (λ i.
      let s = In-split x xs i in
      let whole : IsChain h c p (x ∷ xs) None = k in
      let tail = chain-split h c (Some x) s.0 (x ∷ s.1) None (rw s.2 at k.1) in
      let e : x ∷ xs ≡ x ∷ s.1 = chain-unique h c c p (last_or (Some x) s.0) (x ∷ xs) (x ∷ s.1) k tail.1 refl in
      let l = ap length (e ∙ refl) in
      let m = ap length s.2 in
      omega (arith, length-append s.0 (x ∷ s.1), l, m)),
  chain-apart h c (Some x) xs k.1,
)

pub apart-both : (x : ArenaIndex) (xs ys : List ArenaIndex) → Distinct (xs ++ ys) → In x xs → In x ys → ⊥
apart-both x [] ys a i j = i
apart-both x (z ∷ zs) ys a (inl e) j = not_in-Absent z (zs ++ ys) a.0 (In-right z zs ys (rw e at j))
apart-both x (z ∷ zs) ys a (inr i) j = apart-both x zs ys a.1 i j

-- a change elsewhere leaves a chain
pub chain-same : (h h' : Heap Links) (c : ArenaIndex) (p : Option ArenaIndex) (xs : List ArenaIndex) (n : Option ArenaIndex) → ((y : ArenaIndex) → In y xs → h' y ≡ h y) → IsChain h c p xs n → IsChain h' c p xs n
chain-same h h' c p [] n s k = tt
chain-same h h' c p (x ∷ xs) n s k = (s x (inl refl) ∙ k.0, chain-same h h' c (Some x) xs n (λ y i. s y (inr i)) k.1)

pub chain-set_prev : (h : Heap Links) (c : ArenaIndex) (p q : Option ArenaIndex) (xs : List ArenaIndex) (n : Option ArenaIndex) → Distinct xs → IsChain h c p xs n → IsChain (change (with_prev q) (head_or None xs) h) c q xs n
chain-set_prev h c p q [] n a k = tt
chain-set_prev h c p q (x ∷ xs) n a k = (
  change-here (with_prev q) x h (linked p (head_or n xs) c) k.0,
  chain-same h (change (with_prev q) (Some x) h) c (Some x) xs n (λ y i. change-other (with_prev q) x h y (λ e. not_in-Absent x xs a.0 (rw (← e) at i))) k.1,
)

pub chain-set_next : (h : Heap Links) (c : ArenaIndex) (p : Option ArenaIndex) (xs : List ArenaIndex) (n m : Option ArenaIndex) → Distinct xs → IsChain h c p xs n → IsChain (change (with_next m) (last_or None xs) h) c p xs m
chain-set_next h c p [] n m a k = tt
chain-set_next h c p (x ∷ []) n m a k = (change-here (with_next m) x h (linked p n c) k.0, tt)
chain-set_next h c p (x ∷ (y ∷ ys)) n m a k = (
  change-other (with_next m) (last_from y ys) h x (λ e. not_in-Absent x (y ∷ ys) a.0 (subst (λ z. In z (y ∷ ys)) e (last_of-In y ys))) ∙ k.0,
  chain-set_next h c (Some x) (y ∷ ys) n m a.1 k.1,
)
