-- Places in the list of a block, counted from its front, and what is left of a way to its end or to its front.
use mathlib.Core.Path.{◌≡◌, refl, sym, ap, ◌∙◌, subst}
use Rattle.std.proofs.Common.{ℕ, zero, suc, ◌+◌, ◌-◌, ◌≤◌, ◌<◌, ◌≢◌, ◌⊎◌, inl, inr, Bool, true, false, cond, ◌&&◌, Option, Some, None, List, [], ◌∷◌, ◌++◌, length, map, slice_get, arith}
use Rattle.std.specs.Option.{option_map}
use Rattle.std.specs.Prelude.{IfSome}
use Rattle.ir_model.specs.declared.ids.ArenaIndex.{ArenaIndex}
use Rattle.ir_model.specs.ContextIds.{context_ids, same_id}
use Rattle.ir_model.specs.Ids.{Distinct}
use Rattle.ir_model.specs.Forest.{Dialect, Forest, Entity, an_op, a_block}
use Rattle.ir_model.specs.Nesting.{In, IsLive, Nested, children, ops_of}
use Rattle.ir_model.specs.Parent.{Adjacent, ComesAfter, IsNext, IsPrevious, first_of, last_of}
use Rattle.ir_model.proofs.IdCases.{id_same, id_cases, id_differs}
use Rattle.ir_model.proofs.Keeps.{Distinct-unmap}
use Rattle.ir_model.proofs.Nests.{In-map, In-map_back, In-right, not_in-Absent}
use Rattle.ir_run_passes.specs.Going.{IsBeside, rank_of, rank, way_of}

abbrev E : Type 0
E = Entity context_ids

place_here : (o x : ArenaIndex) (xs : List ArenaIndex) → o ≡ x → rank_of o (x ∷ xs) ≡ 1
place_here o x xs e = ap (λ b. cond b 1 (suc (rank_of o xs))) (subst (λ z. same_id x z ≡ true) (sym e) (id_same x))

place_later : (o x : ArenaIndex) (xs : List ArenaIndex) → (o ≡ x → ⊥) → rank_of o (x ∷ xs) ≡ suc (rank_of o xs)
place_later o x xs ne = ap (λ b. cond b 1 (suc (rank_of o xs))) (id_differs x o (λ e. ne (sym e)))

pub place_first : (o : ArenaIndex) (xs : List ArenaIndex) → 1 ≤ rank_of o xs
place_first o [] = omega arith
place_first o (x ∷ xs) = by (same_id x o)
  where
    by : (b : Bool) → 1 ≤ cond b 1 (suc (rank_of o xs))
    by true = omega arith
    by false = omega arith

pub place_within : (o : ArenaIndex) (xs : List ArenaIndex) → In o xs → rank_of o xs ≤ length xs
place_within o [] h = elim h [ ]
place_within o (x ∷ xs) h = by (id_cases o x) h (place_within o xs)
  where
    by : (o ≡ x) ⊎ (o ≡ x → ⊥) → In o (x ∷ xs) → (In o xs → rank_of o xs ≤ length xs) → rank_of o (x ∷ xs) ≤ suc (length xs)
    by (inl e) k more = let p = place_here o x xs e in omega (arith, p)
    by (inr ne) (inl e) more = absurd (ne e)
    by (inr ne) (inr k) more = let p = place_later o x xs ne in let q = more k in omega (arith, p, q)

-- two at one place are one
pub place_one : (o p : ArenaIndex) (xs : List ArenaIndex) → In o xs → In p xs → rank_of o xs ≡ rank_of p xs → o ≡ p
place_one o p [] h k e = elim h [ ]
place_one o p (x ∷ xs) h k e = by (id_cases o x) (id_cases p x) h k (place_one o p xs)
  where
    by : (o ≡ x) ⊎ (o ≡ x → ⊥) → (p ≡ x) ⊎ (p ≡ x → ⊥) → In o (x ∷ xs) → In p (x ∷ xs) → (In o xs → In p xs → rank_of o xs ≡ rank_of p xs → o ≡ p) → o ≡ p
    by (inl a) (inl b) i j more = a ∙ sym b
    by (inl a) (inr b) i j more = let r = place_here o x xs a in let s = place_later p x xs b in let t = place_first p xs in absurd (omega (arith, e, r, s, t))
    by (inr a) (inl b) i j more = let r = place_here p x xs b in let s = place_later o x xs a in let t = place_first o xs in absurd (omega (arith, e, r, s, t))
    by (inr a) (inr b) (inl i) j more = absurd (a i)
    by (inr a) (inr b) (inr i) (inl j) more = absurd (b j)
    by (inr a) (inr b) (inr i) (inr j) more = let r = place_later o x xs a in let s = place_later p x xs b in more i j (omega (arith, e, r, s))

-- of two numbers one is less, or they are one
pub tell : (x y : ℕ) → (x ≡ y) ⊎ ((x < y) ⊎ (y < x))
tell zero zero = inl refl
tell zero (suc y) = inr (inl (omega arith))
tell (suc x) zero = inr (inr (omega arith))
tell (suc x) (suc y) = elim (tell x y) [ inl e ↦ inl (ap suc e) | inr s ↦ elim s [ inl lt ↦ inr (inl (omega (arith, lt))) | inr gt ↦ inr (inr (omega (arith, gt))) ] ]

-- a way from one of the list passes one at least
pub way_first : (to_end : Bool) (o : ArenaIndex) (xs : List ArenaIndex) → In o xs → 1 ≤ way_of to_end o xs
way_first false o xs h = place_first o xs
way_first true o xs h = let p = place_within o xs h in omega (arith, p)

-- two with as many left are one
pub way_one : (to_end : Bool) (o p : ArenaIndex) (xs : List ArenaIndex) → In o xs → In p xs → way_of to_end o xs ≡ way_of to_end p xs → o ≡ p
way_one false o p xs h k e = place_one o p xs h k e
way_one true o p xs h k e = let a = place_within o xs h in let b = place_within p xs k in place_one o p xs h k (omega (arith, a, b, e))

-- what stands at an index has the place after it
place_at : (xs : List ArenaIndex) → Distinct xs → (k : ℕ) (t : ArenaIndex) → slice_get xs k ≡ Some t → (rank_of t xs ≡ suc k) × In t xs
place_at [] d k t e = absurd cc
place_at (x ∷ xs) d zero t e = let s : t ≡ x = cc in (place_here t x xs s, inl s)
place_at (x ∷ xs) d (suc k) t e =
    let more = place_at xs d.1 k t e in
    let ne : t ≡ x → ⊥ = λ s. not_in-Absent x xs d.0 (subst (λ z. In z xs) s more.1) in
    (place_later t x xs ne ∙ ap suc more.0, inr more.1)

in_order : (xs : List ArenaIndex) (before after : List E) (q p : ArenaIndex) → Distinct xs → map an_op xs ≡ before ++ an_op q ∷ an_op p ∷ after → suc (rank_of q xs) ≡ rank_of p xs
in_order [] [] after q p d e = absurd cc
in_order [] (c ∷ before) after q p d e = absurd cc
in_order (x ∷ []) [] after q p d e = absurd cc
in_order (x ∷ y ∷ xs) [] after q p d e =
    let a : ◌≡◌ {A = E} (an_op q) (an_op x) = cc in
    let b : q ≡ x = cc in
    let c : ◌≡◌ {A = E} (an_op p) (an_op y) = cc in
    let f : p ≡ y = cc in
    let ne : p ≡ x → ⊥ = λ s. d.0.0 (sym s ∙ f) in
    let r = place_here q x (y ∷ xs) b in
    let s = place_later p x (y ∷ xs) ne in
    let t = place_here p y xs f in
    omega (arith, r, s, t)
in_order (x ∷ xs) (c ∷ before) after q p d e =
    let rest : map an_op xs ≡ before ++ an_op q ∷ an_op p ∷ after = cc in
    let more = in_order xs before after q p d.1 rest in
    let q_in : In {A = E} (an_op q) (map an_op xs) = subst (λ ys. In {A = E} (an_op q) ys) (sym rest) (In-right (an_op q) before (an_op q ∷ an_op p ∷ after) (inl refl)) in
    let p_in : In {A = E} (an_op p) (map an_op xs) = subst (λ ys. In {A = E} (an_op p) ys) (sym rest) (In-right (an_op p) before (an_op q ∷ an_op p ∷ after) (inr (inl refl))) in
    let q_ne : q ≡ x → ⊥ = λ s. (let at = In-map_back an_op (an_op q) xs q_in in let z : x ≡ at.0 = cc in not_in-Absent x xs d.0 (subst (λ w. In w xs) (sym z) at.1)) in
    let p_ne : p ≡ x → ⊥ = λ s. (let at = In-map_back an_op (an_op p) xs p_in in let z : x ≡ at.0 = cc in not_in-Absent x xs d.0 (subst (λ w. In w xs) (sym z) at.1)) in
    let r = place_later q x xs q_ne in
    let s = place_later p x xs p_ne in
    omega (arith, more, r, s)

abbrev cons_both : ArenaIndex → List ArenaIndex → ArenaIndex → List E
cons_both x xs z = an_op x ∷ an_op z ∷ map an_op xs

-- what isn't the first of a list comes after another
comes_after : (x : ArenaIndex) (xs : List ArenaIndex) (p : ArenaIndex) → In p xs → (q : ArenaIndex) × Adjacent {A = E} (an_op q) (an_op p) (map an_op (x ∷ xs))
comes_after x [] p h = elim h [ ]
comes_after x (y ∷ xs) p (inl e) = (x, ([], map an_op xs, ap (cons_both x xs) (sym e)))
comes_after x (y ∷ xs) p (inr h) = let more = comes_after y xs p h in (more.0, (an_op x ∷ more.1.0, more.1.1, ap (λ (zs : List E). an_op x ∷ zs) more.1.2))

-- what isn't the last of a list comes before another
comes_before : (xs : List ArenaIndex) (p : ArenaIndex) → In p xs → rank_of p xs < length xs → (q : ArenaIndex) × Adjacent {A = E} (an_op p) (an_op q) (map an_op xs)
comes_before [] p h lt = elim h [ ]
comes_before (x ∷ []) p h lt = let q = place_first p (x ∷ []) in absurd (omega (arith, lt, q))
comes_before (x ∷ y ∷ xs) p h lt = by (id_cases p x) h (comes_before (y ∷ xs) p)
  where
    by : (p ≡ x) ⊎ (p ≡ x → ⊥) → In p (x ∷ y ∷ xs) → (In p (y ∷ xs) → rank_of p (y ∷ xs) < length (y ∷ xs) → (q : ArenaIndex) × Adjacent {A = E} (an_op p) (an_op q) (map an_op (y ∷ xs))) → (q : ArenaIndex) × Adjacent {A = E} (an_op p) (an_op q) (map an_op (x ∷ y ∷ xs))
    by (inl e) k more = (y, ([], map an_op xs, ap (λ (z : ArenaIndex). an_op z ∷ an_op y ∷ map an_op xs) (sym e)))
    by (inr ne) (inl e) more = absurd (ne e)
    by (inr ne) (inr k) more = let s = place_later p x (y ∷ xs) ne in let t = more k (omega (arith, s, lt)) in (t.0, (an_op x ∷ t.1.0, t.1.1, ap (λ (zs : List E). an_op x ∷ zs) t.1.2))

module _ {W : Dialect} (f : Forest context_ids W) (b : ArenaIndex) (n : Nested f) where
  pub once : Distinct (ops_of f b)
  once = Distinct-unmap an_op (ops_of f b) (n.once (a_block b))

  -- what stands in the list is live
  pub listed_live : (p : ArenaIndex) → In p (ops_of f b) → IsLive f (an_op p)
  listed_live p h = n.live (an_op p) (a_block b) (In-map an_op p (ops_of f b) h)

  -- and what has the block as parent stands in it
  pub parent_listed : (p : ArenaIndex) → In {A = E} (an_op p) (children f (a_block b)) → In p (ops_of f b)
  parent_listed p h = let at = In-map_back an_op (an_op p) (ops_of f b) h in let e : p ≡ at.0 = cc in subst (λ q. In q (ops_of f b)) (sym e) at.1

  -- whether the last of a list or none, all stand at its place or before it
  pub rank_last : (o : ArenaIndex) → In o (ops_of f b) → way_of false o (ops_of f b) ≤ rank false (last_of (ops_of f b)) (ops_of f b)
  rank_last o h = by (last_of (ops_of f b)) refl
    where
      some : 1 ≤ length (ops_of f b)
      some = let p = place_within o (ops_of f b) h in let q = place_first o (ops_of f b) in omega (arith, p, q)

      there : (xs : List ArenaIndex) (k : ℕ) → k < length xs → slice_get xs k ≡ None → ⊥
      there [] k lt e = absurd (omega (arith, lt))
      there (x ∷ xs) zero lt e = absurd cc
      there (x ∷ xs) (suc k) lt e = there xs k (omega (arith, lt)) e

      by : (m : Option ArenaIndex) → last_of (ops_of f b) ≡ m → way_of false o (ops_of f b) ≤ rank false m (ops_of f b)
      by None e = absurd (there (ops_of f b) (length (ops_of f b) - 1) (omega (arith, some)) e)
      by (Some t) e =
          let at = place_at (ops_of f b) once (length (ops_of f b) - 1) t e in
          let p = place_within o (ops_of f b) h in
          omega (arith, at.0, p, some)

  pub last_listed : (t : ArenaIndex) → last_of (ops_of f b) ≡ Some t → In t (ops_of f b)
  last_listed t e = (place_at (ops_of f b) once (length (ops_of f b) - 1) t e).1

  -- and all stand at the place of the first or behind it
  pub rank_first : (o : ArenaIndex) → In o (ops_of f b) → way_of true o (ops_of f b) ≤ rank true (first_of (ops_of f b)) (ops_of f b)
  rank_first o h = by (first_of (ops_of f b)) refl
    where
      there : (xs : List ArenaIndex) → In o xs → slice_get xs 0 ≡ None → ⊥
      there [] k e = elim k [ ]
      there (x ∷ xs) k e = absurd cc

      by : (m : Option ArenaIndex) → first_of (ops_of f b) ≡ m → way_of true o (ops_of f b) ≤ rank true m (ops_of f b)
      by None e = absurd (there (ops_of f b) h e)
      by (Some t) e =
          let at = place_at (ops_of f b) once 0 t e in
          let p = place_first o (ops_of f b) in
          omega (arith, at.0, p)

  pub first_listed : (t : ArenaIndex) → first_of (ops_of f b) ≡ Some t → In t (ops_of f b)
  first_listed t e = (place_at (ops_of f b) once 0 t e).1

  module _ (p : ArenaIndex) (h : In p (ops_of f b)) where
    in_block : In {A = E} (an_op p) (children f (a_block b))
    in_block = In-map an_op p (ops_of f b) h

    after_here : (y z : E) → ComesAfter f y (an_op p) → Adjacent y (an_op p) (children f (a_block b))
    after_here y z c = (c.1.0, c.1.1, ap (children f) (n.one_list (an_op p) (a_block b) c.0 in_block (subst (λ ys. In (an_op p) ys) (sym c.1.2) (In-right (an_op p) c.1.0 (y ∷ an_op p ∷ c.1.1) (inr (inl refl))))) ∙ c.1.2)

    -- what comes before one of the list is of the list
    pub previous_listed : (q : ArenaIndex) → ComesAfter f (an_op q) (an_op p) → In q (ops_of f b)
    previous_listed q c = let a = after_here (an_op q) (an_op q) c in parent_listed q (subst (λ ys. In {A = E} (an_op q) ys) (sym a.2) (In-right (an_op q) a.0 (an_op q ∷ an_op p ∷ a.1) (inl refl)))

    pub previous_place : (q : ArenaIndex) → ComesAfter f (an_op q) (an_op p) → suc (rank_of q (ops_of f b)) ≡ rank_of p (ops_of f b)
    previous_place q c = let a = after_here (an_op q) (an_op q) c in in_order (ops_of f b) a.0 a.1 q p once a.2

    -- the place before
    pub rank_previous : (m : Option ArenaIndex) → IsPrevious f (an_op p) (option_map an_op m) → suc (rank false m (ops_of f b)) ≡ way_of false p (ops_of f b)
    rank_previous (Some q) c = previous_place q c
    rank_previous None c = by (ops_of f b) refl h
      where
        by : (xs : List ArenaIndex) → ops_of f b ≡ xs → In p xs → 1 ≡ rank_of p (ops_of f b)
        by [] e k = elim k [ ]
        by (x ∷ xs) e (inl s) = sym (ap (rank_of p) e ∙ place_here p x xs s)
        by (x ∷ xs) e (inr k) =
            let at = comes_after x xs p k in
            absurd (c (an_op at.0) (a_block b, (at.1.0, at.1.1, ap (map an_op) e ∙ at.1.2)))

    before_here : (y : E) → ComesAfter f (an_op p) y → Adjacent (an_op p) y (children f (a_block b))
    before_here y c = (c.1.0, c.1.1, ap (children f) (n.one_list (an_op p) (a_block b) c.0 in_block (subst (λ ys. In (an_op p) ys) (sym c.1.2) (In-right (an_op p) c.1.0 (an_op p ∷ y ∷ c.1.1) (inl refl)))) ∙ c.1.2)

    -- what comes after one of the list is of the list
    pub next_listed : (q : ArenaIndex) → ComesAfter f (an_op p) (an_op q) → In q (ops_of f b)
    next_listed q c = let a = before_here (an_op q) c in parent_listed q (subst (λ ys. In {A = E} (an_op q) ys) (sym a.2) (In-right (an_op q) a.0 (an_op p ∷ an_op q ∷ a.1) (inr (inl refl))))

    pub next_place : (q : ArenaIndex) → ComesAfter f (an_op p) (an_op q) → suc (rank_of p (ops_of f b)) ≡ rank_of q (ops_of f b)
    next_place q c = let a = before_here (an_op q) c in in_order (ops_of f b) a.0 a.1 p q once a.2

    -- the place after
    pub rank_next : (m : Option ArenaIndex) → IsNext f (an_op p) (option_map an_op m) → suc (rank true m (ops_of f b)) ≡ way_of true p (ops_of f b)
    rank_next (Some q) c = let e = next_place q c in let t = place_within q (ops_of f b) (next_listed q c) in omega (arith, e, t)
    rank_next None c = elim (tell (rank_of p (ops_of f b)) (length (ops_of f b))) [
      | inl e ↦ omega (arith, e)
      | inr s ↦ elim s [
        | inl lt ↦ absurd (let at = comes_before (ops_of f b) p h lt in c (an_op at.0) (a_block b, at.1))
        | inr gt ↦ absurd (let t = place_within p (ops_of f b) h in omega (arith, gt, t))
      ]
    ]

  -- what comes before an operation is another one
  pub previous_other : (p : ArenaIndex) → In p (ops_of f b) → (q : ArenaIndex) → ComesAfter f (an_op q) (an_op p) → q ≢ p
  previous_other p h q c e = let s = previous_place p h q c in let t : rank_of q (ops_of f b) ≡ rank_of p (ops_of f b) = ap (λ x. rank_of x (ops_of f b)) e in absurd (omega (arith, s, t))

  -- what comes after an operation is another one
  pub next_other : (p : ArenaIndex) → In p (ops_of f b) → (q : ArenaIndex) → ComesAfter f (an_op p) (an_op q) → q ≢ p
  next_other p h q c e = let s = next_place p h q c in let t : rank_of q (ops_of f b) ≡ rank_of p (ops_of f b) = ap (λ x. rank_of x (ops_of f b)) e in absurd (omega (arith, s, t))

  -- the answer of a call for what stands beside an operation on a way: it stands in the list too, is another one, and has one less left
  module _ (p : ArenaIndex) (h : In p (ops_of f b)) {P : Type 0} (index : P → ArenaIndex) where
    pub beside_listed : (to_end : Bool) (m : Option P) → IsBeside f to_end p (option_map (λ x. an_op (index x)) m) → IfSome m (λ x. In (index x) (ops_of f b))
    beside_listed to_end None c = tt
    beside_listed false (Some x) c = previous_listed p h (index x) c
    beside_listed true (Some x) c = next_listed p h (index x) c

    pub beside_other : (to_end : Bool) (m : Option P) → IsBeside f to_end p (option_map (λ x. an_op (index x)) m) → IfSome m (λ x. index x ≢ p)
    beside_other to_end None c = tt
    beside_other false (Some x) c = previous_other p h (index x) c
    beside_other true (Some x) c = next_other p h (index x) c

    pub rank_beside : (to_end : Bool) (m : Option P) → IsBeside f to_end p (option_map (λ x. an_op (index x)) m) → suc (rank to_end (option_map index m) (ops_of f b)) ≡ way_of to_end p (ops_of f b)
    rank_beside false None c = rank_previous p h None c
    rank_beside false (Some x) c = rank_previous p h (Some (index x)) c
    rank_beside true None c = rank_next p h None c
    rank_beside true (Some x) c = rank_next p h (Some (index x)) c

-- the operation stands in the block that is its parent
pub parent_in : {W : Dialect} (f : Forest context_ids W) (o parent b : ArenaIndex) → parent ≡ b → In {A = E} (an_op o) (children f (a_block parent)) → In o (ops_of f b)
parent_in f o parent b e h =
    let k : In {A = E} (an_op o) (map an_op (ops_of f b)) = subst (λ c. In {A = E} (an_op o) (children f (a_block c))) e h in
    let at = In-map_back an_op (an_op o) (ops_of f b) k in
    let s : o ≡ at.0 = cc in
    subst (λ q. In q (ops_of f b)) (sym s) at.1

pub both_true : (a : Bool) → (a && true) ≡ true → a ≡ true
both_true true e = refl
both_true false e = e

pub not_both : false ≡ true → ⊥
not_both e = cc

-- from what a call answers for what stands beside an operation, fewer are left
pub rank_smaller : {W : Dialect} (f : Forest context_ids W) (b : ArenaIndex) (n : Nested f) (p : ArenaIndex) (h : In p (ops_of f b)) {P : Type 0} (index : P → ArenaIndex)
    (to_end : Bool) (here : Option P) (x : P) → here ≡ Some x → (m : Option P) → IsBeside f to_end p (option_map (λ y. an_op (index y)) m) → index x ≡ p
    → rank to_end (option_map index m) (ops_of f b) < rank to_end (option_map index here) (ops_of f b)
rank_smaller f b n p h index to_end here x is m beside same =
    let e = rank_beside f b n p h index to_end m beside in
    let t : rank to_end (option_map index here) (ops_of f b) ≡ way_of to_end p (ops_of f b) = ap (λ k. rank to_end (option_map index k) (ops_of f b)) is ∙ ap (λ i. way_of to_end i (ops_of f b)) same in
    omega (arith, e, t)
