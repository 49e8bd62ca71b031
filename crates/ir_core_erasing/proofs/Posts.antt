-- Listings of subtrees, by their one equation: what they hold, and what follows what.
use mathlib.Core.Path.{◌≡◌, refl, sym, ap, ◌∙◌, subst}
use Rattle.std.proofs.Common.{ℕ, zero, suc, ◌⊎◌, inl, inr, List, [], ◌∷◌, ◌++◌}
use Rattle.std.proofs.lemmas.List.{append_assoc, append-nil}
use Rattle.ir_model.specs.Ids.{Distinct}
use Rattle.ir_model.specs.Nesting.{In, Within, itself, below}
use Rattle.ir_model.proofs.Nests.{In-append, In-left, In-right, Distinct-append, not_in-Absent, Within-trans}
use Rattle.ir_core_erasing.specs.Walks.{joined_backward, post, StartsWith, IsBefore, EndsWith}

module _ {E : Type 0} where
  pub joined-append : (g : E → List E) (xs ys : List E) → joined_backward g (xs ++ ys) ≡ joined_backward g ys ++ joined_backward g xs
  joined-append g [] ys = sym (append-nil (joined_backward g ys))
  joined-append g (x ∷ xs) ys = ap (λ zs. zs ++ g x) (joined-append g xs ys) ∙ append_assoc (joined_backward g ys) (joined_backward g xs) (g x)

  pub joined-same : (g h : E → List E) (xs : List E) → ((x : E) → In x xs → g x ≡ h x) → joined_backward g xs ≡ joined_backward h xs
  joined-same g h [] same = refl
  joined-same g h (x ∷ xs) same = ap (λ zs. zs ++ g x) (joined-same g h xs (λ y i. same y (inr i))) ∙ ap (λ zs. joined_backward h xs ++ zs) (same x (inl refl))

  pub joined-in : (g : E → List E) (x : E) (cs : List E) → In x (joined_backward g cs) → (c : E) × In c cs × In x (g c)
  joined-in g x [] h = absurd h
  joined-in g x (c ∷ cs) h = elim (In-append x (joined_backward g cs) (g c) h) [
    | inl i ↦ let m = joined-in g x cs i in (m.0, inr m.1, m.2)
    | inr i ↦ (c, inl refl, i)
  ]

  pub split : (x : E) (xs : List E) → In x xs → (us : List E) × (vs : List E) × (xs ≡ us ++ x ∷ vs)
  split x [] h = absurd h
  split x (y ∷ ys) (inl e) = ([], ys, ap (λ z. z ∷ ys) (sym e))
  split x (y ∷ ys) (inr h) = let m = split x ys h in (y ∷ m.0, m.1, ap (λ zs. y ∷ zs) m.2)

  pub in-middle : (x : E) (us vs : List E) → In x (us ++ x ∷ vs)
  in-middle x us vs = In-right x us (x ∷ vs) (inl refl)

  -- the first list stands in the second as one piece
  pub record Infix (xs ys : List E) : Type 0 where
    pub front : List E
    pub back : List E
    pub is : ys ≡ front ++ (xs ++ back)

  pub infix-self : (xs : List E) → Infix xs xs
  infix-self xs = record { front = []; back = []; is = sym (append-nil xs) }

  pub infix-in : (x : E) (xs ys : List E) → Infix xs ys → In x xs → In x ys
  infix-in x xs ys k h = subst (In x) (sym k.is) (In-right x k.front (xs ++ k.back) (In-left x xs k.back h))

  pub infix-trans : (xs ys zs : List E) → Infix xs ys → Infix ys zs → Infix xs zs
  infix-trans xs ys zs h k = record {
    front = k.front ++ h.front;
    back = h.back ++ k.back;
    is = k.is ∙ ap (λ ws. k.front ++ (ws ++ k.back)) h.is
        ∙ ap (λ ws. k.front ++ ws) (append_assoc h.front (xs ++ h.back) k.back ∙ ap (λ ws. h.front ++ ws) (append_assoc xs h.back k.back))
        ∙ sym (append_assoc k.front h.front (xs ++ (h.back ++ k.back)));
  }

  -- what follows an item in a list without repeats
  pub unique-split : (x : E) (us vs ws zs : List E) → Distinct (us ++ x ∷ vs) → us ++ x ∷ vs ≡ ws ++ x ∷ zs → vs ≡ zs
  unique-split x [] vs [] zs d e = cc
  unique-split x [] vs (w ∷ ws) zs d e =
      let head : x ≡ w = cc in
      let tail : vs ≡ ws ++ x ∷ zs = cc in
      absurd (not_in-Absent x vs d.0 (subst (In x) (sym tail) (in-middle x ws zs)))
  unique-split x (u ∷ us) vs [] zs d e =
      let head : u ≡ x = cc in
      absurd (not_in-Absent u (us ++ x ∷ vs) d.0 (subst (λ z. In z (us ++ x ∷ vs)) (sym head) (in-middle x us vs)))
  unique-split x (u ∷ us) vs (w ∷ ws) zs d e =
      let tail : us ++ x ∷ vs ≡ ws ++ x ∷ zs = cc in
      unique-split x us vs ws zs d.1 tail

  module _ (lists : E → List E) where
    pub post-within : (n : ℕ) (e x : E) → In x (post n lists e) → Within lists e x
    post-within zero e x h = absurd h
    post-within (suc n) e x h = elim (In-append x (joined_backward (post n lists) (lists e)) (e ∷ []) h) [
      | inl i ↦ let m = joined-in (post n lists) x (lists e) i in Within-trans lists lists e m.0 x (below m.1 itself) (post-within n m.0 x m.2)
      | inr (inl k) ↦ subst (Within lists e) (sym k) itself
      | inr (inr k) ↦ absurd k
    ]

    module _ (one_list : (x y z : E) → In x (lists y) → In x (lists z) → y ≡ z) (once : (y : E) → Distinct (lists y)) (no_cycle : (x y : E) → In x (lists y) → Within lists x y → ⊥) where
      -- two that have something inside in common are one inside the other
      linear : (a b x : E) → Within lists a x → Within lists b x → Within lists a b ⊎ Within lists b a
      linear a b x itself w = inr w
      linear a b x (below {c = c} h v) itself = inl (below h v)
      linear a b x (below {c = c} h v) (below {c = d} k w) = linear a b c v (subst (Within lists b) (one_list x d c k h) w)

      apart-in : (e a b : E) → In a (lists e) → In b (lists e) → Within lists a b → a ≡ b
      apart-in e a b h k itself = refl
      apart-in e a b h k (below {c = c} i w) = absurd (no_cycle a e h (subst (Within lists a) (one_list b c e i k) w))

      children-apart : (e a b x : E) → In a (lists e) → In b (lists e) → Within lists a x → Within lists b x → a ≡ b
      children-apart e a b x h k v w = elim (linear a b x v w) [ inl i ↦ apart-in e a b h k i | inr i ↦ sym (apart-in e b a k h i) ]

      joined-once : (n : ℕ) (e : E) (cs : List E) → ((c : E) → In c cs → In c (lists e)) → Distinct cs → ((c : E) → Distinct (post n lists c)) → Distinct (joined_backward (post n lists) cs)
      joined-once n e [] sub d each = tt
      joined-once n e (c ∷ cs) sub d each =
          Distinct-append (joined_backward (post n lists) cs) (post n lists c) (joined-once n e cs (λ z i. sub z (inr i)) d.1 each) (each c)
          (λ x i k. (let m = joined-in (post n lists) x cs i in
          let same : m.0 ≡ c = children-apart e m.0 c x (sub m.0 (inr m.1)) (sub c (inl refl)) (post-within n m.0 x m.2) (post-within n c x k) in
          not_in-Absent c cs d.0 (subst (λ z. In z cs) same m.1)))

      pub post-once : (n : ℕ) (e : E) → Distinct (post n lists e)
      post-once zero e = tt
      post-once (suc n) e =
          Distinct-append (joined_backward (post n lists) (lists e)) (e ∷ []) (joined-once n e (lists e) (λ z i. i) (once e) (post-once n)) (tt, tt)
          (λ x i k. elim k [
            | inl s ↦ (let m = joined-in (post n lists) x (lists e) i in no_cycle m.0 e m.1 (subst (Within lists m.0) s (post-within n m.0 x m.2)))
            | inr s ↦ absurd s
          ])

    -- a listing of each, by its equation
    module _ (t : E → List E) (rolls : (e : E) → t e ≡ joined_backward t (lists e) ++ e ∷ []) where
      pub child-infix : (e c : E) → In c (lists e) → Infix (t c) (t e)
      child-infix e c h =
          let m = split c (lists e) h in record {
            front = joined_backward t m.1;
            back = joined_backward t m.0 ++ e ∷ [];
            is = rolls e ∙ ap (λ zs. zs ++ e ∷ []) (ap (joined_backward t) m.2 ∙ joined-append t m.0 (c ∷ m.1))
                ∙ append_assoc (joined_backward t m.1 ++ t c) (joined_backward t m.0) (e ∷ []) ∙ append_assoc (joined_backward t m.1) (t c) (joined_backward t m.0 ++ e ∷ []);
          }

      pub within-infix : (e x : E) → Within lists e x → Infix (t x) (t e)
      within-infix e x itself = infix-self (t x)
      within-infix e x (below {c = c} h w) = infix-trans (t x) (t c) (t e) (child-infix c x h) (within-infix e c w)

      pub own : (e : E) → In e (t e)
      own e = subst (In e) (sym (rolls e)) (In-right e (joined_backward t (lists e)) (e ∷ []) (inl refl))

      pub listed : (e x : E) → Within lists e x → In x (t e)
      listed e x w = infix-in x (t x) (t e) (within-infix e x w) (own x)

      -- a listing begins as that of the last child does
      pub starts-down : (e c y : E) → EndsWith (lists e) c → StartsWith (t c) y → StartsWith (t e) y
      starts-down e c y last s = (
        s.0 ++ (joined_backward t last.0 ++ e ∷ []),
        rolls e ∙ ap (λ zs. zs ++ e ∷ []) (ap (joined_backward t) last.1 ∙ joined-append t last.0 (c ∷ []) ∙ ap (λ zs. zs ++ joined_backward t last.0) s.1)
            ∙ append_assoc (y ∷ s.0) (joined_backward t last.0) (e ∷ []),
      )

      pub starts-leaf : (e : E) → lists e ≡ [] → StartsWith (t e) e
      starts-leaf e none = ([], rolls e ∙ ap (λ cs. joined_backward t cs ++ e ∷ []) none)

      -- behind the listing of a first child stands its owner
      pub then-owner : (p x : E) (vs : List E) → lists p ≡ x ∷ vs → Infix (x ∷ p ∷ []) (t p)
      then-owner p x vs is = record {
        front = joined_backward t vs ++ joined_backward t (lists x);
        back = [];
        is = rolls p ∙ ap (λ zs. zs ++ p ∷ []) (ap (joined_backward t) is ∙ ap (λ zs. joined_backward t vs ++ zs) (rolls x) ∙ sym (append_assoc (joined_backward t vs) (joined_backward t (lists x)) (x ∷ [])))
            ∙ append_assoc (joined_backward t vs ++ joined_backward t (lists x)) (x ∷ []) (p ∷ []);
      }

      -- behind that of another child begins that of the sibling before it
      pub then-sibling : (p q x y : E) → IsBefore (lists p) q x → StartsWith (t q) y → Infix (x ∷ y ∷ []) (t p)
      then-sibling p q x y m s =
          let us = m.0 in
          let vs = m.1 in
          let is = m.2 in
          let a = joined_backward t vs in
          let b = joined_backward t (lists x) in
          let c = joined_backward t us in
          record {
            front = a ++ b;
            back = s.0 ++ (c ++ p ∷ []);
            is = rolls p ∙ ap (λ zs. zs ++ p ∷ []) (ap (joined_backward t) is ∙ joined-append t us (q ∷ x ∷ vs)
                ∙ ap (λ zs. zs ++ c) (ap (λ zs. (a ++ zs) ++ t q) (rolls x) ∙ ap (λ zs. (a ++ (b ++ x ∷ [])) ++ zs) s.1))
                ∙ append_assoc ((a ++ (b ++ x ∷ [])) ++ y ∷ s.0) c (p ∷ [])
                ∙ append_assoc (a ++ (b ++ x ∷ [])) (y ∷ s.0) (c ++ p ∷ [])
                ∙ ap (λ zs. zs ++ (y ∷ s.0 ++ (c ++ p ∷ []))) (sym (append_assoc a b (x ∷ [])))
                ∙ append_assoc (a ++ b) (x ∷ []) (y ∷ s.0 ++ (c ++ p ∷ []));
          }

      -- what follows x in t p follows it in t e
      pub follows : (e p x y : E) → Within lists e p → Infix (x ∷ y ∷ []) (t p) → Distinct (t e) → (us vs : List E) → t e ≡ us ++ x ∷ vs → (rest : List E) × (vs ≡ y ∷ rest)
      follows e p x y w i d us vs is =
          let k = infix-trans (x ∷ y ∷ []) (t p) (t e) i (within-infix e p w) in
          (k.back, unique-split x us vs k.front (y ∷ k.back) (subst Distinct is d) (sym is ∙ k.is))

      -- the entity itself is the last of its listing
      pub nothing-follows : (e : E) → Distinct (t e) → (us vs : List E) → t e ≡ us ++ e ∷ vs → vs ≡ []
      nothing-follows e d us vs is = unique-split e us vs (joined_backward t (lists e)) [] (subst Distinct is d) (sym is ∙ rolls e)
