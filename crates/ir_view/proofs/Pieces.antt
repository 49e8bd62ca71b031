-- Listings of entities with all inside them: what they hold, each once, and where the listing of each stands in that of another.
use Rattle.std.proofs.Common.{◌≡◌, ◌⊎◌, inl, inr, List, [], ◌∷◌, ◌++◌, refl, sym, ap, ◌∙◌, subst}
use Rattle.std.proofs.lemmas.List.{append_assoc, append-nil}
use Rattle.ir_model.specs.Ids.{Distinct}
use Rattle.ir_model.specs.Nesting.{In, Within, itself, below}
use Rattle.ir_model.proofs.Nests.{In-append, In-left, In-right, Distinct-append, not_in-Absent, Within-trans}
use Rattle.ir_view.proofs.Splits.{split}
use Rattle.ir_view.specs.Orders.{IsOrder, no_more, one_more}

module _ {E : Type 0} (ahead behind lists : E → List E) where
  -- a listing of two lists is one of each, joined
  pub parts : (us vs zs : List E) → IsOrder ahead behind lists (us ++ vs) zs → (xs : List E) × (ys : List E) × IsOrder ahead behind lists us xs × IsOrder ahead behind lists vs ys × (zs ≡ xs ++ ys)
  parts [] vs zs h = ([], zs, no_more, h, refl)
  parts (u ∷ us) vs _ (one_more {xs = xs} {ys = ys} inner rest) =
      let m = parts us vs ys rest in
      ((ahead u ++ (xs ++ behind u)) ++ m.0, m.1, one_more inner m.2, m.3, ap (λ w. (ahead u ++ (xs ++ behind u)) ++ w) m.4 ∙ sym (append_assoc (ahead u ++ (xs ++ behind u)) m.0 m.1))

  -- a listing of one is what it puts ahead, that of what stands in it, and what it puts behind
  pub opened : (e : E) (zs : List E) → IsOrder ahead behind lists (e ∷ []) zs → (xs : List E) × IsOrder ahead behind lists (lists e) xs × (zs ≡ ahead e ++ (xs ++ behind e))
  opened e _ (one_more {xs = xs} inner no_more) = (xs, inner, append-nil (ahead e ++ (xs ++ behind e)))

  pub closed : (e : E) (xs : List E) → IsOrder ahead behind lists (lists e) xs → IsOrder ahead behind lists (e ∷ []) (ahead e ++ (xs ++ behind e))
  closed e xs h = subst (IsOrder ahead behind lists (e ∷ [])) (append-nil (ahead e ++ (xs ++ behind e))) (one_more h no_more)

  -- these have one listing
  pub one-listing : (es xs ys : List E) → IsOrder ahead behind lists es xs → IsOrder ahead behind lists es ys → xs ≡ ys
  one-listing [] _ _ no_more no_more = refl
  one-listing (e ∷ es) _ _ (one_more {xs = xs} {ys = ys} inner rest) (one_more {xs = us} {ys = vs} within others) =
      ap (λ w. (ahead e ++ (w ++ behind e)) ++ ys) (one-listing (lists e) xs us inner within) ∙ ap (λ w. (ahead e ++ (us ++ behind e)) ++ w) (one-listing es ys vs rest others)

  -- the listing of x stands in the list as one piece
  pub record Stands (whole : List E) (x : E) : Type 0 where
    pub front : List E
    pub inner : List E
    pub back : List E
    pub listed : IsOrder ahead behind lists (lists x) inner
    pub is : whole ≡ front ++ ((ahead x ++ (inner ++ behind x)) ++ back)

  -- it stands in itself, with nothing behind
  pub stands-self : (e : E) (zs : List E) → IsOrder ahead behind lists (e ∷ []) zs → (s : Stands zs e) × (s.back ≡ [])
  stands-self e zs h =
      let m = opened e zs h in
      (record { front = []; inner = m.0; back = []; listed = m.1; is = m.2 ∙ sym (append-nil (ahead e ++ (m.0 ++ behind e))) }, refl)

  -- with that of an entity stand those of its children, with those of its later children behind
  pub record Child (whole : List E) (p x : E) (later : List E) (back : List E) : Type 0 where
    pub stands : Stands whole x
    pub others : List E
    pub listed : IsOrder ahead behind lists later others
    pub behind_it : stands.back ≡ others ++ (behind p ++ back)

  pub stands-down : (whole : List E) (p x : E) (us vs : List E) → lists p ≡ us ++ x ∷ vs → (s : Stands whole p) → Child whole p x vs s.back
  stands-down whole p x us vs is s =
      let m = parts us (x ∷ vs) s.inner (subst (λ es. IsOrder ahead behind lists es s.inner) is s.listed) in
      let n = parts (x ∷ []) vs m.1 m.3 in
      let o = opened x n.0 n.2 in
      let mine = ahead x ++ (o.0 ++ behind x) in
      let inner : s.inner ≡ m.0 ++ (mine ++ n.1) = m.4 ∙ ap (λ w. m.0 ++ w) (n.4 ∙ ap (λ w. w ++ n.1) o.2) in
      record {
        stands = record {
          front = s.front ++ (ahead p ++ m.0);
          inner = o.0;
          back = n.1 ++ (behind p ++ s.back);
          listed = o.1;
          is = s.is ∙ ap (λ w. s.front ++ ((ahead p ++ (w ++ behind p)) ++ s.back)) inner ∙ moved s.front (ahead p) m.0 mine n.1 (behind p) s.back;
        };
        others = n.1;
        listed = n.3;
        behind_it = refl;
      }
    where
      moved : (a b c d e f g : List E) → a ++ ((b ++ ((c ++ (d ++ e)) ++ f)) ++ g) ≡ (a ++ (b ++ c)) ++ (d ++ (e ++ (f ++ g)))
      moved a b c d e f g =
          ap (λ w. a ++ w) (append_assoc b ((c ++ (d ++ e)) ++ f) g ∙ ap (λ w. b ++ w) (append_assoc (c ++ (d ++ e)) f g ∙ append_assoc c (d ++ e) (f ++ g) ∙ ap (λ w. c ++ w) (append_assoc d e (f ++ g))) ∙ sym (append_assoc b c (d ++ (e ++ (f ++ g)))))
          ∙ sym (append_assoc a (b ++ c) (d ++ (e ++ (f ++ g))))

  -- that of each entity inside
  pub stands : (e : E) (zs : List E) → IsOrder ahead behind lists (e ∷ []) zs → (x : E) → Within lists e x → Stands zs x
  stands e zs h x itself = (stands-self e zs h).0
  stands e zs h x (below {c = c} i w) =
      let m = split x (lists c) i in
      (stands-down zs c x m.0 m.1 m.2 (stands e zs h c w)).stands

  module _ (own : (e : E) → ahead e ++ behind e ≡ e ∷ []) where
    -- what it puts ahead or behind is the entity alone
    is-own : (e x : E) → In x (ahead e) ⊎ In x (behind e) → x ≡ e
    is-own e x h =
        let i : In x (e ∷ []) = subst (In x) (own e) (elim h [ inl k ↦ In-left x (ahead e) (behind e) k | inr k ↦ In-right x (ahead e) (behind e) k ]) in
        elim i [ inl k ↦ k | inr k ↦ absurd k ]

    -- what is listed is one of these, or inside one
    pub listed-inside : (es zs : List E) → IsOrder ahead behind lists es zs → (x : E) → In x zs → (e : E) × In e es × Within lists e x
    listed-inside [] _ no_more x h = absurd h
    listed-inside (e ∷ es) _ (one_more {xs = xs} {ys = ys} inner rest) x h = elim (In-append x (ahead e ++ (xs ++ behind e)) ys h) [
      | inl i ↦ (e, inl refl, within (λ k. listed-inside (lists e) xs inner x k) i)
      | inr i ↦ let m = listed-inside es ys rest x i in (m.0, inr m.1, m.2)
    ]
      where
        here : In x (ahead e) ⊎ In x (behind e) → Within lists e x
        here k = subst (Within lists e) (sym (is-own e x k)) itself

        within : (In x xs → (c : E) × In c (lists e) × Within lists c x) → In x (ahead e ++ (xs ++ behind e)) → Within lists e x
        within down i = elim (In-append x (ahead e) (xs ++ behind e) i) [
          | inl k ↦ here (inl k)
          | inr k ↦ elim (In-append x xs (behind e) k) [
            | inl j ↦ let m = down j in Within-trans lists lists e m.0 x (below m.1 itself) m.2
            | inr j ↦ here (inr j)
          ]
        ]

    -- what is inside is listed
    pub inside-listed : (e : E) (zs : List E) → IsOrder ahead behind lists (e ∷ []) zs → (x : E) → Within lists e x → In x zs
    inside-listed e zs h x w =
        let s = stands e zs h x w in
        let i : In x (ahead x ++ behind x) = subst (In x) (sym (own x)) (inl refl) in
        subst (In x) (sym s.is) (In-right x s.front _ (In-left x (ahead x ++ (s.inner ++ behind x)) s.back (elim (In-append x (ahead x) (behind x) i) [
          | inl k ↦ In-left x (ahead x) (s.inner ++ behind x) k
          | inr k ↦ In-right x (ahead x) (s.inner ++ behind x) (In-right x s.inner (behind x) k)
        ])))

    module _ (one_list : (x y z : E) → In x (lists y) → In x (lists z) → y ≡ z) (once : (y : E) → Distinct (lists y)) (no_cycle : (x y : E) → In x (lists y) → Within lists x y → ⊥) where
      -- two that have something inside in common are one inside the other
      linear : (a b x : E) → Within lists a x → Within lists b x → Within lists a b ⊎ Within lists b a
      linear a b x itself w = inr w
      linear a b x (below {c = c} h v) itself = inl (below h v)
      linear a b x (below {c = c} h v) (below {c = d} k w) = linear a b c v (subst (Within lists b) (one_list x d c k h) w)

      beside : (e a b : E) → In a (lists e) → In b (lists e) → Within lists a b → a ≡ b
      beside e a b h k itself = refl
      beside e a b h k (below {c = c} i w) = absurd (no_cycle a e h (subst (Within lists a) (one_list b c e i k) w))

      -- nothing is inside two of a list
      abbrev Apart : List E → Type 0
      Apart es = (a b x : E) → In a es → In b es → Within lists a x → Within lists b x → a ≡ b

      children-apart : (e : E) → Apart (lists e)
      children-apart e a b x h k v w = elim (linear a b x v w) [ inl i ↦ beside e a b h k i | inr i ↦ sym (beside e b a k h i) ]

      own-once : (e : E) (vs ws : List E) → vs ++ ws ≡ e ∷ [] → Distinct vs × Distinct ws × ((x : E) → In x vs → In x ws → ⊥)
      own-once e [] ws is = (tt, subst Distinct (sym is) (tt, tt), λ x i k. i)
      own-once e (v ∷ vs) ws is =
          let rest : vs ++ ws ≡ [] = cc in
          by vs ws rest
        where
          by : (vs ws : List E) → vs ++ ws ≡ [] → Distinct (v ∷ vs) × Distinct ws × ((x : E) → In x (v ∷ vs) → In x ws → ⊥)
          by [] [] is = ((tt, tt), tt, λ x i k. k)
          by [] (w ∷ ws) is = absurd cc
          by (u ∷ us) ws is = absurd cc

      -- no entity is listed twice
      pub listed-once : (es zs : List E) → IsOrder ahead behind lists es zs → Distinct es → Apart es → Distinct zs
      listed-once [] _ no_more d apart = tt
      listed-once (e ∷ es) _ (one_more {xs = xs} {ys = ys} inner rest) d apart =
          Distinct-append (ahead e ++ (xs ++ behind e)) ys (mine (listed-once (lists e) xs inner (once e) (children-apart e))) (listed-once es ys rest d.1 (λ a b x i k. apart a b x (inr i) (inr k)))
          (λ x i k. (let m = listed-inside es ys rest x k in
          let same : m.0 ≡ e = apart m.0 e x (inr m.1) (inl refl) m.2 (within x i) in
          not_in-Absent e es d.0 (subst (λ z. In z es) same m.1)))
        where
          within : (x : E) → In x (ahead e ++ (xs ++ behind e)) → Within lists e x
          within x i =
              let m = listed-inside (e ∷ []) _ (closed e xs inner) x i in
              elim m.1 [ inl k ↦ subst (λ z. Within lists z x) k m.2 | inr k ↦ absurd k ]

          not_own : (x : E) → In x xs → In x (ahead e) ⊎ In x (behind e) → ⊥
          not_own x i k = let m = listed-inside (lists e) xs inner x i in no_cycle m.0 e m.1 (subst (Within lists m.0) (is-own e x k) m.2)

          mine : Distinct xs → Distinct (ahead e ++ (xs ++ behind e))
          mine inside =
              let o = own-once e (ahead e) (behind e) (own e) in
              Distinct-append (ahead e) (xs ++ behind e) o.0
              (Distinct-append xs (behind e) inside o.1 (λ x i k. not_own x i (inr k)))
              (λ x i k. elim (In-append x xs (behind e) k) [ inl j ↦ not_own x j (inl i) | inr j ↦ o.2 x i j ])
