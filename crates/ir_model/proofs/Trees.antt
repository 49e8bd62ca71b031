-- Changes of one list, and what they leave of a forest without cycles.
use mathlib.Core.Path.{◌≡◌, sym, ◌∙◌, subst}
use Rattle.std.proofs.Common.{ℕ, zero, suc, ◌≢◌, ◌⊎◌, inl, inr, Bool, true, false, List, [], ◌∷◌, ◌++◌, map, cond, IsSome}
use Rattle.std.specs.List.{filter, remove}
use Rattle.ir_model.specs.Ids.{Ids, Distinct}
use Rattle.ir_model.specs.Forest.{Dialect, Entity, Forest}
use Rattle.ir_model.specs.Nesting.{In, children, Inside, IsLive, Nested, regions_of}
use Rattle.ir_model.proofs.Nests.{In-append, Absent-not_in, not_in-Absent, Distinct-append, NoCycle-more, OneList-more, NoCycle-fewer, OneList-fewer, NoCycle-joined, OneList-joined}
use Rattle.ir_model.proofs.Entries.{AddsOne, AddsOne-in, AddsOne-distinct}

-- the first list is the second with some left out
pub data Sub {A : Type 0} : List A → List A → Type 0 where
  end : Sub [] []
  skip : {y : A} {xs ys : List A} → Sub xs ys → Sub xs (y ∷ ys)
  keep : {y : A} {xs ys : List A} → Sub xs ys → Sub (y ∷ xs) (y ∷ ys)

module _ {A : Type 0} where
  pub Sub-all : (xs : List A) → Sub xs xs
  Sub-all [] = end
  Sub-all (x ∷ xs) = keep (Sub-all xs)

  pub Sub-filter : (t : A → Bool) (xs : List A) → Sub (filter t xs) xs
  Sub-filter t [] = end
  Sub-filter t (x ∷ xs) = by (Sub-filter t xs) (t x)
    where
      by : Sub (filter t xs) xs → (b : Bool) → Sub (cond b (x ∷ filter t xs) (filter t xs)) (x ∷ xs)
      by more true = keep more
      by more false = skip more

  pub Sub-map : {B : Type 0} (f : A → B) {xs ys : List A} → Sub xs ys → Sub (map f xs) (map f ys)
  Sub-map f end = end
  Sub-map f (skip h) = skip (Sub-map f h)
  Sub-map f (keep h) = keep (Sub-map f h)

  pub Sub-append : {xs ys zs ws : List A} → Sub xs ys → Sub zs ws → Sub (xs ++ zs) (ys ++ ws)
  Sub-append end s = s
  Sub-append (skip r) s = skip (Sub-append r s)
  Sub-append (keep r) s = keep (Sub-append r s)

  pub Sub-remove : (xs : List A) (at : ℕ) → Sub (remove xs at) xs
  Sub-remove [] zero = end
  Sub-remove [] (suc at) = end
  Sub-remove (x ∷ xs) zero = skip (Sub-all xs)
  Sub-remove (x ∷ xs) (suc at) = keep (Sub-remove xs at)

  pub Sub-in : {xs ys : List A} (x : A) → Sub xs ys → In x xs → In x ys
  Sub-in x end h = h
  Sub-in x (skip s) h = inr (Sub-in x s h)
  Sub-in x (keep s) (inl e) = inl e
  Sub-in x (keep s) (inr h) = inr (Sub-in x s h)

  pub Sub-distinct : {xs ys : List A} → Sub xs ys → Distinct ys → Distinct xs
  Sub-distinct end d = tt
  Sub-distinct (skip s) d = Sub-distinct s d.1
  Sub-distinct (keep {y = y} {xs = xs} {ys = ys} s) d = (Absent-not_in y xs (λ h. not_in-Absent y ys d.0 (Sub-in y s h)), Sub-distinct s d.1)

module _ {N : Ids} {W : Dialect} where
  -- each entity stands in one list at most, once, what stands in one is live, and nothing stands inside itself
  pub record Tree (f : Forest N W) : Type 0 where
    pub one_list : (x y z : Entity N) → In x (children f y) → In x (children f z) → y ≡ z
    pub once : (y : Entity N) → Distinct (children f y)
    pub live : (x y : Entity N) → In x (children f y) → IsLive f x
    pub no_cycle : (x y : Entity N) → In x (children f y) → Inside f x y → ⊥

  pub tree_of : (f : Forest N W) → Nested f → Tree f
  tree_of f n = record { one_list = n.one_list; once = n.once; live = n.live; no_cycle = n.no_cycle }

  pub nested_of : (f : Forest N W) → Tree f → ((r : N.Region) → IsSome (f.regions r) → (o : N.Op) × In r (regions_of f o)) → Nested f
  nested_of f t linked = record { one_list = t.one_list; once = t.once; live = t.live; no_cycle = t.no_cycle; regions_linked = linked }

  module _ (f g : Forest N W) (still : (x : Entity N) → IsLive f x → IsLive g x) (t : Tree f) where
    -- one entity more, in the list of c
    pub Tree-added : (n c : Entity N) → ((y : Entity N) → (children g y ≡ children f y) ⊎ ((y ≡ c) × AddsOne n (children f y) (children g y)))
        → IsLive g n → ((y : Entity N) → In n (children f y) → ⊥) → (Inside f n c → ⊥) → Tree g
    Tree-added n c adds live unlinked apart = record {
      one_list = OneList-more (children f) (children g) n c more unlinked apart t.one_list;
      once = λ y. elim (adds y) [ inl e ↦ rw e (t.once y) | inr a ↦ AddsOne-distinct a.1 (t.once y) (unlinked y) ];
      live = λ x y h. elim (more x y h) [ inl k ↦ still x (t.live x y k) | inr k ↦ subst (IsLive g) (sym k.0) live ];
      no_cycle = NoCycle-more (children f) (children g) n c more unlinked apart t.no_cycle;
    }
      where
        more : (x y : Entity N) → In x (children g y) → In x (children f y) ⊎ ((x ≡ n) × (y ≡ c))
        more x y h = elim (adds y) [
          | inl e ↦ inl (rw e at h)
          | inr a ↦ elim (AddsOne-in x a.1 h) [ inl e ↦ inr (e, a.0) | inr k ↦ inl k ]
        ]

    -- some left out
    pub Tree-fewer : ((y : Entity N) → Sub (children g y) (children f y)) → Tree g
    Tree-fewer fewer = record {
      one_list = OneList-fewer (children f) (children g) (λ x y. Sub-in x (fewer y)) t.one_list;
      once = λ y. Sub-distinct (fewer y) (t.once y);
      live = λ x y h. still x (t.live x y (Sub-in x (fewer y) h));
      no_cycle = NoCycle-fewer (children f) (children g) (λ x y. Sub-in x (fewer y)) t.no_cycle;
    }

    -- the list of y after the donor's was joined to the donee's
    abbrev Joined : Entity N → Entity N → Entity N → Type 0
    Joined donee donor y =
        ((y ≡ donor) × (children g y ≡ []))
        ⊎ ((y ≡ donee) × (children g y ≡ children f y ++ children f donor))
        ⊎ ((y ≡ donor → children f y ≡ []) × (children g y ≡ children f y))

    pub Tree-joined : (donee donor : Entity N) → donee ≢ donor → ((x : Entity N) → In x (children f donor) → Inside f x donee → ⊥) → ((y : Entity N) → Joined donee donor y) → Tree g
    Tree-joined donee donor differ apart joins = record {
      one_list = OneList-joined (children f) (children g) donee donor more differ apart t.one_list;
      once = λ y. elim (joins y) [
        | inl a ↦ rw a.1 tt
        | inr (inl a) ↦ rw a.1 (Distinct-append _ _ (t.once y) (t.once donor) (λ x h k. differ (sym a.0 ∙ t.one_list x y donor h k)))
        | inr (inr a) ↦ rw a.1 (t.once y)
      ];
      live = λ x y h. still x (elim (more x y h) [ inl k ↦ t.live x y k.1 | inr k ↦ t.live x donor k.1 ]);
      no_cycle = NoCycle-joined (children f) (children g) donee donor more differ apart t.no_cycle;
    }
      where
        more : (x y : Entity N) → In x (children g y) → ((y ≢ donor) × In x (children f y)) ⊎ ((y ≡ donee) × In x (children f donor))
        more x y h = elim (joins y) [
          | inl a ↦ absurd (let k : In {A = Entity N} x [] = rw a.1 at h in k)
          | inr (inl a) ↦ elim (In-append x (children f y) (children f donor) (rw a.1 at h)) [
            | inl k ↦ inl (λ e. differ (sym a.0 ∙ e), k)
            | inr k ↦ inr (a.0, k)
          ]
          | inr (inr a) ↦ (let k : In x (children f y) = rw a.1 at h in inl (λ e. (let l : In {A = Entity N} x [] = rw (a.0 e) at k in l), k))
        ]
