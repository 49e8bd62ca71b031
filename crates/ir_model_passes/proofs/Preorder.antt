-- Passes that keep the meaning can be run one after the other.
use mathlib.Core.Path.{◌≡◌, refl, sym, ap, ◌∙◌, subst}
use Rattle.std.proofs.Common.{◌⊎◌, inl, inr, Bool, true, false, cond, Option, Some, None, List, [], ◌∷◌, map, is_some, IsSome}
use Rattle.std.specs.Prelude.{IsTrue}
use Rattle.std.specs.List.{filter}
use Rattle.std.specs.Option.{option_map_or}
use Rattle.ir_model.specs.Ids.{Ids}
use Rattle.ir_model.specs.Forest.{Dialect, Behaviour, Entity, an_op, a_block, a_region, OpRecord, BlockRecord, Forest}
use Rattle.ir_model.specs.Nesting.{In, itself, below, list_of, children, Inside, IsLive, Nested, regions_of}
use Rattle.ir_model.specs.Changes.{on_ops}
use Rattle.ir_model.specs.BlockGraph.{implements, pure_interface}
use Rattle.ir_model.proofs.Nests.{In-map, In-map_back, Within-fewer}
use Rattle.ir_model.proofs.Filters.{In-filter, In-kept}
use Rattle.ir_model_passes.specs.Meaning.{Interpretation, OnlyPureGo, KeepsMeaning, PureHaveNoRegions, EffectsStay}
use Rattle.ir_model_passes.proofs.Going.{none_is_not_some}

-- one test after the other, where what passes the second passes the first, is the second
filter_twice : {A : Type 0} (p q : A → Bool) → ((x : A) → q x ≡ true → p x ≡ true) → (xs : List A) → filter q (filter p xs) ≡ filter q xs
filter_twice p q h [] = refl
filter_twice {A = A} p q h (x ∷ xs) = by (p x) (q x) refl refl (filter_twice p q h xs)
  where
    by : (s t : Bool) → p x ≡ s → q x ≡ t → filter q (filter p xs) ≡ filter q xs → filter q (cond s (x ∷ filter p xs) (filter p xs)) ≡ cond t (x ∷ filter q xs) (filter q xs)
    by true true e k more = ap (λ c. cond c (x ∷ filter q (filter p xs)) (filter q (filter p xs))) k ∙ ap (λ (ys : List A). x ∷ ys) more
    by true false e k more = ap (λ c. cond c (x ∷ filter q (filter p xs)) (filter q (filter p xs))) k ∙ more
    by false true e k more = absurd (let z : true ≡ false = sym (h x k) ∙ e in cc)
    by false false e k more = more

-- all of the list pass a test that is true of them
pub all_pass : {A : Type 0} (p : A → Bool) (xs : List A) → ((x : A) → In x xs → p x ≡ true) → filter p xs ≡ xs
all_pass p [] h = refl
all_pass {A = A} p (x ∷ xs) h = ap (λ t. cond t (x ∷ filter p xs) (filter p xs)) (h x (inl refl)) ∙ ap (λ (ys : List A). x ∷ ys) (all_pass p xs (λ y k. h y (inr k)))

-- what is there, or is not
there_or_not : {A : Type 0} (m : Option A) → (m ≡ None) ⊎ ((x : A) × (m ≡ Some x))
there_or_not None = inl refl
there_or_not (Some x) = inr (x, refl)

pub is_there : {A : Type 0} (m : Option A) → IsSome m → (x : A) × (m ≡ Some x)
is_there None h = absurd (let k : false ≡ true = h in cc)
is_there (Some x) h = (x, refl)

module _ {N : Ids} {W : Dialect} (B : Behaviour W) (f g : Forest N W) (s : OnlyPureGo B f g) where
  -- what is gone stays away
  pub came_from : (o : N.Op) → f.ops o ≡ None → g.ops o ≡ None
  came_from o e = elim (there_or_not (g.ops o)) [
    | inl none ↦ none
    | inr some ↦ (let was = s.ops o some.0 some.1 in absurd (none_is_not_some was.0 (sym e ∙ was.1)))
  ]

  pub pure_was : (o : N.Op) → IsTrue (implements B g pure_interface o) → IsTrue (implements B f pure_interface o)
  pure_was o h = elim (there_or_not (g.ops o)) [
    | inl none ↦ absurd (let k : false ≡ true = sym (ap (λ m. option_map_or (λ (q : OpRecord N W). B.op_impls q.kind pure_interface) m false) none) ∙ h in cc)
    | inr some ↦ (
        let was = s.ops o some.0 some.1 in
        let kinds : some.0.kind ≡ was.0.kind = ap (λ (r : OpRecord N W). r.kind) was.2.rest in
        ap (λ m. option_map_or (λ (q : OpRecord N W). B.op_impls q.kind pure_interface) m false) was.1
        ∙ ap (λ k. B.op_impls k pure_interface) (sym kinds)
        ∙ sym (ap (λ m. option_map_or (λ (q : OpRecord N W). B.op_impls q.kind pure_interface) m false) some.1) ∙ h)
  ]

  pub fewer_children : (x y : Entity N) → In x (children g y) → In x (children f y)
  fewer_children x (an_op o) h = elim (there_or_not (g.ops o)) [
    | inl none ↦ absurd (let k : In {A = Entity N} x [] = subst (λ m. In x (map a_region (list_of (λ (q : OpRecord N W). q.regions) m))) none h in k)
    | inr some ↦ (
        let was = s.ops o some.0 some.1 in
        let same : some.0.regions ≡ was.0.regions = ap (λ (r : OpRecord N W). r.regions) was.2.rest in
        let k : In {A = Entity N} x (map a_region some.0.regions) = subst (λ m. In x (map a_region (list_of (λ (q : OpRecord N W). q.regions) m))) some.1 h in
        subst (λ m. In x (map a_region (list_of (λ (q : OpRecord N W). q.regions) m))) (sym was.1) (subst (λ rs. In {A = Entity N} x (map a_region rs)) same k))
  ]
  fewer_children x (a_block c) h = elim (there_or_not (g.blocks c)) [
    | inl none ↦ absurd (let k : In {A = Entity N} x [] = subst (λ m. In x (map an_op (list_of (λ (q : BlockRecord N W). q.ops) m))) none h in k)
    | inr some ↦ (
        let was = s.blocks c some.0 some.1 in
        let k : In {A = Entity N} x (map an_op some.0.ops) = subst (λ m. In x (map an_op (list_of (λ (q : BlockRecord N W). q.ops) m))) some.1 h in
        let l : In {A = Entity N} x (map an_op (filter (λ o. is_some (g.ops o)) was.0.ops)) = subst (λ (r : BlockRecord N W). In {A = Entity N} x (map an_op r.ops)) was.2 k in
        let at = In-map_back an_op x (filter (λ o. is_some (g.ops o)) was.0.ops) l in
        let here = In-map {B = Entity N} an_op at.0 was.0.ops (In-filter (λ o. is_some (g.ops o)) at.0 was.0.ops at.1).0 in
        subst (λ m. In x (map an_op (list_of (λ (q : BlockRecord N W). q.ops) m))) (sym was.1) (subst (λ z. In z (map an_op was.0.ops)) (sym at.2) here))
  ]
  fewer_children x (a_region r) h = elim (there_or_not (g.regions r)) [
    | inl none ↦ absurd (let k : In {A = Entity N} x [] = subst (λ m. In x (map a_block (list_of (λ (q : List N.Block). q) m))) none h in k)
    | inr some ↦ (
        let was = s.regions r some.0 some.1 in
        subst (λ m. In x (map a_block (list_of (λ (q : List N.Block). q) m))) (some.1 ∙ sym was) h)
  ]

  pure_now : (o : N.Op) (r : OpRecord N W) → g.ops o ≡ Some r → IsTrue (implements B f pure_interface o) → IsTrue (implements B g pure_interface o)
  pure_now o r e is_pure =
      let was = s.ops o r e in
      let kinds : r.kind ≡ was.0.kind = ap (λ (x : OpRecord N W). x.kind) was.2.rest in
      ap (λ m. option_map_or (λ (q : OpRecord N W). B.op_impls q.kind pure_interface) m false) e ∙ ap (λ k. B.op_impls k pure_interface) kinds
      ∙ sym (ap (λ m. option_map_or (λ (q : OpRecord N W). B.op_impls q.kind pure_interface) m false) was.1) ∙ is_pure

  -- a child that is there, of what is there, is one still
  child_still : (x y : Entity N) → IsLive g y → IsLive g x → In x (children f y) → In x (children g y)
  child_still x (an_op o) live here k =
      let at = is_there (g.ops o) live in
      let was = s.ops o at.0 at.1 in
      let same : at.0.regions ≡ was.0.regions = ap (λ (r : OpRecord N W). r.regions) was.2.rest in
      let l : In {A = Entity N} x (map a_region was.0.regions) = subst (λ m. In x (map a_region (list_of (λ (q : OpRecord N W). q.regions) m))) was.1 k in
      subst (λ m. In x (map a_region (list_of (λ (q : OpRecord N W). q.regions) m))) (sym at.1) (subst (λ rs. In {A = Entity N} x (map a_region rs)) (sym same) l)
  child_still x (a_block c) live here k =
      let at = is_there (g.blocks c) live in
      let was = s.blocks c at.0 at.1 in
      let l : In {A = Entity N} x (map an_op was.0.ops) = subst (λ m. In x (map an_op (list_of (λ (q : BlockRecord N W). q.ops) m))) was.1 k in
      let o = In-map_back an_op x was.0.ops l in
      let kept = In-map {B = Entity N} an_op o.0 (filter (λ o. is_some (g.ops o)) was.0.ops) (In-kept (λ o. is_some (g.ops o)) o.0 was.0.ops o.1 (subst (IsLive g) o.2 here)) in
      let now : In {A = Entity N} x (map an_op at.0.ops) = subst (λ (r : BlockRecord N W). In {A = Entity N} x (map an_op r.ops)) (sym was.2) (subst (λ z. In z (map an_op (filter (λ o. is_some (g.ops o)) was.0.ops))) (sym o.2) kept) in
      subst (λ m. In x (map an_op (list_of (λ (q : BlockRecord N W). q.ops) m))) (sym at.1) now
  child_still x (a_region r) live here k =
      let at = is_there (g.regions r) live in
      subst (λ m. In x (map a_block (list_of (λ (q : List N.Block). q) m))) (s.regions r at.0 at.1 ∙ sym at.1) k

  -- what has a child has a record
  has_record : (x y : Entity N) → In x (children f y) → IsLive f y
  has_record x (an_op o) k = by (f.ops o) k
    where
      by : (m : Option (OpRecord N W)) → In x (map a_region (list_of (λ (q : OpRecord N W). q.regions) m)) → IsSome m
      by None h = elim h [ ]
      by (Some q) h = refl
  has_record x (a_block c) k = by (f.blocks c) k
    where
      by : (m : Option (BlockRecord N W)) → In x (map an_op (list_of (λ (q : BlockRecord N W). q.ops) m)) → IsSome m
      by None h = elim h [ ]
      by (Some q) h = refl
  has_record x (a_region r) k = by (f.regions r) k
    where
      by : (m : Option (List N.Block)) → In x (map a_block (list_of (λ (q : List N.Block). q) m)) → IsSome m
      by None h = elim h [ ]
      by (Some q) h = refl

  bit : {A : Type 0} (m : Option A) → (IsSome m → ⊥) ⊎ IsSome m
  bit None = inl (λ e. (let k : false ≡ true = e in cc))
  bit (Some x) = inr refl

  live_or_not : (x : Entity N) → (IsLive g x → ⊥) ⊎ IsLive g x
  live_or_not (an_op o) = bit (g.ops o)
  live_or_not (a_block c) = bit (g.blocks c)
  live_or_not (a_region r) = bit (g.regions r)

  -- what something stands in that is there is there
  owner_live : (x y : Entity N) → In x (children f y) → IsLive g x → IsLive g y
  owner_live x y k here = elim (live_or_not y) [
    | inl gone ↦ absurd (gone (s.stays y (has_record x y k) (λ z. s.goes x (z.0, z.1, z.2, below k z.3) here)))
    | inr live ↦ live
  ]

  -- what is there lies inside what it lay inside
  pub inside_still : (e x : Entity N) → Inside f e x → IsLive g x → Inside g e x
  inside_still e x itself here = itself
  inside_still e x (below {c = c} k w) here =
      let live = owner_live x c k here in
      below (child_still x c live here k) (inside_still e c w live)

  module _ (h : Forest N W) (t : OnlyPureGo B g h) where
    live_before : (x : Entity N) → IsLive h x → IsLive g x
    live_before (an_op o) live = let at = is_there (h.ops o) live in ap is_some (t.ops o at.0 at.1).1
    live_before (a_block c) live = let at = is_there (h.blocks c) live in ap is_some (t.blocks c at.0 at.1).1
    live_before (a_region r) live = let at = is_there (h.regions r) live in ap is_some (t.regions r at.0 at.1)

    gone_after : (o : N.Op) → g.ops o ≡ None → h.ops o ≡ None
    gone_after o e = elim (there_or_not (h.ops o)) [
      | inl none ↦ none
      | inr some ↦ (let was = t.ops o some.0 some.1 in absurd (none_is_not_some was.0 (sym e ∙ was.1)))
    ]

    lists_of : (c : N.Block) (r : BlockRecord N W) → h.blocks c ≡ Some r → (q : BlockRecord N W) × (f.blocks c ≡ Some q) × (r ≡ on_ops (filter (λ o. is_some (h.ops o))) q)
    lists_of c r e =
        let a = t.blocks c r e in
        let b = s.blocks c a.0 a.1 in
        let twice = filter_twice (λ o. is_some (g.ops o)) (λ o. is_some (h.ops o)) there b.0.ops in
        (b.0, b.1, a.2 ∙ ap (on_ops (filter (λ o. is_some (h.ops o)))) b.2 ∙ ap (λ os. record b.0 { ops = os }) twice)
      where
        there : (o : N.Op) → is_some (h.ops o) ≡ true → is_some (g.ops o) ≡ true
        there o k = let at = is_there (h.ops o) k in ap is_some (t.ops o at.0 at.1).1

    pub only_pure_then : OnlyPureGo B f h
    only_pure_then = record {
      stays = λ x live alone. t.stays x
          (s.stays x live (λ w. alone (w.0, w.1, gone_after w.0 w.2, w.3)))
          (λ w. alone (w.0, pure_was w.0 w.1, w.2, Within-fewer (children f) (children g) fewer_children (an_op w.0) x w.3));
      ops = λ o r e. let a = t.ops o r e in let b = s.ops o a.0 a.1 in (b.0, b.1, record { rest = a.2.rest ∙ b.2.rest; uses = a.2.uses ∙ b.2.uses });
      blocks = lists_of;
      regions = λ c bs e. s.regions c bs (t.regions c bs e);
      goes = λ x z live. elim (there_or_not (g.ops z.0)) [
        | inl none ↦ s.goes x (z.0, z.1, none, z.3) (live_before x live)
        | inr some ↦ t.goes x (z.0, pure_now z.0 some.0 some.1 z.1, z.2, inside_still (an_op z.0) x z.3 (live_before x live)) live
      ];
    }

module _ {N : Ids} {W : Dialect} (B : Behaviour W) {V : Type 0} (gives : Interpretation W V) where
  pub meaning_then : (f g h : Forest N W) → KeepsMeaning B gives f g → KeepsMeaning B gives g h → KeepsMeaning B gives f h
  meaning_then f g h s t = record {
    only_pure = only_pure_then B f g s.only_pure h t.only_pure;
    values = λ a was.
        let first = s.values a was in
        let second = t.values a first.consistent in
        record {
          consistent = second.consistent;
          values = λ o live. second.values o live ∙ first.values o (let at = is_there (h.ops o) live in ap is_some (t.only_pure.ops o at.0 at.1).1);
        };
  }

  pub meaning_stays : (f : Forest N W) → Nested f → KeepsMeaning B gives f f
  meaning_stays f n = record {
    only_pure = record {
      stays = λ x live alone. live;
      ops = λ o r e. (r, e, record { rest = refl; uses = refl });
      blocks = λ c r e. (
        r,
        e,
        ap (λ os. record r { ops = os }) (sym (all_pass (λ o. is_some (f.ops o)) r.ops (λ o h. n.live (an_op o) (a_block c)
            (subst (λ m. In {A = Entity N} (an_op o) (map an_op (list_of (λ (q : BlockRecord N W). q.ops) m))) (sym e) (In-map {B = Entity N} an_op o r.ops h))))),
      );
      regions = λ c bs e. e;
      goes = λ x z live. still_pure z.0 z.1 z.2;
    };
    values = λ a was. record { consistent = was; values = λ o live. refl };
  }
    where
      still_pure : (p : N.Op) → IsTrue (implements B f pure_interface p) → f.ops p ≡ None → ⊥
      still_pure p is_pure none = (let k : false ≡ true = sym (ap (λ m. option_map_or (λ (q : OpRecord N W). B.op_impls q.kind pure_interface) m false) none) ∙ is_pure in cc)

module _ {N : Ids} {W : Dialect} (B : Behaviour W) (f g : Forest N W) (none : PureHaveNoRegions B f) where
  pure_record : (m : Option (OpRecord N W)) → option_map_or (λ (q : OpRecord N W). B.op_impls q.kind pure_interface) m false ≡ true → (r : OpRecord N W) × (m ≡ Some r) × IsTrue (B.op_impls r.kind pure_interface)
  pure_record None e = absurd (let k : false ≡ true = e in cc)
  pure_record (Some r) e = (r, refl, e)

  -- a pure operation has nothing inside but itself
  pure_alone : (p : N.Op) → IsTrue (implements B f pure_interface p) → (x : Entity N) → Inside f (an_op p) x → x ≡ an_op p
  pure_alone p is_pure x itself = refl
  pure_alone p is_pure x (below {c = c} h w) =
      let k : In x (children f (an_op p)) = subst (λ y. In x (children f y)) (pure_alone p is_pure c w) h in
      let at = pure_record (f.ops p) is_pure in
      let rs : regions_of f p ≡ [] = ap (list_of (λ (r : OpRecord N W). r.regions)) at.1 ∙ none p at.0 at.1 at.2 in
      absurd (let n : In x (map a_region []) = subst (λ (l : List N.Region). In x (map {A = N.Region} {B = Entity N} a_region l)) rs k in n)

  pub effects_stay : OnlyPureGo B f g → EffectsStay B f g
  effects_stay s o live not_pure = s.stays (an_op o) live (λ w. (let e : an_op o ≡ an_op w.0 = pure_alone w.0 w.1 (an_op o) w.3 in let one : o ≡ w.0 = cc in not_pure (subst (λ z. IsTrue (implements B f pure_interface z)) (sym one) w.1)))
