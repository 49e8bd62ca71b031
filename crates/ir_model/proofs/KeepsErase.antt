-- Taking out a closed subtree keeps a forest well formed.
use mathlib.Core.Path.{◌≡◌, refl, sym, ap, ◌∙◌, subst}
use Rattle.std.proofs.Common.{ℕ, ◌≢◌, ◌⊎◌, inl, inr, Bool, true, false, not, Option, Some, None, List, [], map, is_some, IsSome}
use Rattle.std.specs.Option.{option_map}
use Rattle.ir_model.specs.Ids.{Ids, Distinct}
use Rattle.ir_model.specs.Forest.{Dialect, Definer, of_op, of_block, Entity, an_op, a_block, a_region, Definition, OpRecord, BlockRecord, Forest, Named, a_value, the_block, same_entity, definer_entity, owner}
use Rattle.ir_model.specs.Nesting.{In, Within, itself, below, list_of, children, Inside, IsLive, IsLiveNamed, IsClosed, WellFormed, use_numbers_of, names_of, operands_of, successors_of, regions_of, ops_of, definitions_of}
use Rattle.ir_model.specs.Changes.{on_ops, on_regions, but, Removes}
use Rattle.ir_model.proofs.Loops.{Lawful}
use Rattle.ir_model.proofs.Nests.{In-map, In-map_back, Distinct-map, NoCycle-fewer, OneList-fewer}
use Rattle.ir_model.proofs.Keeps.{list_of-map, is_some-map, Distinct-unmap}
use Rattle.ir_model.proofs.Parts.{Kept}
use Rattle.ir_model.proofs.Filters.{In-filter, In-kept, Distinct-filter}

pub same_self : (N : Ids) → Lawful N → (x : Entity N) → same_entity N x x ≡ true
same_self N L (an_op o) = (L.ops o o).1 refl
same_self N L (a_block b) = (L.blocks b b).1 refl
same_self N L (a_region r) = (L.regions r r).1 refl

pub same_tells : (N : Ids) → Lawful N → (x y : Entity N) → same_entity N x y ≡ true → x ≡ y
same_tells N L (an_op o) (an_op p) e = ap an_op ((L.ops o p).0 e)
same_tells N L (a_block b) (a_block c) e = ap a_block ((L.blocks b c).0 e)
same_tells N L (a_region r) (a_region q) e = ap a_region ((L.regions r q).0 e)
same_tells N L (an_op o) (a_block c) e = absurd cc
same_tells N L (an_op o) (a_region c) e = absurd cc
same_tells N L (a_block o) (an_op c) e = absurd cc
same_tells N L (a_block o) (a_region c) e = absurd cc
same_tells N L (a_region o) (an_op c) e = absurd cc
same_tells N L (a_region o) (a_block c) e = absurd cc

-- what is there is gone, or it is outside and as it was but for e
pub gone_or_out : {B : Type 0} (Ins : Type 0) (now kept : Option B) → (Ins → now ≡ None) → ((Ins → ⊥) → now ≡ kept) → (now ≡ None) ⊎ ((Ins → ⊥) × (now ≡ kept))
gone_or_out Ins None kept gone out = inl refl
gone_or_out Ins (Some r) kept gone out = let not_in : Ins → ⊥ = λ i. (let e : Some r ≡ None = gone i in cc) in inr (not_in, out not_in)

module _ {N : Ids} {W : Dialect} (L : Lawful N) (f g : Forest N W) (e : Entity N) (keys : ℕ) (w : WellFormed f keys) (removes : Removes f e g) where
  abbrev Out : Entity N → Type 0
  Out x = Inside f e x → ⊥

  op_case : (o : N.Op) → (g.ops o ≡ None) ⊎ (Out (an_op o) × (g.ops o ≡ option_map (on_regions (but e a_region)) (f.ops o)))
  op_case o = gone_or_out _ (g.ops o) _ (removes.ops_inside o) (removes.ops_outside o)

  block_case : (b : N.Block) → (g.blocks b ≡ None) ⊎ (Out (a_block b) × (g.blocks b ≡ option_map (on_ops (but e an_op)) (f.blocks b)))
  block_case b = gone_or_out _ (g.blocks b) _ (removes.blocks_inside b) (removes.blocks_outside b)

  region_case : (r : N.Region) → (g.regions r ≡ None) ⊎ (Out (a_region r) × (g.regions r ≡ option_map (but e a_block) (f.regions r)))
  region_case r = gone_or_out _ (g.regions r) _ (removes.regions_inside r) (removes.regions_outside r)

  -- the children that are left
  children_left : {A B : Type 0} (c : A → Entity N) (of : B → List A) (on : (List A → List A) → B → B) → ((h : List A → List A) (r : B) → of (on h r) ≡ h (of r)) → (m : Option B)
      → map c (list_of of (option_map (on (but e c)) m)) ≡ map c (but e c (list_of of m))
  children_left c of on keeps None = refl
  children_left c of on keeps (Some r) = ap (map c) (keeps (but e c) r)

  left_in : {A : Type 0} (c : A → Entity N) (xs : List A) (x : Entity N) → In x (map c (but e c xs)) → In x (map c xs) × (x ≢ e)
  left_in c xs x h =
      let at = In-map_back c x (but e c xs) h in
      let kept = In-filter (λ y. not (same_entity N (c y) e)) at.0 xs at.1 in (
        subst (λ z. In z (map c xs)) (sym at.2) (In-map c at.0 xs kept.0),
        λ s. (let t : same_entity N (c at.0) e ≡ true = rw (sym at.2 ∙ s) (same_self N L e) in let k : not (same_entity N (c at.0) e) ≡ true = kept.1 in absurd (let q : not true ≡ true = rw t at k in cc)),
      )

  left_distinct : {A : Type 0} (c : A → Entity N) → ((x y : A) → c x ≡ c y → x ≡ y) → (xs : List A) → Distinct (map c xs) → Distinct (map c (but e c xs))
  left_distinct c one xs d = Distinct-map c one (but e c xs) (Distinct-filter _ xs (Distinct-unmap c xs d))

  -- of each list: it is empty, or its owner is outside and it is the old list but for e
  child_case : (y : Entity N) → (children g y ≡ []) ⊎ (Out y × ((x : Entity N) → In x (children g y) → In x (children f y) × (x ≢ e)) × Distinct (children g y))
  child_case (an_op o) = elim (op_case o) [
    | inl gone ↦ inl (rw gone)
    | inr kept ↦ inr (let same : children g (an_op o) ≡ map a_region (but e a_region (regions_of f o)) = ap (λ m. map a_region (list_of (λ (r : OpRecord N W). r.regions) m)) kept.1 ∙ children_left a_region (λ (r : OpRecord N W). r.regions) on_regions (λ h r. refl) (f.ops o) in
        (kept.0, λ x h. left_in a_region (regions_of f o) x (rw same at h), rw same (left_distinct a_region (λ x y q. cc) (regions_of f o) (w.nested.once (an_op o)))))
  ]
  child_case (a_block b) = elim (block_case b) [
    | inl gone ↦ inl (rw gone)
    | inr kept ↦ inr (let same : children g (a_block b) ≡ map an_op (but e an_op (ops_of f b)) = ap (λ m. map an_op (list_of (λ (r : BlockRecord N W). r.ops) m)) kept.1 ∙ children_left an_op (λ (r : BlockRecord N W). r.ops) on_ops (λ h r. refl) (f.blocks b) in
        (kept.0, λ x h. left_in an_op (ops_of f b) x (rw same at h), rw same (left_distinct an_op (λ x y q. cc) (ops_of f b) (w.nested.once (a_block b)))))
  ]
  child_case (a_region r) = elim (region_case r) [
    | inl gone ↦ inl (rw gone)
    | inr kept ↦ inr (let same : children g (a_region r) ≡ map a_block (but e a_block (list_of (λ bs. bs) (f.regions r))) = ap (λ m. map a_block (list_of (λ (bs : List N.Block). bs) m)) kept.1 ∙ children_left a_block (λ (bs : List N.Block). bs) (λ h bs. h bs) (λ h r. refl) (f.regions r) in
        (kept.0, λ x h. left_in a_block (list_of (λ bs. bs) (f.regions r)) x (rw same at h), rw same (left_distinct a_block (λ x y q. cc) (list_of (λ bs. bs) (f.regions r)) (w.nested.once (a_region r)))))
  ]

  in_child : (x y : Entity N) → In x (children g y) → Out y × In x (children f y) × (x ≢ e)
  in_child x y h = elim (child_case y) [
    | inl gone ↦ absurd (let k : In {A = Entity N} x [] = rw gone at h in k)
    | inr kept ↦ (let more = kept.1 x h in (kept.0, more.0, more.1))
  ]

  fewer : (x y : Entity N) → In x (children g y) → In x (children f y)
  fewer x y h = (in_child x y h).1

  -- a child of what is outside is outside, unless it is e
  out_child : (x y : Entity N) → In x (children f y) → Out y → x ≢ e → Out x
  out_child x y h out other itself = other refl
  out_child x y h out other (below {c = c} k v) = out (subst (Within (children f) e) (w.nested.one_list x c y k h) v)

  live_out : (x : Entity N) → Out x → IsLive f x → IsLive g x
  live_out (an_op o) out h = ap is_some (removes.ops_outside o out) ∙ is_some-map _ (f.ops o) ∙ h
  live_out (a_block b) out h = ap is_some (removes.blocks_outside b out) ∙ is_some-map _ (f.blocks b) ∙ h
  live_out (a_region r) out h = ap is_some (removes.regions_outside r out) ∙ is_some-map _ (f.regions r) ∙ h

  -- the definitions and the uses are gone, or as they were
  definitions_case : (d : Definer N) → (definitions_of g d ≡ []) ⊎ (Out (definer_entity N d) × (definitions_of g d ≡ definitions_of f d))
  definitions_case (of_op o) = elim (op_case o) [
    | inl gone ↦ inl (rw gone)
    | inr kept ↦ inr (kept.0, ap (list_of (λ (r : OpRecord N W). r.results)) kept.1 ∙ list_of-map (λ r. r.results) (on_regions (but e a_region)) (λ r. refl) (f.ops o))
  ]
  definitions_case (of_block b) = elim (block_case b) [
    | inl gone ↦ inl (rw gone)
    | inr kept ↦ inr (kept.0, ap (list_of (λ (r : BlockRecord N W). r.arguments)) kept.1 ∙ list_of-map (λ r. r.arguments) (on_ops (but e an_op)) (λ r. refl) (f.blocks b))
  ]

  definitions_out : (d : Definer N) → Out (definer_entity N d) → definitions_of g d ≡ definitions_of f d
  definitions_out (of_op o) out = ap (list_of (λ (r : OpRecord N W). r.results)) (removes.ops_outside o out) ∙ list_of-map (λ r. r.results) (on_regions (but e a_region)) (λ r. refl) (f.ops o)
  definitions_out (of_block b) out = ap (list_of (λ (r : BlockRecord N W). r.arguments)) (removes.blocks_outside b out) ∙ list_of-map (λ r. r.arguments) (on_ops (but e an_op)) (λ r. refl) (f.blocks b)

  op_parts : (o : N.Op) → ((operands_of g o ≡ []) × (successors_of g o ≡ [])) ⊎ (Out (an_op o) × (operands_of g o ≡ operands_of f o) × (successors_of g o ≡ successors_of f o))
  op_parts o = elim (op_case o) [
    | inl gone ↦ inl (rw gone, rw gone)
    | inr kept ↦ inr (
      kept.0,
      ap (list_of (λ (r : OpRecord N W). r.operands)) kept.1 ∙ list_of-map (λ r. r.operands) (on_regions (but e a_region)) (λ r. refl) (f.ops o),
      ap (list_of (λ (r : OpRecord N W). r.successors)) kept.1 ∙ list_of-map (λ r. r.successors) (on_regions (but e a_region)) (λ r. refl) (f.ops o),
    )
  ]

  some_definition : {X : Type 0} (part : Definition N W → X) (d : Definer N) (n : X) → In n (map part (definitions_of g d)) → In n (map part (definitions_of f d))
  some_definition part d n h = elim (definitions_case d) [
    | inl gone ↦ absurd (let k : In n (map part []) = rw gone at h in k)
    | inr kept ↦ rw kept.1 at h
  ]

  some_use : (o : N.Op) (u : N.UseNumber) → In u (use_numbers_of g o) → In u (use_numbers_of f o)
  some_use o u h = elim (op_parts o) [
    | inl gone ↦ absurd (let k : In u [] = rw (gone.0, gone.1) at h in k)
    | inr kept ↦ rw (kept.1, kept.2) at h
  ]

  some_name : (o : N.Op) (d : Named N) → In d (names_of g o) → Out (an_op o) × In d (names_of f o)
  some_name o d h = elim (op_parts o) [
    | inl gone ↦ absurd (let k : In d [] = rw (gone.0, gone.1) at h in k)
    | inr kept ↦ (kept.0, rw (kept.1, kept.2) at h)
  ]

  named_out : (d : Named N) → Out (owner N d) → IsLiveNamed f d → IsLiveNamed g d
  named_out (a_value v) out h = rw (definitions_out v.definer out) h
  named_out (the_block b) out h = live_out (a_block b) out h

  other_than : (x : Entity N) → Out x → not (same_entity N x e) ≡ true
  other_than x out = by (same_entity N x e) refl
    where
      by : (b : Bool) → same_entity N x e ≡ b → not b ≡ true
      by true s = absurd (out (subst (Within (children f) e) (sym (same_tells N L x e s)) itself))
      by false s = refl

  regions_left : (o : N.Op) (r : N.Region) → Out (an_op o) → Out (a_region r) → In r (regions_of f o) → In r (regions_of g o)
  regions_left o r out other h = subst (λ m. In r (list_of (λ (q : OpRecord N W). q.regions) m)) (sym (removes.ops_outside o out)) (by (f.ops o) h)
    where
      by : (m : Option (OpRecord N W)) → In r (list_of (λ q. q.regions) m) → In r (list_of (λ q. q.regions) (option_map (on_regions (but e a_region)) m))
      by None k = k
      by (Some q) k = In-kept (λ x. not (same_entity N (a_region x) e)) r q.regions k (other_than (a_region r) other)

  linked_out : (r : N.Region) → IsSome (g.regions r) → (o : N.Op) × In r (regions_of g o)
  linked_out r h = elim (region_case r) [
    | inl gone ↦ absurd (let k : is_some {T = List N.Block} None ≡ true = rw gone at h in cc)
    | inr kept ↦ (
        let was : IsSome (f.regions r) = sym (is_some-map (but e a_block) (f.regions r)) ∙ ap is_some (sym kept.1) ∙ h in
        let at = w.nested.regions_linked r was in
        let out : Out (an_op at.0) = λ v. kept.0 (below (In-map a_region r (regions_of f at.0) at.1) v) in
        (at.0, regions_left at.0 r out kept.0 at.1))
  ]

  Removes-keeps : IsClosed f e → WellFormed g keys
  Removes-keeps closed = record {
    nested = record {
      one_list = OneList-fewer (children f) (children g) fewer w.nested.one_list;
      once = λ y. elim (child_case y) [ inl gone ↦ rw gone tt | inr kept ↦ kept.2 ];
      live = λ x y h. let in' = in_child x y h in live_out x (out_child x y in'.1 in'.0 in'.2) (w.nested.live x y in'.1);
      no_cycle = NoCycle-fewer (children f) (children g) fewer w.nested.no_cycle;
      regions_linked = linked_out;
    };
    numbers = λ d c n h k. w.numbers d c n (some_definition (λ x. x.number) d n h) (some_definition (λ x. x.number) c n k);
    numbers_once = λ d. elim (definitions_case d) [ inl gone ↦ rw gone tt | inr kept ↦ rw kept.1 (w.numbers_once d) ];
    uses = λ o p u h k. w.uses o p u (some_use o u h) (some_use p u k);
    uses_once = λ o. elim (op_parts o) [ inl gone ↦ rw (gone.0, gone.1) tt | inr kept ↦ rw (kept.1, kept.2) (w.uses_once o) ];
    named = λ o d h. let in' = some_name o d h in named_out d (λ v. in'.0 (closed o d in'.1 v)) (w.named o d in'.1);
    known = λ d t h. w.known d t (some_definition (λ x. x.ty) d t h);
  }

  pub Removes-kept : (new : List N.UseNumber) → IsClosed f e → Kept f g keys new
  Removes-kept new closed = record {
    forest = Removes-keeps closed;
    values = λ v h. some_definition (λ x. x.number) v.definer v.number h;
    uses = λ o u h. inl (some_use o u h);
  }
