-- What a removal of the unreached blocks of a region leaves of the other regions.
use mathlib.Core.Path.{◌≡◌, refl, sym, ap, ◌∙◌, subst}
use Rattle.std.proofs.Common.{ℕ, ◌+◌, ◌↔◌, ◌⊎◌, inl, inr, Bool, true, false, not, cond, Option, Some, None, List, [], ◌∷◌, ◌++◌, map, is_some, length}
use Rattle.std.specs.Prelude.{IsTrue}
use Rattle.std.specs.List.{filter}
use Rattle.std.specs.Option.{option_map}
use Rattle.std.proofs.lemmas.Bool.{false≢true}
use Rattle.ir_model.specs.Ids.{Ids, Distinct}
use Rattle.ir_model.specs.Forest.{Dialect, Entity, an_op, a_block, a_region, OpRecord, BlockRecord, Forest, Named, Operand, Successor, a_value, the_block, owner}
use Rattle.ir_model.specs.Nesting.{In, Within, itself, below, list_of, children, Inside, IsLive, Nested, names_of, blocks_of, ops_of, regions_of}
use Rattle.ir_model.specs.Parent.{first_of}
use Rattle.ir_model.specs.BlockGraph.{targets_of}
use Rattle.ir_model.proofs.Nests.{In-map, In-map_back}
use Rattle.ir_model.proofs.Filters.{In-filter, In-kept}
use Rattle.ir_model.proofs.Keeps.{is_some-map}
use Rattle.ir_model.proofs.KeepsUses.{named_by, names_are}
use Rattle.ir_model_passes.specs.Unreached.{Reached, at_first, by_successor, IsUnreached, GoesUnreached, NamesStayInside, RemovesUnreached}

keeps_each : {A : Type 0} (p : A → Bool) (xs : List A) → ((x : A) → In x xs → p x ≡ true) → filter p xs ≡ xs
keeps_each p [] all = refl
keeps_each {A = A} p (x ∷ xs) all = ap (λ t. cond t (x ∷ filter p xs) (filter p xs)) (all x (inl refl)) ∙ ap (λ (ys : List A). x ∷ ys) (keeps_each p xs (λ y h. all y (inr h)))

module _ {N : Ids} {W : Dialect} (f : Forest N W) (region : N.Region) (g : Forest N W) (count : ℕ) (s : RemovesUnreached f region g count) where
  abbrev Goes : Entity N → Type 0
  Goes x = GoesUnreached f region x

  case : {A : Type 0} (x : Entity N) (now left : Option A) → now ≡ cond (s.is_gone x) None left → (Goes x × (now ≡ None)) ⊎ ((Goes x → ⊥) × (now ≡ left))
  case x now left is = by (s.is_gone x) refl
    where
      by : (t : Bool) → s.is_gone x ≡ t → (Goes x × (now ≡ None)) ⊎ ((Goes x → ⊥) × (now ≡ left))
      by true e = inl ((s.decides x).0 e, is ∙ ap (λ t. cond t None left) e)
      by false e = inr (λ k. false≢true (sym e ∙ (s.decides x).1 k), is ∙ ap (λ t. cond t None left) e)

  none_live : {A : Type 0} (m : Option A) → m ≡ None → is_some m ≡ true → ⊥
  none_live m e live = false≢true (sym (ap is_some e) ∙ live)

  -- what is live did not go
  pub live_stays : (x : Entity N) → IsLive g x → Goes x → ⊥
  live_stays (an_op o) live k = elim (case (an_op o) (g.ops o) (f.ops o) (s.ops o)) [ inl q ↦ none_live (g.ops o) q.1 live | inr q ↦ q.0 k ]
  live_stays (a_block b) live k = elim (case (a_block b) (g.blocks b) (f.blocks b) (s.blocks b)) [ inl q ↦ none_live (g.blocks b) q.1 live | inr q ↦ q.0 k ]
  live_stays (a_region r) live k = elim (case (a_region r) (g.regions r) _ (s.regions r)) [ inl q ↦ none_live (g.regions r) q.1 live | inr q ↦ q.0 k ]

  op_same : (o : N.Op) → (Goes (an_op o) → ⊥) → g.ops o ≡ f.ops o
  op_same o out = elim (case (an_op o) (g.ops o) (f.ops o) (s.ops o)) [ inl q ↦ absurd (out q.0) | inr q ↦ q.1 ]

  block_same : (b : N.Block) → (Goes (a_block b) → ⊥) → g.blocks b ≡ f.blocks b
  block_same b out = elim (case (a_block b) (g.blocks b) (f.blocks b) (s.blocks b)) [ inl q ↦ absurd (out q.0) | inr q ↦ q.1 ]

  filtered : (m : Option (List N.Block)) → list_of (λ (bs : List N.Block). bs) (option_map (filter (λ b. not (s.is_gone (a_block b)))) m) ≡ filter (λ b. not (s.is_gone (a_block b))) (list_of (λ (bs : List N.Block). bs) m)
  filtered None = refl
  filtered (Some q) = refl

  blocks_are : (r : N.Region) → (Goes (a_region r) → ⊥) → blocks_of g r ≡ filter (λ b. not (s.is_gone (a_block b))) (blocks_of f r)
  blocks_are r out = elim (case (a_region r) (g.regions r) _ (s.regions r)) [
    | inl q ↦ absurd (out q.0)
    | inr q ↦ ap (list_of (λ (bs : List N.Block). bs)) q.1 ∙ filtered (f.regions r)
  ]

  gone_empty : (r : N.Region) → Goes (a_region r) → blocks_of g r ≡ []
  gone_empty r k = elim (case (a_region r) (g.regions r) _ (s.regions r)) [ inl q ↦ ap (list_of (λ (bs : List N.Block). bs)) q.1 | inr q ↦ absurd (q.0 k) ]

  not_gone : (x : Entity N) → (Goes x → ⊥) → not (s.is_gone x) ≡ true
  not_gone x out = by (s.is_gone x) refl
    where
      by : (t : Bool) → s.is_gone x ≡ t → not t ≡ true
      by true e = absurd (out ((s.decides x).0 e))
      by false e = refl

  -- a child now was a child
  pub fewer : (x y : Entity N) → In x (children g y) → In x (children f y)
  fewer x (an_op o) h = elim (case (an_op o) (g.ops o) (f.ops o) (s.ops o)) [
    | inl q ↦ absurd (let z : In {A = Entity N} x [] = subst (λ m. In x (map a_region (list_of (λ (r : OpRecord N W). r.regions) m))) q.1 h in z)
    | inr q ↦ subst (λ m. In x (map a_region (list_of (λ (r : OpRecord N W). r.regions) m))) q.1 h
  ]
  fewer x (a_block b) h = elim (case (a_block b) (g.blocks b) (f.blocks b) (s.blocks b)) [
    | inl q ↦ absurd (let z : In {A = Entity N} x [] = subst (λ m. In x (map an_op (list_of (λ (r : BlockRecord N W). r.ops) m))) q.1 h in z)
    | inr q ↦ subst (λ m. In x (map an_op (list_of (λ (r : BlockRecord N W). r.ops) m))) q.1 h
  ]
  fewer x (a_region r) h = elim (case (a_region r) (g.regions r) _ (s.regions r)) [
    | inl q ↦ absurd (let z : In {A = Entity N} x [] = subst (λ bs. In x (map a_block bs)) (gone_empty r q.0) h in z)
    | inr q ↦ (
        let at = In-map_back a_block x (blocks_of g r) h in
        let was = In-filter (λ b. not (s.is_gone (a_block b))) at.0 (blocks_of f r) (subst (In at.0) (blocks_are r q.0) at.1) in
        subst (λ z. In z (map a_block (blocks_of f r))) (sym at.2) (In-map a_block at.0 (blocks_of f r) was.0))
  ]

  pub was_inside : (e x : Entity N) → Inside g e x → Inside f e x
  was_inside e x itself = itself
  was_inside e x (below {c = c} h v) = below (fewer x c h) (was_inside e c v)

  child_still : (x y : Entity N) → (Goes y → ⊥) → (Goes x → ⊥) → In x (children f y) → In x (children g y)
  child_still x (an_op o) out here h = subst (λ m. In x (map a_region (list_of (λ (r : OpRecord N W). r.regions) m))) (sym (op_same o out)) h
  child_still x (a_block b) out here h = subst (λ m. In x (map an_op (list_of (λ (r : BlockRecord N W). r.ops) m))) (sym (block_same b out)) h
  child_still x (a_region r) out here h =
      let at = In-map_back a_block x (blocks_of f r) h in
      let k = In-kept (λ b. not (s.is_gone (a_block b))) at.0 (blocks_of f r) at.1 (not_gone (a_block at.0) (subst (λ z. Goes z → ⊥) at.2 here)) in
      subst (λ z. In z (map a_block (blocks_of g r))) (sym at.2) (In-map a_block at.0 (blocks_of g r) (subst (In at.0) (sym (blocks_are r out)) k))

  -- what is inside and did not go is inside still
  pub still_inside : (e x : Entity N) → (Goes x → ⊥) → Inside f e x → Inside g e x
  still_inside e x out itself = itself
  still_inside e x out (below {c = c} h v) =
      let around : Goes c → ⊥ = λ k. out (k.0, k.1, below h k.2) in
      below (child_still x c around out h) (still_inside e c around v)

  -- each operation that is there is as it was
  pub op_stays : (o : N.Op) → IsLive g (an_op o) → g.ops o ≡ f.ops o
  op_stays o live = op_same o (live_stays (an_op o) live)

  pub block_was : (b : N.Block) → IsLive g (a_block b) → IsLive f (a_block b)
  block_was b live = sym (ap is_some (block_same b (live_stays (a_block b) live))) ∙ live

  pub region_was : (r : N.Region) → IsLive g (a_region r) → IsLive f (a_region r)
  region_was r live = elim (case (a_region r) (g.regions r) _ (s.regions r)) [
    | inl q ↦ absurd (none_live (g.regions r) q.1 live)
    | inr q ↦ sym (ap is_some q.1 ∙ is_some-map (filter (λ b. not (s.is_gone (a_block b)))) (f.regions r)) ∙ live
  ]

  pub block_gone : (b : N.Block) → IsTrue (s.is_gone (a_block b)) → IsLive g (a_block b) → ⊥
  block_gone b e live = live_stays (a_block b) live ((s.decides (a_block b)).0 e)

  module _ (nested : Nested f) where
    around : (x y e : Entity N) → In x (children f y) → Inside f e x → (x ≡ e) ⊎ Inside f e y
    around x y e h itself = inl refl
    around x y e h (below {c = c} k v) = inr (subst (Within (children f) e) (nested.one_list x c y k h) v)

    -- what stands in something that did not go, and is no block of the region, did not go
    child_out : (x y : Entity N) → In x (children f y) → (Goes y → ⊥) → ((b : N.Block) → x ≡ a_block b → In b (blocks_of f region) → ⊥) → Goes x → ⊥
    child_out x y h out other k = elim (around x y (a_block k.0) h k.2) [ inl e ↦ other k.0 e k.1.0 | inr v ↦ out (k.0, k.1, v) ]

    -- ## Another region, that did not go

    module _ (q : N.Region) (stays : Goes (a_region q) → ⊥) (differs : q ≡ region → ⊥) where
      block_out : (b : N.Block) → In b (blocks_of f q) → Goes (a_block b) → ⊥
      block_out b h = child_out (a_block b) (a_region q) (In-map a_block b (blocks_of f q) h) stays
          (λ c e k. differs (one (a_region q) q region refl (nested.one_list (a_block b) (a_region q) (a_region region) (In-map a_block b (blocks_of f q) h) (subst (λ z. In z (children f (a_region region))) (sym e) (In-map a_block c (blocks_of f region) k)))))
        where
          one : (x : Entity N) (r p : N.Region) → x ≡ a_region r → x ≡ a_region p → r ≡ p
          one x r p a e = let z : a_region r ≡ a_region p = sym a ∙ e in cc

      pub same_list : blocks_of g q ≡ blocks_of f q
      same_list = blocks_are q stays ∙ keeps_each (λ b. not (s.is_gone (a_block b))) (blocks_of f q) (λ b h. not_gone (a_block b) (block_out b h))

      same_ops : (a : N.Block) → In a (blocks_of f q) → ops_of g a ≡ ops_of f a
      same_ops a h = ap (list_of (λ (r : BlockRecord N W). r.ops)) (block_same a (block_out a h))

      same_targets : (a : N.Block) (o : N.Op) → In a (blocks_of f q) → In o (ops_of f a) → targets_of g o ≡ targets_of f o
      same_targets a o h k = ap (λ m. map (λ (p : Successor N). p.block) (list_of (λ (r : OpRecord N W). r.successors) m)) (op_same o
          (child_out (an_op o) (a_block a) (In-map an_op o (ops_of f a) k) (block_out a h) (λ b e _. (let z : an_op o ≡ a_block b = e in absurd cc))))

      listed : (h : Forest N W) (b : N.Block) → Reached h q b → In b (blocks_of h q)
      listed h b (at_first e) = by (blocks_of h q) e
        where
          by : (bs : List N.Block) → first_of bs ≡ Some b → In b bs
          by [] k = absurd cc
          by (c ∷ bs) k = inl cc
      listed h b (by_successor o r here names in_list) = in_list

      reached_still : (b : N.Block) → Reached f q b → Reached g q b
      reached_still b (at_first e) = at_first (subst (λ bs. first_of bs ≡ Some b) (sym same_list) e)
      reached_still b (by_successor {a = a} o r here names in_list) =
          let h = listed f a r in
          by_successor o (reached_still a r) (subst (In o) (sym (same_ops a h)) here) (subst (In b) (sym (same_targets a o h here)) names) (subst (In b) (sym same_list) in_list)

      reached_was : (b : N.Block) → Reached g q b → Reached f q b
      reached_was b (at_first e) = at_first (subst (λ bs. first_of bs ≡ Some b) same_list e)
      reached_was b (by_successor {a = a} o r here names in_list) =
          let h = subst (In a) same_list (listed g a r) in
          let k = subst (In o) (same_ops a h) here in
          by_successor o (reached_was a r) k (subst (In b) (same_targets a o h k) names) (subst (In b) same_list in_list)

      pub unreached_was : (b : N.Block) → IsUnreached g q b → IsUnreached f q b
      unreached_was b u = (subst (In b) same_list u.0, λ r. u.1 (reached_still b r))

      pub unreached_still : (b : N.Block) → IsUnreached f q b → IsUnreached g q b
      unreached_still b u = (subst (In b) (sym same_list) u.0, λ r. u.1 (reached_was b r))

      pub names_still : NamesStayInside f q → NamesStayInside g q
      names_still stay user d h goes =
          let live : IsLive g (an_op user) = named_live g user d h in
          let out = live_stays (an_op user) live in
          let was : In d (names_of f user) = subst (In d) (names_are g user ∙ ap (list_of named_by) (op_same user out) ∙ sym (names_are f user)) h in
          let k = stay user d was (goes.0, unreached_was goes.0 goes.1, was_inside (a_block goes.0) (owner N d) goes.2) in
          (k.0, unreached_still k.0 k.1, still_inside (a_block k.0) (an_op user) out k.2)
        where
          named_live : (h : Forest N W) (o : N.Op) (n : Named N) → In n (names_of h o) → IsLive h (an_op o)
          named_live h o n k = by (h.ops o) (subst (In n) (names_are h o) k)
            where
              by : (m : Option (OpRecord N W)) → In n (list_of named_by m) → is_some m ≡ true
              by None z = absurd z
              by (Some r) z = refl

    -- a region without unreached blocks has none still, whichever lost its own
    pub none_still : (q : N.Region) → (q ≡ region → ⊥) → ((b : N.Block) → IsUnreached f q b → ⊥) → (b : N.Block) → IsUnreached g q b → ⊥
    none_still q differs none b u =
        let stays : Goes (a_region q) → ⊥ = λ k. (let z : In b [] = subst (In b) (gone_empty q k) u.0 in z) in
        none b (unreached_was q stays differs b u)
