-- What a sweep leaves is determined and well formed, and no operation of it could be swept again.
use mathlib.Core.Path.{◌≡◌, refl, sym, ap, ◌∙◌, subst, fun_ext}
use Rattle.std.proofs.Common.{ℕ, ◌⊎◌, inl, inr, Bool, true, false, not, Option, Some, None, List, [], ◌∷◌, ◌++◌, map, is_some, IsSome}
use Rattle.std.specs.Prelude.{IsTrue, count_by}
use Rattle.std.specs.List.{filter}
use Rattle.std.specs.Option.{option_map, option_map_or}
use Rattle.ir_model.specs.Ids.{Ids, Distinct}
use Rattle.ir_model.specs.Forest.{Dialect, Behaviour, Definer, of_op, of_block, Entity, an_op, a_block, a_region, Definition, OpRecord, BlockRecord, Forest, Operand, Successor, Named, a_value, the_block, definer_entity, owner}
use Rattle.ir_model.specs.Nesting.{In, Within, itself, below, list_of, children, Inside, IsLive, IsLiveNamed, IsClosed, Nested, WellFormed, use_numbers_of, names_of, regions_of, ops_of, blocks_of, definitions_of}
use Rattle.ir_model.specs.Changes.{on_ops}
use Rattle.ir_model.specs.BlockGraph.{implements, pure_interface}
use Rattle.ir_model.specs.Dead.{Dead, dead, GoesWith, inside_it, inside_dead, IsSwept, Sweeps}
use Rattle.ir_model.proofs.Nests.{In-map, In-map_back, Distinct-map, Within-fewer, NoCycle-fewer, OneList-fewer}
use Rattle.ir_model.proofs.Keeps.{list_of-map, is_some-map, Distinct-unmap}
use Rattle.ir_model.proofs.KeepsErase.{gone_or_out}
use Rattle.ir_model.proofs.Removal.{gone_or_kept}
use Rattle.ir_model.proofs.Filters.{In-filter, In-kept, Distinct-filter}

-- of finitely many it is not refuted that each is decided
decided : {A : Type 0} (P : A → Type 0) (xs : List A) → (((x : A) → In x xs → P x ⊎ (P x → ⊥)) → ⊥) → ⊥
decided P [] refuted = refuted (λ x h. elim h [ ])
decided P (y ∷ xs) refuted = decided P xs (λ rest.
    let never : P y → ⊥ = λ p. refuted (λ x h. elim h [ inl e ↦ inl (subst P (sym e) p) | inr k ↦ rest x k ]) in
    refuted (λ x h. elim h [ inl e ↦ inr (λ p. never (subst P e p)) | inr k ↦ rest x k ]))

-- tests that follow from each other are one
same_test : (a b : Bool) → (a ≡ true → b ≡ true) → (b ≡ true → a ≡ true) → a ≡ b
same_test true b there back = sym (there refl)
same_test false true there back = back refl
same_test false false there back = refl

module _ {N : Ids} {W : Dialect} (B : Behaviour W) (f : Forest N W) (b : N.Block) (g : Forest N W) (count : ℕ) (s : Sweeps B f b g count) where
  pub one_outcome : (h : Forest N W) (other : ℕ) → Sweeps B f b h other → (h ≡ g) × (other ≡ count)
  one_outcome h other t = (
    λ i. record {
      ops = fun_ext (λ o. gone_or_kept _ (h.ops o) (g.ops o) _ (t.ops_gone o) (s.ops_gone o) (t.ops_left o) (s.ops_left o)) i;
      blocks = fun_ext (λ c. gone_or_kept _ (h.blocks c) (g.blocks c) _ (t.blocks_gone c) (s.blocks_gone c) (λ out. t.blocks_left c out ∙ ap (λ p. left_by p c) one_test) (s.blocks_left c)) i;
      regions = fun_ext (λ r. gone_or_kept _ (h.regions r) (g.regions r) _ (t.regions_gone r) (s.regions_gone r) (t.regions_left r) (s.regions_left r)) i;
    },
    t.counted ∙ ap (λ p. count_by p (ops_of f b)) one_test ∙ sym s.counted,
  )
    where
      left_by : (N.Op → Bool) → N.Block → Option (BlockRecord N W)
      left_by is_dead c = option_map (on_ops (filter (λ o. not (is_dead o)))) (f.blocks c)

      one_test : t.is_dead ≡ s.is_dead
      one_test = fun_ext (λ o. same_test (t.is_dead o) (s.is_dead o) (λ e. (s.decides o).1 ((t.decides o).0 e)) (λ e. (t.decides o).1 ((s.decides o).0 e)))

  abbrev Out : Entity N → Type 0
  Out x = IsSwept B f b x → ⊥

  abbrev D : N.Op → Type 0
  D o = Dead B f b o

  op_case : (o : N.Op) → (g.ops o ≡ None) ⊎ (Out (an_op o) × (g.ops o ≡ f.ops o))
  op_case o = gone_or_out _ (g.ops o) _ (s.ops_gone o) (s.ops_left o)

  block_case : (c : N.Block) → (g.blocks c ≡ None) ⊎ (Out (a_block c) × (g.blocks c ≡ option_map (on_ops (filter (λ o. not (s.is_dead o)))) (f.blocks c)))
  block_case c = gone_or_out _ (g.blocks c) _ (s.blocks_gone c) (s.blocks_left c)

  region_case : (r : N.Region) → (g.regions r ≡ None) ⊎ (Out (a_region r) × (g.regions r ≡ f.regions r))
  region_case r = gone_or_out _ (g.regions r) _ (s.regions_gone r) (s.regions_left r)

  -- what is left of the operations of a block
  filtered : (m : Option (BlockRecord N W)) → list_of (λ (q : BlockRecord N W). q.ops) (option_map (on_ops (filter (λ o. not (s.is_dead o)))) m) ≡ filter (λ o. not (s.is_dead o)) (list_of (λ q. q.ops) m)
  filtered None = refl
  filtered (Some q) = refl

  ops_left : (c : N.Block) → g.blocks c ≡ option_map (on_ops (filter (λ o. not (s.is_dead o)))) (f.blocks c) → ops_of g c ≡ filter (λ o. not (s.is_dead o)) (ops_of f c)
  ops_left c e = ap (list_of (λ (q : BlockRecord N W). q.ops)) e ∙ filtered (f.blocks c)

  not_dead : (o : N.Op) → not (s.is_dead o) ≡ true → D o → ⊥
  not_dead o e d = let t : s.is_dead o ≡ true = (s.decides o).1 d in let k : not true ≡ true = subst (λ q. not q ≡ true) t e in cc

  is_left : (o : N.Op) → (D o → ⊥) → not (s.is_dead o) ≡ true
  is_left o alive = by (s.is_dead o) refl
    where
      by : (t : Bool) → s.is_dead o ≡ t → not t ≡ true
      by true e = absurd (alive ((s.decides o).0 e))
      by false e = refl

  -- a child that is left: its owner is left, it was a child, and it is no dead operation
  child_left : (x y : Entity N) → In x (children g y) → Out y × In x (children f y) × ((o : N.Op) → x ≡ an_op o → D o → ⊥)
  child_left x (an_op o) h = elim (op_case o) [
    | inl gone ↦ absurd (let k : In {A = Entity N} x [] = subst (λ m. In x (map a_region (list_of (λ (q : OpRecord N W). q.regions) m))) gone h in k)
    | inr kept ↦ (
        let k = subst (λ m. In x (map a_region (list_of (λ (q : OpRecord N W). q.regions) m))) kept.1 h in
        (kept.0, k, λ p e d. (let at = In-map_back a_region x (regions_of f o) k in let z : an_op p ≡ a_region at.0 = sym e ∙ at.2 in cc)))
  ]
  child_left x (a_block c) h = elim (block_case c) [
    | inl gone ↦ absurd (let k : In {A = Entity N} x [] = subst (λ m. In x (map an_op (list_of (λ (q : BlockRecord N W). q.ops) m))) gone h in k)
    | inr kept ↦ (
        let at = In-map_back an_op x (filter (λ o. not (s.is_dead o)) (ops_of f c)) (subst (λ os. In x (map an_op os)) (ops_left c kept.1) h) in
        let was = In-filter (λ o. not (s.is_dead o)) at.0 (ops_of f c) at.1 in
        (kept.0, subst (λ z. In z (map an_op (ops_of f c))) (sym at.2) (In-map an_op at.0 (ops_of f c) was.0), λ p e d. (let z : an_op p ≡ an_op at.0 = sym e ∙ at.2 in let one : p ≡ at.0 = cc in not_dead at.0 was.1 (subst D one d))))
  ]
  child_left x (a_region r) h = elim (region_case r) [
    | inl gone ↦ absurd (let k : In {A = Entity N} x [] = subst (λ m. In x (map a_block (list_of (λ (q : List N.Block). q) m))) gone h in k)
    | inr kept ↦ (
        let k = subst (λ m. In x (map a_block (list_of (λ (q : List N.Block). q) m))) kept.1 h in
        (kept.0, k, λ p e d. (let at = In-map_back a_block x (blocks_of f r) k in let z : an_op p ≡ a_block at.0 = sym e ∙ at.2 in cc)))
  ]

  fewer : (x y : Entity N) → In x (children g y) → In x (children f y)
  fewer x y h = (child_left x y h).1

  -- a child that is not swept, of what is not swept, is still one
  child_still : (x y : Entity N) → Out y → Out x → In x (children f y) → In x (children g y)
  child_still x (an_op o) out here h = subst (λ m. In x (map a_region (list_of (λ (q : OpRecord N W). q.regions) m))) (sym (s.ops_left o out)) h
  child_still x (a_block c) out here h =
      let at = In-map_back an_op x (ops_of f c) h in
      let alive : D at.0 → ⊥ = λ d. here (at.0, d, subst (λ z. Inside f (an_op at.0) z) (sym at.2) itself) in
      let k = In-map {B = Entity N} an_op at.0 (filter (λ o. not (s.is_dead o)) (ops_of f c)) (In-kept (λ o. not (s.is_dead o)) at.0 (ops_of f c) at.1 (is_left at.0 alive)) in
      subst (λ z. In z (map an_op (ops_of g c))) (sym at.2) (subst (λ os. In {A = Entity N} (an_op at.0) (map an_op os)) (sym (ops_left c (s.blocks_left c out))) k)
  child_still x (a_region r) out here h = subst (λ m. In x (map a_block (list_of (λ (q : List N.Block). q) m))) (sym (s.regions_left r out)) h

  dead_here : (o : N.Op) → D o → In o (ops_of f b)
  dead_here o (dead here pure goes) = here

  -- what the record of an operation names
  abbrev names_by : Option (OpRecord N W) → List (Named N)
  names_by m = map (λ (x : Operand N). a_value x.value) (list_of (λ (q : OpRecord N W). q.operands) m) ++ map (λ (x : Successor N). the_block x.block) (list_of (λ (q : OpRecord N W). q.successors) m)

  names_still : (o : N.Op) (d : Named N) → Out (an_op o) → In d (names_of f o) → In d (names_of g o)
  names_still o d out = subst (λ m. In d (names_by m)) (sym (s.ops_left o out))

  names_were : (o : N.Op) (d : Named N) → In d (names_of g o) → Out (an_op o) × In d (names_of f o)
  names_were o d h = elim (op_case o) [
    | inl gone ↦ absurd (let k : In {A = Named N} d [] = subst (λ m. In d (names_by m)) gone h in k)
    | inr kept ↦ (kept.0, subst (λ m. In d (names_by m)) kept.1 h)
  ]

  -- what names a definition that is swept is swept
  user_swept : (p user : N.Op) (d : Named N) → D p → In d (names_of f user) → Inside f (an_op p) (owner N d) → IsSwept B f b (an_op user)
  user_swept p user d (dead here pure goes) h i = elim (goes user d h i) [
    | inside_it v ↦ (p, dead here pure goes, v)
    | inside_dead {p = q} e v ↦ (q, e, v)
  ]

  module _ (n : Nested f) where
    -- what a child is inside of is the child, or has its owner inside
    swept_child : (x y e : Entity N) → In x (children f y) → Inside f e x → (x ≡ e) ⊎ Inside f e y
    swept_child x y e h itself = inl refl
    swept_child x y e h (below {c = c} k v) = inr (subst (Within (children f) e) (n.one_list x c y k h) v)

    out_child : (x y : Entity N) → In x (children g y) → Out x
    out_child x y h w =
        let left = child_left x y h in
        elim (swept_child x y (an_op w.0) left.1 w.2) [
          | inl e ↦ left.2 w.0 e w.1
          | inr v ↦ left.0 (w.0, w.1, v)
        ]

    -- of two that hold one, one is inside the other
    nested_two : (e c x : Entity N) → Inside f e x → Inside f c x → Inside f e c ⊎ Inside f c e
    nested_two e c x itself w = inr w
    nested_two e c x (below h v) itself = inl (below h v)
    nested_two e c x (below {c = p} h v) (below {c = q} k w) = nested_two e c p v (subst (Within (children f) c) (n.one_list x q p k h) w)

    -- no operation of the block is inside another one
    siblings : (o p : N.Op) → In o (ops_of f b) → In p (ops_of f b) → Inside f (an_op p) (an_op o) → o ≡ p
    siblings o p h k w = elim (swept_child (an_op o) (a_block b) (an_op p) (In-map an_op o (ops_of f b) h) w) [
      | inl e ↦ cc
      | inr v ↦ absurd (n.no_cycle (an_op p) (a_block b) (In-map an_op p (ops_of f b) k) v)
    ]

    module _ (o : N.Op) (here : In o (ops_of f b)) (alive : D o → ⊥) where
      -- nothing inside an operation that is left is swept
      stays : (x : Entity N) → Inside f (an_op o) x → Out x
      stays x w sw = elim (nested_two (an_op o) (an_op sw.0) x w sw.2) [
        | inl v ↦ alive (subst D (siblings sw.0 o (dead_here sw.0 sw.1) here v) sw.1)
        | inr v ↦ alive (subst D (sym (siblings o sw.0 here (dead_here sw.0 sw.1) v)) sw.1)
      ]

      inside_still : (x : Entity N) → Inside f (an_op o) x → Inside g (an_op o) x
      inside_still x itself = itself
      inside_still x (below {c = c} h w) = below (child_still x c (stays c w) (stays x (below h w)) h) (inside_still c w)

    names_live : (user : N.Op) (d : Named N) → In d (names_of f user) → IsSome (f.ops user)
    names_live user d = by (f.ops user)
      where
        by : (m : Option (OpRecord N W)) → In d (names_by m) → IsSome m
        by None h = elim h [ ]
        by (Some r) h = refl

    pub none_left : (live : List N.Op) → ((o : N.Op) → IsSome (f.ops o) → In o live) → (o : N.Op) → In o (ops_of g b) → IsTrue (implements B g pure_interface o) → IsClosed g (an_op o) → ⊥
    none_left live all o h is_pure closed = decided (λ u. IsSwept B f b (an_op u)) live (λ known. alive (dead here still_pure (goes known)))
      where
        left : Out (a_block b) × In {A = Entity N} (an_op o) (map an_op (ops_of f b)) × ((p : N.Op) → ◌≡◌ {A = Entity N} (an_op o) (an_op p) → D p → ⊥)
        left = child_left (an_op o) (a_block b) (In-map an_op o (ops_of g b) h)

        here : In o (ops_of f b)
        here = let at = In-map_back an_op (an_op o) (ops_of f b) left.1 in let e : o ≡ at.0 = cc in subst (λ p. In p (ops_of f b)) (sym e) at.1

        alive : D o → ⊥
        alive = left.2 o refl

        still_pure : IsTrue (implements B f pure_interface o)
        still_pure = subst (λ m. option_map_or (λ (q : OpRecord N W). B.op_impls q.kind pure_interface) m false ≡ true) (s.ops_left o (stays o here alive (an_op o) itself)) is_pure

        goes : ((u : N.Op) → In u live → IsSwept B f b (an_op u) ⊎ Out (an_op u)) → (user : N.Op) (d : Named N) → In d (names_of f user) → Inside f (an_op o) (owner N d) → GoesWith B f b o user
        goes known user d named i = elim (known user (all user (names_live user d named))) [
          | inl sw ↦ inside_dead {p = sw.0} sw.1 sw.2
          | inr out ↦ inside_it (Within-fewer (children f) (children g) fewer (an_op o) (an_op user) (closed user d (names_still user d out named) (inside_still o here alive (owner N d) i)))
        ]

  live_out : (x : Entity N) → Out x → IsLive f x → IsLive g x
  live_out (an_op o) out h = ap is_some (s.ops_left o out) ∙ h
  live_out (a_block c) out h = ap is_some (s.blocks_left c out) ∙ is_some-map _ (f.blocks c) ∙ h
  live_out (a_region r) out h = ap is_some (s.regions_left r out) ∙ h

  -- the definitions are gone, or as they were
  definitions_out : (d : Definer N) → Out (definer_entity N d) → definitions_of g d ≡ definitions_of f d
  definitions_out (of_op o) out = ap (list_of (λ (r : OpRecord N W). r.results)) (s.ops_left o out)
  definitions_out (of_block c) out = ap (list_of (λ (r : BlockRecord N W). r.arguments)) (s.blocks_left c out) ∙ list_of-map (λ r. r.arguments) (on_ops (filter (λ o. not (s.is_dead o)))) (λ r. refl) (f.blocks c)

  definitions_case : (d : Definer N) → (definitions_of g d ≡ []) ⊎ (definitions_of g d ≡ definitions_of f d)
  definitions_case (of_op o) = elim (op_case o) [
    | inl gone ↦ inl (ap (list_of (λ (r : OpRecord N W). r.results)) gone)
    | inr kept ↦ inr (definitions_out (of_op o) kept.0)
  ]
  definitions_case (of_block c) = elim (block_case c) [
    | inl gone ↦ inl (ap (list_of (λ (r : BlockRecord N W). r.arguments)) gone)
    | inr kept ↦ inr (definitions_out (of_block c) kept.0)
  ]

  some_definition : {X : Type 0} (part : Definition N W → X) (d : Definer N) (n : X) → In n (map part (definitions_of g d)) → In n (map part (definitions_of f d))
  some_definition part d n h = elim (definitions_case d) [
    | inl gone ↦ absurd (let k : In n (map part []) = rw gone at h in k)
    | inr kept ↦ rw kept at h
  ]

  named_out : (d : Named N) → Out (owner N d) → IsLiveNamed f d → IsLiveNamed g d
  named_out (a_value v) out h = rw (definitions_out v.definer out) h
  named_out (the_block c) out h = live_out (a_block c) out h

  -- the use numbers in a record
  abbrev uses_by : Option (OpRecord N W) → List N.UseNumber
  uses_by m = map (λ (x : Operand N). x.use_number) (list_of (λ (q : OpRecord N W). q.operands) m) ++ map (λ (x : Successor N). x.use_number) (list_of (λ (q : OpRecord N W). q.successors) m)

  some_use : (o : N.Op) (u : N.UseNumber) → In u (use_numbers_of g o) → In u (use_numbers_of f o)
  some_use o u h = elim (op_case o) [
    | inl gone ↦ absurd (let k : In {A = N.UseNumber} u [] = subst (λ m. In u (uses_by m)) gone h in k)
    | inr kept ↦ subst (λ m. In u (uses_by m)) kept.1 h
  ]

  uses_once : (o : N.Op) → Distinct (use_numbers_of f o) → Distinct (use_numbers_of g o)
  uses_once o h = elim (op_case o) [
    | inl gone ↦ subst (λ m. Distinct (uses_by m)) (sym gone) tt
    | inr kept ↦ subst (λ m. Distinct (uses_by m)) (sym kept.1) h
  ]

  numbers_once : (d : Definer N) → Distinct (map (λ (x : Definition N W). x.number) (definitions_of f d)) → Distinct (map (λ (x : Definition N W). x.number) (definitions_of g d))
  numbers_once d h = elim (definitions_case d) [
    | inl gone ↦ subst (λ xs. Distinct (map (λ (x : Definition N W). x.number) xs)) (sym gone) tt
    | inr kept ↦ subst (λ xs. Distinct (map (λ (x : Definition N W). x.number) xs)) (sym kept) h
  ]

  -- a list of children is what it was, or without the dead operations, or empty
  once : (y : Entity N) → Distinct (children f y) → Distinct (children g y)
  once (an_op o) d = elim (op_case o) [
    | inl gone ↦ subst (λ m. Distinct (map {B = Entity N} a_region (list_of (λ (q : OpRecord N W). q.regions) m))) (sym gone) tt
    | inr kept ↦ subst (λ m. Distinct (map {B = Entity N} a_region (list_of (λ (q : OpRecord N W). q.regions) m))) (sym kept.1) d
  ]
  once (a_block c) d = elim (block_case c) [
    | inl gone ↦ subst (λ m. Distinct (map {B = Entity N} an_op (list_of (λ (q : BlockRecord N W). q.ops) m))) (sym gone) tt
    | inr kept ↦ subst (λ os. Distinct (map {B = Entity N} an_op os)) (sym (ops_left c kept.1)) (Distinct-map an_op (λ x y q. cc) _ (Distinct-filter _ (ops_of f c) (Distinct-unmap an_op (ops_of f c) d)))
  ]
  once (a_region r) d = elim (region_case r) [
    | inl gone ↦ subst (λ m. Distinct (map {B = Entity N} a_block (list_of (λ (q : List N.Block). q) m))) (sym gone) tt
    | inr kept ↦ subst (λ m. Distinct (map {B = Entity N} a_block (list_of (λ (q : List N.Block). q) m))) (sym kept.1) d
  ]

  module _ (keys : ℕ) (w : WellFormed f keys) where
    linked_out : (r : N.Region) → IsSome (g.regions r) → (o : N.Op) × In r (regions_of g o)
    linked_out r h = elim (region_case r) [
      | inl gone ↦ absurd (let k : is_some {T = List N.Block} None ≡ true = sym (ap is_some gone) ∙ h in cc)
      | inr kept ↦ (
          let at = w.nested.regions_linked r (sym (ap is_some kept.1) ∙ h) in
          let out : Out (an_op at.0) = λ sw. kept.0 (sw.0, sw.1, below (In-map a_region r (regions_of f at.0) at.1) sw.2) in
          (at.0, subst (λ m. In r (list_of (λ (q : OpRecord N W). q.regions) m)) (sym (s.ops_left at.0 out)) at.1))
    ]

    pub sweep_formed : WellFormed g keys
    sweep_formed = record {
      nested = record {
        one_list = OneList-fewer (children f) (children g) fewer w.nested.one_list;
        once = λ y. once y (w.nested.once y);
        live = λ x y h. live_out x (out_child w.nested x y h) (w.nested.live x y (fewer x y h));
        no_cycle = NoCycle-fewer (children f) (children g) fewer w.nested.no_cycle;
        regions_linked = linked_out;
      };
      numbers = λ d c n h k. w.numbers d c n (some_definition (λ x. x.number) d n h) (some_definition (λ x. x.number) c n k);
      numbers_once = λ d. numbers_once d (w.numbers_once d);
      uses = λ o p u h k. w.uses o p u (some_use o u h) (some_use p u k);
      uses_once = λ o. uses_once o (w.uses_once o);
      named = λ o d h. let was = names_were o d h in named_out d (λ sw. was.0 (user_swept sw.0 o d sw.1 was.1 sw.2)) (w.named o d was.1);
      known = λ d t h. w.known d t (some_definition (λ x. x.ty) d t h);
    }
