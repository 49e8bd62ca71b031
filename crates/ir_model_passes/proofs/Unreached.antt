-- What is left of a forest when the unreached blocks of a region went with all that lies inside them.
use mathlib.Core.Path.{◌≡◌, refl, sym, ap, ◌∙◌, subst, fun_ext}
use Rattle.std.proofs.Common.{ℕ, suc, ◌+◌, ◌⊎◌, inl, inr, Bool, true, false, not, cond, Option, Some, None, List, [], ◌∷◌, ◌++◌, map, is_some, IsSome, length, arith}
use Rattle.std.specs.List.{filter, count_by, AllZip}
use Rattle.std.specs.Option.{option_map}
use Rattle.std.proofs.lemmas.List.Sums.{length-filter}
use Rattle.ir_model.specs.Ids.{Ids, Distinct}
use Rattle.ir_model.specs.Forest.{Dialect, Behaviour, Definer, of_op, of_block, Entity, an_op, a_block, a_region, Definition, OpRecord, BlockRecord, Forest, Value, Operand, Successor, Named, a_value, the_block, definer_entity, owner}
use Rattle.ir_model.specs.Nesting.{In, Within, itself, below, list_of, children, Inside, IsLive, IsLiveNamed, Nested, WellFormed, use_numbers_of, names_of, operands_of, regions_of, ops_of, blocks_of, definitions_of}
use Rattle.ir_model.specs.Parent.{first_of}
use Rattle.ir_model.specs.BlockGraph.{targets_of}
use Rattle.ir_model.proofs.Nests.{In-map, In-map_back, Distinct-map, NoCycle-fewer, OneList-fewer}
use Rattle.ir_model.proofs.Keeps.{is_some-map, Distinct-unmap}
use Rattle.ir_model.proofs.Filters.{In-filter, In-kept, Distinct-filter}
use Rattle.ir_model_passes.specs.Meaning.{Interpretation, KeepsValues}
use Rattle.ir_model_passes.specs.Merging.{MovesBack, OperandsMoveBack}
use Rattle.ir_model_passes.proofs.Merges.{all_zip_same}
use Rattle.ir_model_passes.specs.Unreached.{Reached, IsUnreached, at_first, by_successor, GoesUnreached, NamesStayInside, RemovesUnreached, UnreachedTells}
use Rattle.ir_model_passes.proofs.Going.{same_test, none_is_not_some, some_one}

module _ {N : Ids} {W : Dialect} (f : Forest N W) (region : N.Region) (g : Forest N W) (count : ℕ) (s : RemovesUnreached f region g count) where
  abbrev left_by : (Entity N → Bool) → N.Region → Option (List N.Block)
  left_by is_gone r = option_map (filter (λ b. not (is_gone (a_block b)))) (f.regions r)

  pub only : (h : Forest N W) (other : ℕ) → RemovesUnreached f region h other → (h ≡ g) × (other ≡ count)
  only h other t = (
    λ i. record {
      ops = fun_ext (λ o. t.ops o ∙ ap (λ p. cond (p (an_op o)) None (f.ops o)) one_test ∙ sym (s.ops o)) i;
      blocks = fun_ext (λ c. t.blocks c ∙ ap (λ p. cond (p (a_block c)) None (f.blocks c)) one_test ∙ sym (s.blocks c)) i;
      regions = fun_ext (λ r. t.regions r ∙ ap (λ p. cond (p (a_region r)) None (left_by p r)) one_test ∙ sym (s.regions r)) i;
    },
    t.counted ∙ ap (λ p. count_by (λ b. p (a_block b)) (blocks_of f region)) one_test ∙ sym s.counted,
  )
    where
      one_test : t.is_gone ≡ s.is_gone
      one_test = fun_ext (λ x. same_test (t.is_gone x) (s.is_gone x) (λ e. (s.decides x).1 ((t.decides x).0 e)) (λ e. (t.decides x).1 ((s.decides x).0 e)))

  abbrev Out : Entity N → Type 0
  Out x = GoesUnreached f region x → ⊥

  -- what the test says of an entity
  told : {A : Type 0} (x : Entity N) (now left : Option A) → now ≡ cond (s.is_gone x) None left → (GoesUnreached f region x × (now ≡ None)) ⊎ (Out x × (s.is_gone x ≡ false) × (now ≡ left))
  told x now left is = by (s.is_gone x) refl
    where
      by : (t : Bool) → s.is_gone x ≡ t → (GoesUnreached f region x × (now ≡ None)) ⊎ (Out x × (s.is_gone x ≡ false) × (now ≡ left))
      by true e = inl ((s.decides x).0 e, is ∙ ap (λ t. cond t None left) e)
      by false e = inr (λ k. (let z : true ≡ false = sym ((s.decides x).1 k) ∙ e in cc), e, is ∙ ap (λ t. cond t None left) e)

  op_case : (o : N.Op) → (GoesUnreached f region (an_op o) × (g.ops o ≡ None)) ⊎ (Out (an_op o) × (s.is_gone (an_op o) ≡ false) × (g.ops o ≡ f.ops o))
  op_case o = told (an_op o) (g.ops o) (f.ops o) (s.ops o)

  block_case : (c : N.Block) → (GoesUnreached f region (a_block c) × (g.blocks c ≡ None)) ⊎ (Out (a_block c) × (s.is_gone (a_block c) ≡ false) × (g.blocks c ≡ f.blocks c))
  block_case c = told (a_block c) (g.blocks c) (f.blocks c) (s.blocks c)

  region_case : (r : N.Region) → (GoesUnreached f region (a_region r) × (g.regions r ≡ None)) ⊎ (Out (a_region r) × (s.is_gone (a_region r) ≡ false) × (g.regions r ≡ left_by s.is_gone r))
  region_case r = told (a_region r) (g.regions r) (left_by s.is_gone r) (s.regions r)

  op_left : (o : N.Op) → Out (an_op o) → g.ops o ≡ f.ops o
  op_left o out = elim (op_case o) [ inl k ↦ absurd (out k.0) | inr k ↦ k.2 ]

  block_left : (c : N.Block) → Out (a_block c) → g.blocks c ≡ f.blocks c
  block_left c out = elim (block_case c) [ inl k ↦ absurd (out k.0) | inr k ↦ k.2 ]

  region_left : (r : N.Region) → Out (a_region r) → g.regions r ≡ left_by s.is_gone r
  region_left r out = elim (region_case r) [ inl k ↦ absurd (out k.0) | inr k ↦ k.2 ]

  filtered : (m : Option (List N.Block)) → list_of (λ (bs : List N.Block). bs) (option_map (filter (λ b. not (s.is_gone (a_block b)))) m) ≡ filter (λ b. not (s.is_gone (a_block b))) (list_of (λ (bs : List N.Block). bs) m)
  filtered None = refl
  filtered (Some q) = refl

  list_left : (r : N.Region) → g.regions r ≡ left_by s.is_gone r → blocks_of g r ≡ filter (λ b. not (s.is_gone (a_block b))) (blocks_of f r)
  list_left r e = ap (list_of (λ (bs : List N.Block). bs)) e ∙ filtered (f.regions r)

  not_gone : (x : Entity N) → not (s.is_gone x) ≡ true → Out x
  not_gone x e k = let z : not true ≡ true = subst (λ t. not t ≡ true) ((s.decides x).1 k) e in cc

  is_left : (x : Entity N) → Out x → not (s.is_gone x) ≡ true
  is_left x out = by (s.is_gone x) refl
    where
      by : (t : Bool) → s.is_gone x ≡ t → not t ≡ true
      by true e = absurd (out ((s.decides x).0 e))
      by false e = refl

  -- a child that is left: its owner is left, it was a child, and a block is not gone itself
  child_left : (x y : Entity N) → In x (children g y) → Out y × In x (children f y) × ((b : N.Block) → x ≡ a_block b → Out x)
  child_left x (an_op o) h = elim (op_case o) [
    | inl k ↦ absurd (let z : In {A = Entity N} x [] = subst (λ m. In x (map a_region (list_of (λ (q : OpRecord N W). q.regions) m))) k.1 h in z)
    | inr k ↦ (
        let l = subst (λ m. In x (map a_region (list_of (λ (q : OpRecord N W). q.regions) m))) k.2 h in
        (k.0, l, λ b e. (let at = In-map_back a_region x (regions_of f o) l in let z : a_block b ≡ a_region at.0 = sym e ∙ at.2 in absurd cc)))
  ]
  child_left x (a_block c) h = elim (block_case c) [
    | inl k ↦ absurd (let z : In {A = Entity N} x [] = subst (λ m. In x (map an_op (list_of (λ (q : BlockRecord N W). q.ops) m))) k.1 h in z)
    | inr k ↦ (
        let l = subst (λ m. In x (map an_op (list_of (λ (q : BlockRecord N W). q.ops) m))) k.2 h in
        (k.0, l, λ b e. (let at = In-map_back an_op x (ops_of f c) l in let z : a_block b ≡ an_op at.0 = sym e ∙ at.2 in absurd cc)))
  ]
  child_left x (a_region r) h = elim (region_case r) [
    | inl k ↦ absurd (let z : In {A = Entity N} x [] = subst (λ m. In x (map a_block (list_of (λ (q : List N.Block). q) m))) k.1 h in z)
    | inr k ↦ (
        let at = In-map_back a_block x (filter (λ b. not (s.is_gone (a_block b))) (blocks_of f r)) (subst (λ bs. In x (map a_block bs)) (list_left r k.2) h) in
        let was = In-filter (λ b. not (s.is_gone (a_block b))) at.0 (blocks_of f r) at.1 in
        (k.0, subst (λ z. In z (map a_block (blocks_of f r))) (sym at.2) (In-map a_block at.0 (blocks_of f r) was.0), λ b e. subst Out (sym at.2) (not_gone (a_block at.0) was.1)))
  ]

  fewer : (x y : Entity N) → In x (children g y) → In x (children f y)
  fewer x y h = (child_left x y h).1

  live_out : (x : Entity N) → Out x → IsLive f x → IsLive g x
  live_out (an_op o) out h = ap is_some (op_left o out) ∙ h
  live_out (a_block c) out h = ap is_some (block_left c out) ∙ h
  live_out (a_region r) out h = ap is_some (region_left r out) ∙ is_some-map (filter (λ b. not (s.is_gone (a_block b)))) (f.regions r) ∙ h

  -- ## What stays sees the same

  values : (B : Behaviour W) {V : Type 0} (gives : Interpretation W V) → KeepsValues B gives f g
  values B gives a was = record {
    consistent = λ o r place d e plain at. elim (op_case o) [
      | inl k ↦ absurd (none_is_not_some r (sym k.1 ∙ e))
      | inr k ↦ was o r place d (sym k.2 ∙ e) plain at
    ];
    values = λ o live. elim (op_case o) [
      | inl k ↦ absurd (let z : false ≡ true = sym (ap is_some k.1) ∙ live in cc)
      | inr k ↦ ap (λ m. map (λ (p : Operand N). a p.value) (list_of (λ (q : OpRecord N W). q.operands) m)) k.2
    ];
  }

  moves_back : OperandsMoveBack f g
  moves_back o live = elim (op_case o) [
    | inl k ↦ absurd (let z : false ≡ true = sym (ap is_some k.1) ∙ live in cc)
    | inr k ↦ subst (λ m. AllZip (MovesBack f g) (operands_of f o) (list_of (λ (q : OpRecord N W). q.operands) m)) (sym k.2) (all_zip_same (MovesBack f g) (λ p. inl refl) (operands_of f o))
  ]

  module _ (n : Nested f) where
    owner_inside : (x y e : Entity N) → In x (children f y) → Inside f e x → (x ≡ e) ⊎ Inside f e y
    owner_inside x y e h itself = inl refl
    owner_inside x y e h (below {c = c} k v) = inr (subst (Within (children f) e) (n.one_list x c y k h) v)

    -- a child of what is left is left, unless it is an unreached block
    out_below : (x y : Entity N) → In x (children f y) → Out y → ((b : N.Block) → x ≡ a_block b → Out x) → Out x
    out_below x y h out is_block k = elim (owner_inside x y (a_block k.0) h k.2) [
      | inl e ↦ is_block k.0 e k
      | inr v ↦ out (k.0, k.1, v)
    ]

    out_child : (x y : Entity N) → In x (children g y) → Out x
    out_child x y h = let left = child_left x y h in out_below x y left.1 left.0 left.2

    -- ## What is left is reached

    in_region : (b : N.Block) → Reached f region b → In b (blocks_of f region)
    in_region b (at_first e) = by (blocks_of f region) e
      where
        by : (bs : List N.Block) → first_of bs ≡ Some b → In b bs
        by [] e = absurd (none_is_not_some b e)
        by (c ∷ bs) e = inl (sym (some_one c b e))
    in_region b (by_successor o r here names in_list) = in_list

    -- a reached block is left
    reached_out : (b : N.Block) → Reached f region b → Out (a_block b)
    reached_out b r k = elim (owner_inside (a_block b) (a_region region) (a_block k.0) (In-map a_block b (blocks_of f region) (in_region b r)) k.2) [
      | inl e ↦ (let one : b ≡ k.0 = cc in k.1.1 (subst (Reached f region) one r))
      | inr v ↦ n.no_cycle (a_block k.0) (a_region region) (In-map a_block k.0 (blocks_of f region) k.1.0) v
    ]

    -- all inside a reached block is left
    inside_out : (b : N.Block) (x : Entity N) → Reached f region b → Inside f (a_block b) x → Out x
    inside_out b x r i k = elim (one_of (a_block b) (a_block k.0) x i k.2) [
      | inl v ↦ never k.0 k.1 v
      | inr v ↦ reached_out b r (k.0, k.1, v)
    ]
      where
        -- of two that have something inside, the one is inside the other
        one_of : (d e x : Entity N) → Inside f d x → Inside f e x → Inside f d e ⊎ Inside f e d
        one_of d e x itself v = inr v
        one_of d e x (below {c = c} h w) v = elim (owner_inside x c e h v) [
          | inl is ↦ inl (subst (Within (children f) d) is (below h w))
          | inr v2 ↦ one_of d e c w v2
        ]

        -- no unreached block is inside the reached one
        never : (c : N.Block) → IsUnreached f region c → Inside f (a_block b) (a_block c) → ⊥
        never c un v = elim (owner_inside (a_block c) (a_region region) (a_block b) (In-map a_block c (blocks_of f region) un.0) v) [
          | inl is ↦ (let one : b ≡ c = cc in un.1 (subst (Reached f region) one r))
          | inr v2 ↦ n.no_cycle (a_block b) (a_region region) (In-map a_block b (blocks_of f region) (in_region b r)) v2
        ]

    reached_stay : (b : N.Block) (x : Entity N) → Reached f region b → Inside f (a_block b) x → IsLive f x → IsLive g x
    reached_stay b x r i live = live_out x (inside_out b x r i) live

    region_stays : Out (a_region region)
    region_stays k = n.no_cycle (a_block k.0) (a_region region) (In-map a_block k.0 (blocks_of f region) k.1.0) k.2

    shorter : length (blocks_of f region) ≡ length (blocks_of g region) + count
    shorter =
        let list = ap length (list_left region (region_left region region_stays)) in
        let parts = split (λ b. s.is_gone (a_block b)) (blocks_of f region) in
        let so_many = s.counted in
        let gone = length-filter (λ b. s.is_gone (a_block b)) (blocks_of f region) in
        omega (arith, list, parts, so_many, gone)
      where
        -- those that pass a test and those that fail it are all
        split : {A : Type 0} (p : A → Bool) (xs : List A) → length xs ≡ length (filter (λ x. not (p x)) xs) + length (filter p xs)
        split p [] = refl
        split {A = A} p (x ∷ xs) = by (p x) (split p xs)
          where
            by : (t : Bool) → length xs ≡ length (filter (λ y. not (p y)) xs) + length (filter p xs)
                → suc (length xs) ≡ length (cond (not t) (x ∷ filter (λ y. not (p y)) xs) (filter (λ y. not (p y)) xs)) + length (cond t (x ∷ filter p xs) (filter p xs))
            by true more = omega (arith, more)
            by false more = omega (arith, more)

    region_out : (b : N.Block) → Reached f region b → Out (a_region region)
    region_out b r k = n.no_cycle (a_block k.0) (a_region region) (In-map a_block k.0 (blocks_of f region) k.1.0) k.2

    still_listed : (b : N.Block) → Reached f region b → In b (blocks_of f region) → In b (blocks_of g region)
    still_listed b r h = subst (In b) (sym (list_left region (region_left region (region_out b r)))) (In-kept (λ c. not (s.is_gone (a_block c))) b (blocks_of f region) h (is_left (a_block b) (reached_out b r)))

    first_still : (b : N.Block) → first_of (blocks_of f region) ≡ Some b → first_of (blocks_of g region) ≡ Some b
    first_still b e = ap first_of (list_left region (region_left region (region_out b (at_first e)))) ∙ by (blocks_of f region) e
      where
        by : (bs : List N.Block) → first_of bs ≡ Some b → first_of (filter (λ c. not (s.is_gone (a_block c))) bs) ≡ Some b
        by [] k = absurd (none_is_not_some b k)
        by (c ∷ bs) k =
            let one = some_one c b k in
            let t : not (s.is_gone (a_block c)) ≡ true = subst (λ z. not (s.is_gone (a_block z)) ≡ true) (sym one) (is_left (a_block b) (reached_out b (at_first e))) in
            ap (λ t. first_of (cond t (c ∷ filter (λ z. not (s.is_gone (a_block z))) bs) (filter (λ z. not (s.is_gone (a_block z))) bs))) t ∙ k

    reached_still : (b : N.Block) → Reached f region b → Reached g region b
    reached_still b (at_first e) = at_first (first_still b e)
    reached_still b (by_successor {a = a} o r here names in_list) =
        let list : ops_of g a ≡ ops_of f a = ap (list_of (λ (q : BlockRecord N W). q.ops)) (block_left a (reached_out a r)) in
        let stays : Out (an_op o) = out_below (an_op o) (a_block a) (In-map an_op o (ops_of f a) here) (reached_out a r) (λ c e. (let z : an_op o ≡ a_block c = e in absurd cc)) in
        let targets : targets_of g o ≡ targets_of f o = ap (λ m. map (λ (p : Successor N). p.block) (list_of (λ (q : OpRecord N W). q.successors) m)) (op_left o stays) in
        by_successor o (reached_still a r) (subst (In o) (sym list) here) (subst (In b) (sym targets) names) (still_listed b (by_successor o r here names in_list) in_list)

    none_unreached : (b : N.Block) → IsUnreached g region b → ⊥
    none_unreached b (h, never) =
        let left = child_left (a_block b) (a_region region) (In-map a_block b (blocks_of g region) h) in
        let at = In-map_back a_block (a_block b) (blocks_of f region) left.1 in
        let one : b ≡ at.0 = cc in
        let here : In b (blocks_of f region) = subst (λ z. In z (blocks_of f region)) (sym one) at.1 in
        left.2 b refl (b, (here, λ r. never (reached_still b r)), itself)

  -- ## What is left is well formed

  abbrev names_by : Option (OpRecord N W) → List (Named N)
  names_by m = map (λ (x : Operand N). a_value x.value) (list_of (λ (q : OpRecord N W). q.operands) m) ++ map (λ (x : Successor N). the_block x.block) (list_of (λ (q : OpRecord N W). q.successors) m)

  names_were : (o : N.Op) (d : Named N) → In d (names_of g o) → Out (an_op o) × In d (names_of f o)
  names_were o d h = elim (op_case o) [
    | inl k ↦ absurd (let z : In {A = Named N} d [] = subst (λ m. In d (names_by m)) k.1 h in z)
    | inr k ↦ (k.0, subst (λ m. In d (names_by m)) k.2 h)
  ]

  definitions_out : (d : Definer N) → Out (definer_entity N d) → definitions_of g d ≡ definitions_of f d
  definitions_out (of_op o) out = ap (list_of (λ (r : OpRecord N W). r.results)) (op_left o out)
  definitions_out (of_block c) out = ap (list_of (λ (r : BlockRecord N W). r.arguments)) (block_left c out)

  definitions_case : (d : Definer N) → (definitions_of g d ≡ []) ⊎ (definitions_of g d ≡ definitions_of f d)
  definitions_case (of_op o) = elim (op_case o) [
    | inl k ↦ inl (ap (list_of (λ (r : OpRecord N W). r.results)) k.1)
    | inr k ↦ inr (definitions_out (of_op o) k.0)
  ]
  definitions_case (of_block c) = elim (block_case c) [
    | inl k ↦ inl (ap (list_of (λ (r : BlockRecord N W). r.arguments)) k.1)
    | inr k ↦ inr (definitions_out (of_block c) k.0)
  ]

  some_definition : {X : Type 0} (part : Definition N W → X) (d : Definer N) (n : X) → In n (map part (definitions_of g d)) → In n (map part (definitions_of f d))
  some_definition part d n h = elim (definitions_case d) [
    | inl gone ↦ absurd (let k : In n (map part []) = rw gone at h in k)
    | inr kept ↦ rw kept at h
  ]

  named_out : (d : Named N) → Out (owner N d) → IsLiveNamed f d → IsLiveNamed g d
  named_out (a_value v) out h = rw (definitions_out v.definer out) h
  named_out (the_block c) out h = live_out (a_block c) out h

  abbrev uses_by : Option (OpRecord N W) → List N.UseNumber
  uses_by m = map (λ (x : Operand N). x.use_number) (list_of (λ (q : OpRecord N W). q.operands) m) ++ map (λ (x : Successor N). x.use_number) (list_of (λ (q : OpRecord N W). q.successors) m)

  some_use : (o : N.Op) (u : N.UseNumber) → In u (use_numbers_of g o) → In u (use_numbers_of f o)
  some_use o u h = elim (op_case o) [
    | inl k ↦ absurd (let z : In {A = N.UseNumber} u [] = subst (λ m. In u (uses_by m)) k.1 h in z)
    | inr k ↦ subst (λ m. In u (uses_by m)) k.2 h
  ]

  uses_once : (o : N.Op) → Distinct (use_numbers_of f o) → Distinct (use_numbers_of g o)
  uses_once o h = elim (op_case o) [
    | inl k ↦ subst (λ m. Distinct (uses_by m)) (sym k.1) tt
    | inr k ↦ subst (λ m. Distinct (uses_by m)) (sym k.2) h
  ]

  numbers_once : (d : Definer N) → Distinct (map (λ (x : Definition N W). x.number) (definitions_of f d)) → Distinct (map (λ (x : Definition N W). x.number) (definitions_of g d))
  numbers_once d h = elim (definitions_case d) [
    | inl gone ↦ subst (λ xs. Distinct (map (λ (x : Definition N W). x.number) xs)) (sym gone) tt
    | inr kept ↦ subst (λ xs. Distinct (map (λ (x : Definition N W). x.number) xs)) (sym kept) h
  ]

  once : (y : Entity N) → Distinct (children f y) → Distinct (children g y)
  once (an_op o) d = elim (op_case o) [
    | inl k ↦ subst (λ m. Distinct (map {B = Entity N} a_region (list_of (λ (q : OpRecord N W). q.regions) m))) (sym k.1) tt
    | inr k ↦ subst (λ m. Distinct (map {B = Entity N} a_region (list_of (λ (q : OpRecord N W). q.regions) m))) (sym k.2) d
  ]
  once (a_block c) d = elim (block_case c) [
    | inl k ↦ subst (λ m. Distinct (map {B = Entity N} an_op (list_of (λ (q : BlockRecord N W). q.ops) m))) (sym k.1) tt
    | inr k ↦ subst (λ m. Distinct (map {B = Entity N} an_op (list_of (λ (q : BlockRecord N W). q.ops) m))) (sym k.2) d
  ]
  once (a_region r) d = elim (region_case r) [
    | inl k ↦ subst (λ m. Distinct (map {B = Entity N} a_block (list_of (λ (q : List N.Block). q) m))) (sym k.1) tt
    | inr k ↦ subst (λ bs. Distinct (map {B = Entity N} a_block bs)) (sym (list_left r k.2)) (Distinct-map a_block (λ x y q. cc) _ (Distinct-filter _ (blocks_of f r) (Distinct-unmap a_block (blocks_of f r) d)))
  ]

  module _ (keys : ℕ) (w : WellFormed f keys) (inside : NamesStayInside f region) where
    linked_out : (r : N.Region) → IsSome (g.regions r) → (o : N.Op) × In r (regions_of g o)
    linked_out r h = elim (region_case r) [
      | inl k ↦ absurd (let z : is_some {T = List N.Block} None ≡ true = sym (ap is_some k.1) ∙ h in cc)
      | inr k ↦ (
          let at = w.nested.regions_linked r (sym (is_some-map (filter (λ b. not (s.is_gone (a_block b)))) (f.regions r)) ∙ sym (ap is_some k.2) ∙ h) in
          let out : Out (an_op at.0) = λ sw. k.0 (sw.0, sw.1, below (In-map a_region r (regions_of f at.0) at.1) sw.2) in
          (at.0, subst (λ m. In r (list_of (λ (q : OpRecord N W). q.regions) m)) (sym (op_left at.0 out)) at.1))
    ]

    formed : WellFormed g keys
    formed = record {
      nested = record {
        one_list = OneList-fewer (children f) (children g) fewer w.nested.one_list;
        once = λ y. once y (w.nested.once y);
        live = λ x y h. live_out x (out_child w.nested x y h) (w.nested.live x y (fewer x y h));
        no_cycle = NoCycle-fewer (children f) (children g) fewer w.nested.no_cycle;
        regions_linked = linked_out;
      };
      numbers = λ d c n h k. w.numbers d c n (some_definition (λ x. x.number) d n h) (some_definition (λ x. x.number) c n k);
      numbers_once = λ d. numbers_once d (w.numbers_once d);
      uses = λ o p u h k. w.uses o p u (some_use o u h) (some_use p u k);
      uses_once = λ o. uses_once o (w.uses_once o);
      named = λ o d h. let was = names_were o d h in named_out d (λ k. was.0 (inside o d was.1 k)) (w.named o d was.1);
      known = λ d t h. w.known d t (some_definition (λ x. x.ty) d t h);
    }

pub removal_tells : {N : Ids} {W : Dialect} (B : Behaviour W) {V : Type 0} (gives : Interpretation W V) (f : Forest N W) (keys : ℕ) (region : N.Region) (g : Forest N W) (count : ℕ) → WellFormed f keys → RemovesUnreached f region g count
    → UnreachedTells B gives f keys region g count
removal_tells B gives f keys region g count w s = record {
  only = only f region g count s;
  formed = formed f region g count s keys w;
  reached_stay = reached_stay f region g count s w.nested;
  none_unreached = none_unreached f region g count s w.nested;
  values = values f region g count s B gives;
  moves_back = moves_back f region g count s;
  shorter = shorter f region g count s w.nested;
}
