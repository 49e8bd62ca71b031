-- What is left of a forest when some pure operations went with all that lies inside them.
use mathlib.Core.Path.{◌≡◌, refl, sym, ap, ◌∙◌, subst}
use Rattle.std.proofs.Common.{ℕ, ◌⊎◌, inl, inr, Bool, true, false, not, cond, Option, Some, None, List, [], ◌∷◌, ◌++◌, map, is_some, IsSome}
use Rattle.std.specs.Prelude.{IsTrue}
use Rattle.std.specs.List.{filter}
use Rattle.std.specs.Option.{option_map, option_map_or}
use Rattle.ir_model.specs.Ids.{Ids, Distinct}
use Rattle.ir_model.specs.Forest.{Dialect, Behaviour, Definer, of_op, of_block, Entity, an_op, a_block, a_region, Definition, OpRecord, BlockRecord, Forest, Value, Operand, Successor, Named, a_value, the_block, definer_entity, owner}
use Rattle.ir_model.specs.Nesting.{In, Within, itself, below, list_of, children, Inside, IsLive, IsLiveNamed, Nested, WellFormed, use_numbers_of, names_of, regions_of, ops_of, blocks_of, definitions_of}
use Rattle.ir_model.specs.Changes.{on_ops}
use Rattle.ir_model.specs.BlockGraph.{implements, pure_interface}
use Rattle.ir_model.proofs.Nests.{In-map, In-map_back, Distinct-map, NoCycle-fewer, OneList-fewer, Within-trans}
use Rattle.ir_model.proofs.Keeps.{list_of-map, is_some-map, Distinct-unmap}
use Rattle.ir_model.proofs.KeepsErase.{gone_or_out}
use Rattle.ir_model.proofs.Filters.{In-filter, In-kept, Distinct-filter}
use Rattle.ir_model_passes.specs.Meaning.{Interpretation, Consistent, OnlyPureGo, SeesTheSame, KeepsMeaning}

-- tests that agree on a list keep the same of it
pub filter_same : {A : Type 0} (p q : A → Bool) (xs : List A) → ((x : A) → In x xs → p x ≡ q x) → filter p xs ≡ filter q xs
filter_same p q [] h = refl
filter_same {A = A} p q (x ∷ xs) h =
    ap (λ t. cond t (x ∷ filter p xs) (filter p xs)) (h x (inl refl))
    ∙ ap (λ (ys : List A). cond (q x) (x ∷ ys) ys) (filter_same p q xs (λ y k. h y (inr k)))

-- tests that follow from each other are one
pub same_test : (a b : Bool) → (a ≡ true → b ≡ true) → (b ≡ true → a ≡ true) → a ≡ b
same_test true b there back = sym (there refl)
same_test false true there back = back refl
same_test false false there back = refl

pub none_is_not_some : {A : Type 0} (x : A) → None ≡ Some x → ⊥
none_is_not_some x e = cc

pub some_one : {A : Type 0} (x y : A) → Some x ≡ Some y → x ≡ y
some_one x y e = cc

module _ {N : Ids} {W : Dialect} (f : Forest N W) (D : N.Op → Type 0) where
  -- it is one of these, or inside one
  abbrev pub Taken : Entity N → Type 0
  Taken x = (o : N.Op) × D o × Inside f (an_op o) x

  -- these are gone with all inside them, each list is without them, and all else is as it was
  pub record TakesOut (g : Forest N W) : Type 0 where
    -- of the operations in a list that stays, the test tells those that are gone
    pub is_gone : N.Op → Bool
    pub dead_gone : (o : N.Op) → D o → IsTrue (is_gone o)
    pub gone_taken : (o : N.Op) → IsTrue (is_gone o) → Taken (an_op o)
    pub ops_gone : (o : N.Op) → Taken (an_op o) → g.ops o ≡ None
    pub ops_left : (o : N.Op) → (Taken (an_op o) → ⊥) → g.ops o ≡ f.ops o
    pub blocks_gone : (c : N.Block) → Taken (a_block c) → g.blocks c ≡ None
    pub blocks_left : (c : N.Block) → (Taken (a_block c) → ⊥) → g.blocks c ≡ option_map (on_ops (filter (λ o. not (is_gone o)))) (f.blocks c)
    pub regions_gone : (r : N.Region) → Taken (a_region r) → g.regions r ≡ None
    pub regions_left : (r : N.Region) → (Taken (a_region r) → ⊥) → g.regions r ≡ f.regions r

module _ {N : Ids} {W : Dialect} (f : Forest N W) (D : N.Op → Type 0) (g : Forest N W) (s : TakesOut f D g) where
  abbrev pub Out : Entity N → Type 0
  Out x = Taken f D x → ⊥

  pub op_case : (o : N.Op) → (g.ops o ≡ None) ⊎ (Out (an_op o) × (g.ops o ≡ f.ops o))
  op_case o = gone_or_out _ (g.ops o) _ (s.ops_gone o) (s.ops_left o)

  pub block_case : (c : N.Block) → (g.blocks c ≡ None) ⊎ (Out (a_block c) × (g.blocks c ≡ option_map (on_ops (filter (λ o. not (s.is_gone o)))) (f.blocks c)))
  block_case c = gone_or_out _ (g.blocks c) _ (s.blocks_gone c) (s.blocks_left c)

  pub region_case : (r : N.Region) → (g.regions r ≡ None) ⊎ (Out (a_region r) × (g.regions r ≡ f.regions r))
  region_case r = gone_or_out _ (g.regions r) _ (s.regions_gone r) (s.regions_left r)

  -- what is left of the operations of a block
  filtered : (m : Option (BlockRecord N W)) → list_of (λ (q : BlockRecord N W). q.ops) (option_map (on_ops (filter (λ o. not (s.is_gone o)))) m) ≡ filter (λ o. not (s.is_gone o)) (list_of (λ q. q.ops) m)
  filtered None = refl
  filtered (Some q) = refl

  pub list_left : (c : N.Block) → g.blocks c ≡ option_map (on_ops (filter (λ o. not (s.is_gone o)))) (f.blocks c) → ops_of g c ≡ filter (λ o. not (s.is_gone o)) (ops_of f c)
  list_left c e = ap (list_of (λ (q : BlockRecord N W). q.ops)) e ∙ filtered (f.blocks c)

  not_dead : (o : N.Op) → not (s.is_gone o) ≡ true → D o → ⊥
  not_dead o e d = let t : s.is_gone o ≡ true = s.dead_gone o d in let k : not true ≡ true = subst (λ q. not q ≡ true) t e in cc

  is_left : (o : N.Op) → Out (an_op o) → not (s.is_gone o) ≡ true
  is_left o alive = by (s.is_gone o) refl
    where
      by : (t : Bool) → s.is_gone o ≡ t → not t ≡ true
      by true e = absurd (alive (s.gone_taken o e))
      by false e = refl

  -- a child that is left: its owner is left, it was a child, and it is no dead operation
  pub child_left : (x y : Entity N) → In x (children g y) → Out y × In x (children f y) × ((o : N.Op) → x ≡ an_op o → D o → ⊥)
  child_left x (an_op o) h = elim (op_case o) [
    | inl gone ↦ absurd (let k : In {A = Entity N} x [] = subst (λ m. In x (map a_region (list_of (λ (q : OpRecord N W). q.regions) m))) gone h in k)
    | inr kept ↦ (
        let k = subst (λ m. In x (map a_region (list_of (λ (q : OpRecord N W). q.regions) m))) kept.1 h in
        (kept.0, k, λ p e d. (let at = In-map_back a_region x (regions_of f o) k in let z : an_op p ≡ a_region at.0 = sym e ∙ at.2 in cc)))
  ]
  child_left x (a_block c) h = elim (block_case c) [
    | inl gone ↦ absurd (let k : In {A = Entity N} x [] = subst (λ m. In x (map an_op (list_of (λ (q : BlockRecord N W). q.ops) m))) gone h in k)
    | inr kept ↦ (
        let at = In-map_back an_op x (filter (λ o. not (s.is_gone o)) (ops_of f c)) (subst (λ os. In x (map an_op os)) (list_left c kept.1) h) in
        let was = In-filter (λ o. not (s.is_gone o)) at.0 (ops_of f c) at.1 in
        (kept.0, subst (λ z. In z (map an_op (ops_of f c))) (sym at.2) (In-map an_op at.0 (ops_of f c) was.0), λ p e d. (let z : an_op p ≡ an_op at.0 = sym e ∙ at.2 in let one : p ≡ at.0 = cc in not_dead at.0 was.1 (subst D one d))))
  ]
  child_left x (a_region r) h = elim (region_case r) [
    | inl gone ↦ absurd (let k : In {A = Entity N} x [] = subst (λ m. In x (map a_block (list_of (λ (q : List N.Block). q) m))) gone h in k)
    | inr kept ↦ (
        let k = subst (λ m. In x (map a_block (list_of (λ (q : List N.Block). q) m))) kept.1 h in
        (kept.0, k, λ p e d. (let at = In-map_back a_block x (blocks_of f r) k in let z : an_op p ≡ a_block at.0 = sym e ∙ at.2 in cc)))
  ]

  pub fewer : (x y : Entity N) → In x (children g y) → In x (children f y)
  fewer x y h = (child_left x y h).1

  -- a child that is left, of what is left, is still one
  pub child_still : (x y : Entity N) → Out y → Out x → In x (children f y) → In x (children g y)
  child_still x (an_op o) out here h = subst (λ m. In x (map a_region (list_of (λ (q : OpRecord N W). q.regions) m))) (sym (s.ops_left o out)) h
  child_still x (a_block c) out here h =
      let at = In-map_back an_op x (ops_of f c) h in
      let alive : Out (an_op at.0) = subst Out at.2 here in
      let k = In-map {B = Entity N} an_op at.0 (filter (λ o. not (s.is_gone o)) (ops_of f c)) (In-kept (λ o. not (s.is_gone o)) at.0 (ops_of f c) at.1 (is_left at.0 alive)) in
      subst (λ z. In z (map an_op (ops_of g c))) (sym at.2) (subst (λ os. In {A = Entity N} (an_op at.0) (map an_op os)) (sym (list_left c (s.blocks_left c out))) k)
  child_still x (a_region r) out here h = subst (λ m. In x (map a_block (list_of (λ (q : List N.Block). q) m))) (sym (s.regions_left r out)) h

  -- what is left inside an entity is still inside it
  pub inside_still : (e x : Entity N) → Inside f e x → Out x → Inside g e x
  inside_still e x itself out = itself
  inside_still e x (below {c = c} h w) out =
      let around : Out c = λ sw. out (sw.0, sw.1, below h sw.2) in
      below (child_still x c around out h) (inside_still e c w around)

  -- what the record of an operation names
  abbrev names_by : Option (OpRecord N W) → List (Named N)
  names_by m = map (λ (x : Operand N). a_value x.value) (list_of (λ (q : OpRecord N W). q.operands) m) ++ map (λ (x : Successor N). the_block x.block) (list_of (λ (q : OpRecord N W). q.successors) m)

  pub names_still : (o : N.Op) (d : Named N) → Out (an_op o) → In d (names_of f o) → In d (names_of g o)
  names_still o d out = subst (λ m. In d (names_by m)) (sym (s.ops_left o out))

  pub names_were : (o : N.Op) (d : Named N) → In d (names_of g o) → Out (an_op o) × In d (names_of f o)
  names_were o d h = elim (op_case o) [
    | inl gone ↦ absurd (let k : In {A = Named N} d [] = subst (λ m. In d (names_by m)) gone h in k)
    | inr kept ↦ (kept.0, subst (λ m. In d (names_by m)) kept.1 h)
  ]

  pub live_out : (x : Entity N) → Out x → IsLive f x → IsLive g x
  live_out (an_op o) out h = ap is_some (s.ops_left o out) ∙ h
  live_out (a_block c) out h = ap is_some (s.blocks_left c out) ∙ is_some-map _ (f.blocks c) ∙ h
  live_out (a_region r) out h = ap is_some (s.regions_left r out) ∙ h

  module _ (n : Nested f) where
    -- what a child is inside of is the child, or has its owner inside
    pub owner_inside : (x y e : Entity N) → In x (children f y) → Inside f e x → (x ≡ e) ⊎ Inside f e y
    owner_inside x y e h itself = inl refl
    owner_inside x y e h (below {c = c} k v) = inr (subst (Within (children f) e) (n.one_list x c y k h) v)

    pub out_child : (x y : Entity N) → In x (children g y) → Out x
    out_child x y h w =
        let left = child_left x y h in
        elim (owner_inside x y (an_op w.0) left.1 w.2) [
          | inl e ↦ left.2 w.0 e w.1
          | inr v ↦ left.0 (w.0, w.1, v)
        ]

  -- ## What stays sees the same

  pub sees_the_same : (B : Behaviour W) {V : Type 0} (gives : Interpretation W V) (a : Value N → V) → Consistent B gives a f → SeesTheSame B gives f g a
  sees_the_same B gives a was = record {
    consistent = λ o r place d e plain at. elim (op_case o) [
      | inl gone ↦ absurd (none_is_not_some r (sym gone ∙ e))
      | inr kept ↦ was o r place d (sym kept.1 ∙ e) plain at
    ];
    values = λ o live. elim (op_case o) [
      | inl gone ↦ absurd (let k : false ≡ true = sym (ap is_some gone) ∙ live in cc)
      | inr kept ↦ ap (λ m. map (λ (p : Operand N). a p.value) (list_of (λ (q : OpRecord N W). q.operands) m)) kept.1
    ];
  }

  module _ (B : Behaviour W) (pures : (o : N.Op) → D o → IsTrue (implements B f pure_interface o)) (n : Nested f) where
    -- where a block stays, those of its operations that are no dead ones are there, and the dead ones are not
    there : (c : N.Block) (o : N.Op) → Out (a_block c) → In o (ops_of f c) → not (s.is_gone o) ≡ is_some (g.ops o)
    there c o out h = by (s.is_gone o) refl
      where
        by : (t : Bool) → s.is_gone o ≡ t → not t ≡ is_some (g.ops o)
        by true e = sym (ap is_some (s.ops_gone o (s.gone_taken o e)))
        by false e =
            let alive : D o → ⊥ = λ d. (let k : true ≡ false = sym (s.dead_gone o d) ∙ e in cc) in
            let child : In {A = Entity N} (an_op o) (map an_op (ops_of f c)) = In-map an_op o (ops_of f c) h in
            let stays : Out (an_op o) = λ sw. elim (owner_inside n (an_op o) (a_block c) (an_op sw.0) child sw.2) [
              | inl q ↦ (let one : o ≡ sw.0 = cc in alive (subst D (sym one) sw.1))
              | inr v ↦ out (sw.0, sw.1, v)
            ] in
            sym (ap is_some (s.ops_left o stays) ∙ n.live (an_op o) (a_block c) child)

    block_was : (c : N.Block) (r : BlockRecord N W) → g.blocks c ≡ Some r → (q : BlockRecord N W) × (f.blocks c ≡ Some q) × (r ≡ on_ops (filter (λ o. is_some (g.ops o))) q)
    block_was c r e = elim (block_case c) [
      | inl gone ↦ absurd (none_is_not_some r (sym gone ∙ e))
      | inr kept ↦ by kept.0 (f.blocks c) refl (sym e ∙ kept.1)
    ]
      where
        by : Out (a_block c) → (m : Option (BlockRecord N W)) → f.blocks c ≡ m → Some r ≡ option_map (on_ops (filter (λ o. not (s.is_gone o)))) m → (q : BlockRecord N W) × (f.blocks c ≡ Some q) × (r ≡ on_ops (filter (λ o. is_some (g.ops o))) q)
        by out None e k = absurd (none_is_not_some r (sym k))
        by out (Some q) e k =
            let same = some_one r (on_ops (filter (λ o. not (s.is_gone o))) q) k in
            let lists : filter (λ o. not (s.is_gone o)) q.ops ≡ filter (λ o. is_some (g.ops o)) q.ops
            = filter_same _ _ q.ops (λ o h. there c o out (subst (λ m. In o (list_of (λ (b : BlockRecord N W). b.ops) m)) (sym e) h)) in
            (q, e, same ∙ ap (λ os. record q { ops = os }) lists)

    taken_gone : (x : Entity N) → Taken f D x → IsLive g x → ⊥
    taken_gone (an_op o) t live = (let k : false ≡ true = sym (ap is_some (s.ops_gone o t)) ∙ live in cc)
    taken_gone (a_block c) t live = (let k : false ≡ true = sym (ap is_some (s.blocks_gone c t)) ∙ live in cc)
    taken_gone (a_region r) t live = (let k : false ≡ true = sym (ap is_some (s.regions_gone r t)) ∙ live in cc)

    -- a pure operation that is gone was taken
    went : (p : N.Op) → IsTrue (implements B f pure_interface p) → g.ops p ≡ None → Out (an_op p) → ⊥
    went p is_pure gone out =
        let none : f.ops p ≡ None = sym (s.ops_left p out) ∙ gone in
        let k : false ≡ true = sym (ap (λ m. option_map_or (λ (q : OpRecord N W). B.op_impls q.kind pure_interface) m false) none) ∙ is_pure in
        cc

    pub only_pure : OnlyPureGo B f g
    only_pure = record {
      stays = λ x live alone. live_out x (λ sw. alone (sw.0, pures sw.0 sw.1, s.ops_gone sw.0 (sw.0, sw.1, itself), sw.2)) live;
      ops = λ o r e. elim (op_case o) [
        | inl gone ↦ absurd (none_is_not_some r (sym gone ∙ e))
        | inr kept ↦ (r, sym kept.1 ∙ e, record { rest = refl; uses = refl })
      ];
      blocks = block_was;
      regions = λ c bs e. elim (region_case c) [
        | inl gone ↦ absurd (none_is_not_some bs (sym gone ∙ e))
        | inr kept ↦ sym kept.1 ∙ e
      ];
      goes = λ x w live. went w.0 w.1 w.2 (λ t. taken_gone x (t.0, t.1, Within-trans (children f) (children f) (an_op t.0) (an_op w.0) x t.2 w.3) live);
    }

    pub keeps_meaning : {V : Type 0} (gives : Interpretation W V) → KeepsMeaning B gives f g
    keeps_meaning gives = record { only_pure = only_pure; values = sees_the_same B gives }

  -- ## What stays is well formed

  -- the definitions are gone, or as they were
  definitions_out : (d : Definer N) → Out (definer_entity N d) → definitions_of g d ≡ definitions_of f d
  definitions_out (of_op o) out = ap (list_of (λ (r : OpRecord N W). r.results)) (s.ops_left o out)
  definitions_out (of_block c) out = ap (list_of (λ (r : BlockRecord N W). r.arguments)) (s.blocks_left c out) ∙ list_of-map (λ r. r.arguments) (on_ops (filter (λ o. not (s.is_gone o)))) (λ r. refl) (f.blocks c)

  definitions_case : (d : Definer N) → (definitions_of g d ≡ []) ⊎ (definitions_of g d ≡ definitions_of f d)
  definitions_case (of_op o) = elim (op_case o) [
    | inl gone ↦ inl (ap (list_of (λ (r : OpRecord N W). r.results)) gone)
    | inr kept ↦ inr (definitions_out (of_op o) kept.0)
  ]
  definitions_case (of_block c) = elim (block_case c) [
    | inl gone ↦ inl (ap (list_of (λ (r : BlockRecord N W). r.arguments)) gone)
    | inr kept ↦ inr (definitions_out (of_block c) kept.0)
  ]

  some_definition : {X : Type 0} (part : Definition N W → X) (d : Definer N) (n : X) → In n (map part (definitions_of g d)) → In n (map part (definitions_of f d))
  some_definition part d n h = elim (definitions_case d) [
    | inl gone ↦ absurd (let k : In n (map part []) = rw gone at h in k)
    | inr kept ↦ rw kept at h
  ]

  named_out : (d : Named N) → Out (owner N d) → IsLiveNamed f d → IsLiveNamed g d
  named_out (a_value v) out h = rw (definitions_out v.definer out) h
  named_out (the_block c) out h = live_out (a_block c) out h

  -- the use numbers in a record
  abbrev uses_by : Option (OpRecord N W) → List N.UseNumber
  uses_by m = map (λ (x : Operand N). x.use_number) (list_of (λ (q : OpRecord N W). q.operands) m) ++ map (λ (x : Successor N). x.use_number) (list_of (λ (q : OpRecord N W). q.successors) m)

  some_use : (o : N.Op) (u : N.UseNumber) → In u (use_numbers_of g o) → In u (use_numbers_of f o)
  some_use o u h = elim (op_case o) [
    | inl gone ↦ absurd (let k : In {A = N.UseNumber} u [] = subst (λ m. In u (uses_by m)) gone h in k)
    | inr kept ↦ subst (λ m. In u (uses_by m)) kept.1 h
  ]

  uses_once : (o : N.Op) → Distinct (use_numbers_of f o) → Distinct (use_numbers_of g o)
  uses_once o h = elim (op_case o) [
    | inl gone ↦ subst (λ m. Distinct (uses_by m)) (sym gone) tt
    | inr kept ↦ subst (λ m. Distinct (uses_by m)) (sym kept.1) h
  ]

  numbers_once : (d : Definer N) → Distinct (map (λ (x : Definition N W). x.number) (definitions_of f d)) → Distinct (map (λ (x : Definition N W). x.number) (definitions_of g d))
  numbers_once d h = elim (definitions_case d) [
    | inl gone ↦ subst (λ xs. Distinct (map (λ (x : Definition N W). x.number) xs)) (sym gone) tt
    | inr kept ↦ subst (λ xs. Distinct (map (λ (x : Definition N W). x.number) xs)) (sym kept) h
  ]

  -- a list of children is what it was, or without the dead operations, or empty
  once : (y : Entity N) → Distinct (children f y) → Distinct (children g y)
  once (an_op o) d = elim (op_case o) [
    | inl gone ↦ subst (λ m. Distinct (map {B = Entity N} a_region (list_of (λ (q : OpRecord N W). q.regions) m))) (sym gone) tt
    | inr kept ↦ subst (λ m. Distinct (map {B = Entity N} a_region (list_of (λ (q : OpRecord N W). q.regions) m))) (sym kept.1) d
  ]
  once (a_block c) d = elim (block_case c) [
    | inl gone ↦ subst (λ m. Distinct (map {B = Entity N} an_op (list_of (λ (q : BlockRecord N W). q.ops) m))) (sym gone) tt
    | inr kept ↦ subst (λ os. Distinct (map {B = Entity N} an_op os)) (sym (list_left c kept.1)) (Distinct-map an_op (λ x y q. cc) _ (Distinct-filter _ (ops_of f c) (Distinct-unmap an_op (ops_of f c) d)))
  ]
  once (a_region r) d = elim (region_case r) [
    | inl gone ↦ subst (λ m. Distinct (map {B = Entity N} a_block (list_of (λ (q : List N.Block). q) m))) (sym gone) tt
    | inr kept ↦ subst (λ m. Distinct (map {B = Entity N} a_block (list_of (λ (q : List N.Block). q) m))) (sym kept.1) d
  ]

  module _ (keys : ℕ) (w : WellFormed f keys) (users : (p user : N.Op) (d : Named N) → D p → In d (names_of f user) → Inside f (an_op p) (owner N d) → Taken f D (an_op user)) where
    linked_out : (r : N.Region) → IsSome (g.regions r) → (o : N.Op) × In r (regions_of g o)
    linked_out r h = elim (region_case r) [
      | inl gone ↦ absurd (let k : is_some {T = List N.Block} None ≡ true = sym (ap is_some gone) ∙ h in cc)
      | inr kept ↦ (
          let at = w.nested.regions_linked r (sym (ap is_some kept.1) ∙ h) in
          let out : Out (an_op at.0) = λ sw. kept.0 (sw.0, sw.1, below (In-map a_region r (regions_of f at.0) at.1) sw.2) in
          (at.0, subst (λ m. In r (list_of (λ (q : OpRecord N W). q.regions) m)) (sym (s.ops_left at.0 out)) at.1))
    ]

    pub formed : WellFormed g keys
    formed = record {
      nested = record {
        one_list = OneList-fewer (children f) (children g) fewer w.nested.one_list;
        once = λ y. once y (w.nested.once y);
        live = λ x y h. live_out x (out_child w.nested x y h) (w.nested.live x y (fewer x y h));
        no_cycle = NoCycle-fewer (children f) (children g) fewer w.nested.no_cycle;
        regions_linked = linked_out;
      };
      numbers = λ d c n h k. w.numbers d c n (some_definition (λ x. x.number) d n h) (some_definition (λ x. x.number) c n k);
      numbers_once = λ d. numbers_once d (w.numbers_once d);
      uses = λ o p u h k. w.uses o p u (some_use o u h) (some_use p u k);
      uses_once = λ o. uses_once o (w.uses_once o);
      named = λ o d h. let was = names_were o d h in named_out d (λ sw. was.0 (users sw.0 o d sw.1 was.1 sw.2)) (w.named o d was.1);
      known = λ d t h. w.known d t (some_definition (λ x. x.ty) d t h);
    }
