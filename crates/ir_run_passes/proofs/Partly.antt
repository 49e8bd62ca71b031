-- What is left while the dead operations of a block go: some of them are gone with all inside them, and all else is as it was.
use mathlib.Core.Path.{◌≡◌, refl, sym, ap, ◌∙◌, subst}
use Rattle.std.proofs.Common.{ℕ, suc, ◌+◌, ◌⊎◌, inl, inr, Bool, true, false, not, cond, ◌||◌, Option, Some, None, List, [], ◌∷◌, ◌++◌, map, is_some, arith}
use Rattle.std.proofs.lemmas.List.Sums.{sum_by-cons}
use Rattle.std.specs.Prelude.{IsTrue, count_by}
use Rattle.std.specs.List.{filter, list_any}
use Rattle.std.specs.Option.{option_map, option_map_or}
use Rattle.ir_model.specs.Ids.{Ids, Distinct}
use Rattle.ir_model.specs.Forest.{Dialect, Behaviour, Entity, an_op, a_block, a_region, OpRecord, BlockRecord, Forest, Operand, Successor, Named, a_value, the_block, same_entity, owner}
use Rattle.ir_model.specs.Nesting.{In, Within, itself, below, list_of, children, Inside, IsClosed, IsLive, Nested, names_of, regions_of, ops_of, blocks_of}
use Rattle.ir_model.specs.Changes.{on_ops, on_regions, but, Removes}
use Rattle.ir_model.specs.Subtree.{IsSubtreeSize}
use Rattle.ir_model.specs.BlockGraph.{implements, pure_interface}
use Rattle.ir_model.specs.Dead.{Dead, dead, GoesWith, inside_it, inside_dead, IsSwept, Sweeps}
use Rattle.ir_model.proofs.Loops.{Lawful}
use Rattle.ir_model.proofs.Nests.{In-map, In-map_back, not_in-Absent, Within-fewer}
use Rattle.ir_model.proofs.Keeps.{is_some-map, Distinct-unmap}
use Rattle.ir_model.proofs.KeepsErase.{same_self, same_tells}
use Rattle.ir_model.proofs.Filters.{In-filter, In-kept}

-- ## Tests and lists

-- what isn't true is false
not_true : (b : Bool) → (b ≡ true → ⊥) → b ≡ false
not_true true h = absurd (h refl)
not_true false h = refl

-- a test that is true of all keeps the list
all_kept : {A : Type 0} (xs : List A) → filter (λ x. true) xs ≡ xs
all_kept [] = refl
all_kept (x ∷ xs) = ap (λ ys. x ∷ ys) (all_kept xs)

-- one test after the other is both at once
both_kept : {A : Type 0} (p q : A → Bool) (xs : List A) → filter (λ x. not (q x)) (filter (λ x. not (p x)) xs) ≡ filter (λ x. not (p x || q x)) xs
both_kept p q [] = refl
both_kept {A = A} p q (x ∷ xs) = by (p x) (both_kept p q xs)
  where
    two : (b : Bool) (ys zs : List A) → ys ≡ zs → cond (not b) (x ∷ ys) ys ≡ cond (not b) (x ∷ zs) zs
    two b ys zs e = ap (λ (ws : List A). cond (not b) (x ∷ ws) ws) e

    by : (a : Bool) → filter (λ y. not (q y)) (filter (λ y. not (p y)) xs) ≡ filter (λ y. not (p y || q y)) xs
        → filter (λ y. not (q y)) (cond (not a) (x ∷ filter (λ y. not (p y)) xs) (filter (λ y. not (p y)) xs)) ≡ cond (not (a || q x)) (x ∷ filter (λ y. not (p y || q y)) xs) (filter (λ y. not (p y || q y)) xs)
    by true more = more
    by false more = two (q x) _ _ more

-- what a test adds to a count
abbrev weight : Bool → ℕ
weight t = cond t 1 0

-- tests that agree on a list count alike
count_same : {A : Type 0} (p q : A → Bool) (xs : List A) → ((x : A) → In x xs → p x ≡ q x) → count_by p xs ≡ count_by q xs
count_same p q [] h = refl
count_same p q (x ∷ xs) h =
    let a = sum_by-cons (λ y. cond (p y) 1 0) x xs in
    let b = sum_by-cons (λ y. cond (q y) 1 0) x xs in
    let e : weight (p x) ≡ weight (q x) = ap weight (h x (inl refl)) in
    let more = count_same p q xs (λ y k. h y (inr k)) in
    omega (arith, a, b, e, more)

or_false : (b : Bool) → (b || false) ≡ b
or_false true = refl
or_false false = refl

-- with one that stands in the list once, the test is true of one more
count_more : {A : Type 0} (same : A → A → Bool) → ((x y : A) → same x y ≡ true → x ≡ y) → ((x : A) → same x x ≡ true)
    → (p : A → Bool) (o : A) (xs : List A) → Distinct xs → In o xs → p o ≡ false → count_by (λ x. p x || same x o) xs ≡ suc (count_by p xs)
count_more same tells self p o [] d h out = elim h [ ]
count_more {A = A} same tells self p o (x ∷ xs) d (inl s) out =
    let a = sum_by-cons (λ y. cond (p y || same y o) 1 0) x xs in
    let b = sum_by-cons (λ y. cond (p y) 1 0) x xs in
    let at : same x o ≡ true = subst (λ z. same x z ≡ true) (sym s) (self x) in
    let no : p x ≡ false = subst (λ z. p z ≡ false) s out in
    let here : weight (p x || same x o) ≡ weight true = ap (λ t. weight (t || same x o)) no ∙ ap weight at in
    let was : weight (p x) ≡ weight false = ap weight no in
    let apart : (y : A) → In y xs → same y o ≡ false = λ y k. not_true (same y o) (λ t. not_in-Absent x xs d.0 (subst (λ z. In z xs) (tells y o t ∙ s) k)) in
    let rest = count_same (λ y. p y || same y o) p xs (λ y k. ap (λ t. p y || t) (apart y k) ∙ or_false (p y)) in
    omega (arith, a, b, here, was, rest)
count_more {A = A} same tells self p o (x ∷ xs) d (inr k) out =
    let a = sum_by-cons (λ y. cond (p y || same y o) 1 0) x xs in
    let b = sum_by-cons (λ y. cond (p y) 1 0) x xs in
    let apart : same x o ≡ false = not_true (same x o) (λ t. not_in-Absent x xs d.0 (subst (λ z. In z xs) (sym (tells x o t)) k)) in
    let here : weight (p x || same x o) ≡ weight (p x) = ap (λ t. weight (p x || t)) apart ∙ ap weight (or_false (p x)) in
    let rest = count_more same tells self p o xs d.1 k out in
    omega (arith, a, b, here, rest)

-- ## What is left

module _ {N : Ids} {W : Dialect} (B : Behaviour W) (L : Lawful N) (f : Forest N W) (b : N.Block) (n : Nested f) where
  abbrev Kept_ops : (N.Op → Bool) → Option (BlockRecord N W) → Option (BlockRecord N W)
  Kept_ops gone m = option_map (on_ops (filter (λ o. not (gone o)))) m

  -- some dead operations are gone, with all inside them; the list is without them; so many they are; all else is as it was
  pub record Partly (g : Forest N W) (count : ℕ) : Type 0 where
    pub gone : N.Op → Bool
    pub are_dead : (o : N.Op) → IsTrue (gone o) → Dead B f b o
    pub taken : Entity N → Bool
    pub by_one : (x : Entity N) → IsTrue (taken x) → (o : N.Op) × IsTrue (gone o) × Inside f (an_op o) x
    pub with_all : (x : Entity N) (o : N.Op) → IsTrue (gone o) → Inside f (an_op o) x → IsTrue (taken x)
    pub ops : (o : N.Op) → g.ops o ≡ cond (taken (an_op o)) None (f.ops o)
    pub blocks : (c : N.Block) → g.blocks c ≡ cond (taken (a_block c)) None (Kept_ops gone (f.blocks c))
    pub regions : (r : N.Region) → g.regions r ≡ cond (taken (a_region r)) None (f.regions r)
    pub counted : count ≡ count_by gone (ops_of f b)

  kept_whole : (m : Option (BlockRecord N W)) → Kept_ops (λ o. false) m ≡ m
  kept_whole None = refl
  kept_whole (Some r) = ap (λ os. Some (record r { ops = os })) (all_kept r.ops)

  count_none : (xs : List N.Op) → count_by (λ o. false) xs ≡ 0
  count_none [] = refl
  count_none (x ∷ xs) = let a = sum_by-cons (λ (y : N.Op). 0) x xs in let more = count_none xs in omega (arith, a, more)

  -- at first nothing is gone
  pub untouched : Partly f 0
  untouched = record {
    gone = λ o. false;
    are_dead = λ o e. absurd cc;
    taken = λ x. false;
    by_one = λ x e. absurd cc;
    with_all = λ x o e i. absurd cc;
    ops = λ o. refl;
    blocks = λ c. sym (kept_whole (f.blocks c));
    regions = λ r. refl;
    counted = sym (count_none (ops_of f b));
  }

  -- what a child is inside of is the child, or has its owner inside
  swept_child : (x y e : Entity N) → In x (children f y) → Inside f e x → (x ≡ e) ⊎ Inside f e y
  swept_child x y e h itself = inl refl
  swept_child x y e h (below {c = c} k v) = inr (subst (Within (children f) e) (n.one_list x c y k h) v)

  -- of two that hold one, one is inside the other
  nested_two : (e c x : Entity N) → Inside f e x → Inside f c x → Inside f e c ⊎ Inside f c e
  nested_two e c x itself w = inr w
  nested_two e c x (below h v) itself = inl (below h v)
  nested_two e c x (below {c = p} h v) (below {c = q} k w) = nested_two e c p v (subst (Within (children f) c) (n.one_list x q p k h) w)

  -- no operation of the block is inside another one
  siblings : (o p : N.Op) → In o (ops_of f b) → In p (ops_of f b) → Inside f (an_op p) (an_op o) → o ≡ p
  siblings o p h k w = elim (swept_child (an_op o) (a_block b) (an_op p) (In-map an_op o (ops_of f b) h) w) [
    | inl e ↦ cc
    | inr v ↦ absurd (n.no_cycle (an_op p) (a_block b) (In-map an_op p (ops_of f b) k) v)
  ]

  dead_here : (o : N.Op) → Dead B f b o → In o (ops_of f b)
  dead_here o (dead here pure goes) = here

  -- what the record of an operation names
  abbrev names_by : Option (OpRecord N W) → List (Named N)
  names_by m = map (λ (x : Operand N). a_value x.value) (list_of (λ (q : OpRecord N W). q.operands) m) ++ map (λ (x : Successor N). the_block x.block) (list_of (λ (q : OpRecord N W). q.successors) m)

  module _ (g : Forest N W) (count : ℕ) (s : Partly g count) where
    abbrev Left : Entity N → Type 0
    Left x = s.taken x ≡ false

    op_left : (o : N.Op) → Left (an_op o) → g.ops o ≡ f.ops o
    op_left o e = s.ops o ∙ ap (λ t. cond t None (f.ops o)) e

    op_gone : (o : N.Op) → s.taken (an_op o) ≡ true → g.ops o ≡ None
    op_gone o e = s.ops o ∙ ap (λ t. cond t None (f.ops o)) e

    block_left : (c : N.Block) → Left (a_block c) → g.blocks c ≡ Kept_ops s.gone (f.blocks c)
    block_left c e = s.blocks c ∙ ap (λ t. cond t None (Kept_ops s.gone (f.blocks c))) e

    block_gone : (c : N.Block) → s.taken (a_block c) ≡ true → g.blocks c ≡ None
    block_gone c e = s.blocks c ∙ ap (λ t. cond t None (Kept_ops s.gone (f.blocks c))) e

    region_left : (r : N.Region) → Left (a_region r) → g.regions r ≡ f.regions r
    region_left r e = s.regions r ∙ ap (λ t. cond t None (f.regions r)) e

    region_gone : (r : N.Region) → s.taken (a_region r) ≡ true → g.regions r ≡ None
    region_gone r e = s.regions r ∙ ap (λ t. cond t None (f.regions r)) e

    either : (t : Bool) → (t ≡ true) ⊎ (t ≡ false)
    either true = inl refl
    either false = inr refl

    filtered : (m : Option (BlockRecord N W)) → list_of (λ (q : BlockRecord N W). q.ops) (Kept_ops s.gone m) ≡ filter (λ o. not (s.gone o)) (list_of (λ q. q.ops) m)
    filtered None = refl
    filtered (Some q) = refl

    ops_left : (c : N.Block) → Left (a_block c) → ops_of g c ≡ filter (λ o. not (s.gone o)) (ops_of f c)
    ops_left c e = ap (list_of (λ (q : BlockRecord N W). q.ops)) (block_left c e) ∙ filtered (f.blocks c)

    not_gone : (t : Bool) → not t ≡ true → t ≡ false
    not_gone true e = absurd cc
    not_gone false e = refl

    -- a child that is left: its owner is left, it was a child, and it is no operation that is gone
    child_left : (x y : Entity N) → In x (children g y) → Left y × In x (children f y) × ((o : N.Op) → x ≡ an_op o → s.gone o ≡ false)
    child_left x (an_op o) h = elim (either (s.taken (an_op o))) [
      | inl e ↦ absurd (let k : In {A = Entity N} x [] = subst (λ m. In x (map a_region (list_of (λ (q : OpRecord N W). q.regions) m))) (op_gone o e) h in k)
      | inr e ↦ (
          let k = subst (λ m. In x (map a_region (list_of (λ (q : OpRecord N W). q.regions) m))) (op_left o e) h in
          (e, k, λ p q. (let at = In-map_back a_region x (regions_of f o) k in let z : an_op p ≡ a_region at.0 = sym q ∙ at.2 in absurd cc)))
    ]
    child_left x (a_block c) h = elim (either (s.taken (a_block c))) [
      | inl e ↦ absurd (let k : In {A = Entity N} x [] = subst (λ m. In x (map an_op (list_of (λ (q : BlockRecord N W). q.ops) m))) (block_gone c e) h in k)
      | inr e ↦ (
          let at = In-map_back an_op x (filter (λ o. not (s.gone o)) (ops_of f c)) (subst (λ os. In x (map an_op os)) (ops_left c e) h) in
          let was = In-filter (λ o. not (s.gone o)) at.0 (ops_of f c) at.1 in
          (e, subst (λ z. In z (map an_op (ops_of f c))) (sym at.2) (In-map an_op at.0 (ops_of f c) was.0), λ p q. (let z : an_op p ≡ an_op at.0 = sym q ∙ at.2 in let one : p ≡ at.0 = cc in subst (λ i. s.gone i ≡ false) (sym one) (not_gone (s.gone at.0) was.1))))
    ]
    child_left x (a_region r) h = elim (either (s.taken (a_region r))) [
      | inl e ↦ absurd (let k : In {A = Entity N} x [] = subst (λ m. In x (map a_block (list_of (λ (q : List N.Block). q) m))) (region_gone r e) h in k)
      | inr e ↦ (
          let k = subst (λ m. In x (map a_block (list_of (λ (q : List N.Block). q) m))) (region_left r e) h in
          (e, k, λ p q. (let at = In-map_back a_block x (blocks_of f r) k in let z : an_op p ≡ a_block at.0 = sym q ∙ at.2 in absurd cc)))
    ]

    fewer : (x y : Entity N) → In x (children g y) → In x (children f y)
    fewer x y h = (child_left x y h).1

    -- a child that is left, of what is left, is still one
    child_still : (x y : Entity N) → Left y → Left x → In x (children f y) → In x (children g y)
    child_still x (an_op o) out here h = subst (λ m. In x (map a_region (list_of (λ (q : OpRecord N W). q.regions) m))) (sym (op_left o out)) h
    child_still x (a_block c) out here h =
        let at = In-map_back an_op x (ops_of f c) h in
        let alive : s.gone at.0 ≡ false = not_true (s.gone at.0) (λ e. (let t : s.taken x ≡ true = s.with_all x at.0 e (subst (λ z. Inside f (an_op at.0) z) (sym at.2) itself) in let q : true ≡ false = sym t ∙ here in cc)) in
        let k = In-map {B = Entity N} an_op at.0 (filter (λ o. not (s.gone o)) (ops_of f c)) (In-kept (λ o. not (s.gone o)) at.0 (ops_of f c) at.1 (ap not alive)) in
        subst (λ z. In z (map an_op (ops_of g c))) (sym at.2) (subst (λ os. In {A = Entity N} (an_op at.0) (map an_op os)) (sym (ops_left c out)) k)
    child_still x (a_region r) out here h = subst (λ m. In x (map a_block (list_of (λ (q : List N.Block). q) m))) (sym (region_left r out)) h

    names_still : (o : N.Op) (d : Named N) → Left (an_op o) → In d (names_of f o) → In d (names_of g o)
    names_still o d e = subst (λ m. In d (names_by m)) (sym (op_left o e))

    names_were : (o : N.Op) (d : Named N) → In d (names_of g o) → Left (an_op o) × In d (names_of f o)
    names_were o d h = elim (either (s.taken (an_op o))) [
      | inl e ↦ absurd (let k : In {A = Named N} d [] = subst (λ m. In d (names_by m)) (op_gone o e) h in k)
      | inr e ↦ (e, subst (λ m. In d (names_by m)) (op_left o e) h)
    ]

    -- the block is in no operation of its own
    block_stays : Left (a_block b)
    block_stays = not_true (s.taken (a_block b)) (λ e. (let t = s.by_one (a_block b) e in n.no_cycle (an_op t.0) (a_block b) (In-map an_op t.0 (ops_of f b) (dead_here t.0 (s.are_dead t.0 t.1))) t.2))

    pub block_live : IsLive f (a_block b) → IsLive g (a_block b)
    block_live live = ap is_some (block_left b block_stays) ∙ is_some-map _ (f.blocks b) ∙ live

    module _ (o : N.Op) (here : In o (ops_of f b)) (alive : s.gone o ≡ false) where
      -- nothing inside an operation that is left is gone
      stays : (x : Entity N) → Inside f (an_op o) x → Left x
      stays x w = not_true (s.taken x) (λ e. by (s.by_one x e))
        where
          differ : (p : N.Op) → IsTrue (s.gone p) → o ≡ p → ⊥
          differ p e same = let q : s.gone p ≡ false = subst (λ i. s.gone i ≡ false) same alive in let z : true ≡ false = sym e ∙ q in cc

          by : ((p : N.Op) × IsTrue (s.gone p) × Inside f (an_op p) x) → ⊥
          by t = elim (nested_two (an_op o) (an_op t.0) x w t.2) [
            | inl v ↦ differ t.0 t.1 (sym (siblings t.0 o (dead_here t.0 (s.are_dead t.0 t.1)) here v))
            | inr v ↦ differ t.0 t.1 (siblings o t.0 here (dead_here t.0 (s.are_dead t.0 t.1)) v)
          ]

      inside_still : (x : Entity N) → Inside f (an_op o) x → Inside g (an_op o) x
      inside_still x itself = itself
      inside_still x (below {c = c} h w) = below (child_still x c (stays c w) (stays x (below h w)) h) (inside_still c w)

    inside_was : (e x : Entity N) → Inside g e x → Inside f e x
    inside_was e x w = Within-fewer (children f) (children g) fewer e x w

    -- ## One more goes

    module _ (h : Forest N W) (o : N.Op) (size : ℕ) (listed : In o (ops_of g b)) (is_pure : IsTrue (implements B g pure_interface o)) (closed : IsClosed g (an_op o))
        (inside : IsSubtreeSize g (an_op o) size) (removes : Removes g (an_op o) h) where
      child : Left (a_block b) × In {A = Entity N} (an_op o) (map an_op (ops_of f b)) × ((p : N.Op) → ◌≡◌ {A = Entity N} (an_op o) (an_op p) → s.gone p ≡ false)
      child = child_left (an_op o) (a_block b) (In-map an_op o (ops_of g b) listed)

      here : In o (ops_of f b)
      here = let at = In-map_back an_op (an_op o) (ops_of f b) child.1 in let e : o ≡ at.0 = cc in subst (λ p. In p (ops_of f b)) (sym e) at.1

      alive : s.gone o ≡ false
      alive = child.2 o refl

      goes_with : (user : N.Op) (d : Named N) → In d (names_of f user) → Inside f (an_op o) (owner N d) → GoesWith B f b o user
      goes_with user d named i = elim (either (s.taken (an_op user))) [
        | inl e ↦ (let t = s.by_one (an_op user) e in inside_dead {p = t.0} (s.are_dead t.0 t.1) t.2)
        | inr e ↦ inside_it (inside_was (an_op o) (an_op user) (closed user d (names_still user d e named) (inside_still o here alive (owner N d) i)))
      ]

      -- it is dead
      is_dead : Dead B f b o
      is_dead = dead here (subst (λ m. option_map_or (λ (q : OpRecord N W). B.op_impls q.kind pure_interface) m false ≡ true) (op_left o (stays o here alive (an_op o) itself)) is_pure) goes_with

      -- whether something stands inside it
      abbrev within : Entity N → Bool
      within x = list_any (λ y. same_entity N x y) inside.0

      any_listed : (x : Entity N) (xs : List (Entity N)) → list_any (λ y. same_entity N x y) xs ≡ true → In x xs
      any_listed x [] e = absurd cc
      any_listed x (y ∷ ys) e = by (any_listed x ys) (same_entity N x y) refl e
        where
          by : (list_any (λ z. same_entity N x z) ys ≡ true → In x ys) → (t : Bool) → same_entity N x y ≡ t → (t || list_any (λ z. same_entity N x z) ys) ≡ true → In x (y ∷ ys)
          by more true q r = inl (same_tells N L x y q)
          by more false q r = inr (more r)

      listed_any : (x : Entity N) (xs : List (Entity N)) → In x xs → list_any (λ y. same_entity N x y) xs ≡ true
      listed_any x [] k = elim k [ ]
      listed_any x (y ∷ ys) (inl e) = ap (λ t. t || list_any (λ z. same_entity N x z) ys) (subst (λ z. same_entity N x z ≡ true) e (same_self N L x))
      listed_any x (y ∷ ys) (inr k) = ap (λ t. same_entity N x y || t) (listed_any x ys k) ∙ or_true (same_entity N x y)
        where
          or_true : (t : Bool) → (t || true) ≡ true
          or_true true = refl
          or_true false = refl

      within_is : (x : Entity N) → within x ≡ true → Inside g (an_op o) x
      within_is x e = (inside.1.exact x).0 (any_listed x inside.0 e)

      is_within : (x : Entity N) → Inside g (an_op o) x → within x ≡ true
      is_within x w = listed_any x inside.0 ((inside.1.exact x).1 w)

      abbrev gone_now : N.Op → Bool
      gone_now p = s.gone p || N.same_op p o

      abbrev taken_now : Entity N → Bool
      taken_now x = s.taken x || within x

      dead_now : (p : N.Op) → IsTrue (gone_now p) → Dead B f b p
      dead_now p e = by (s.gone p) refl e
        where
          by : (t : Bool) → s.gone p ≡ t → (t || N.same_op p o) ≡ true → Dead B f b p
          by true q r = s.are_dead p q
          by false q r = subst (λ i. Dead B f b i) (sym ((L.ops p o).0 r)) is_dead

      itself_now : gone_now o ≡ true
      itself_now = ap (λ t. t || N.same_op o o) alive ∙ (L.ops o o).1 refl

      left_true : (t u : Bool) → t ≡ true → (t || u) ≡ true
      left_true t u e = ap (λ v. v || u) e

      by_one_now : (x : Entity N) → IsTrue (taken_now x) → (p : N.Op) × IsTrue (gone_now p) × Inside f (an_op p) x
      by_one_now x e = by (s.taken x) refl e
        where
          by : (t : Bool) → s.taken x ≡ t → (t || within x) ≡ true → (p : N.Op) × IsTrue (gone_now p) × Inside f (an_op p) x
          by true q r = let t = s.by_one x q in (t.0, left_true (s.gone t.0) (N.same_op t.0 o) t.1, t.2)
          by false q r = (o, itself_now, inside_was (an_op o) x (within_is x r))

      with_all_now : (x : Entity N) (p : N.Op) → IsTrue (gone_now p) → Inside f (an_op p) x → IsTrue (taken_now x)
      with_all_now x p e i = by (s.gone p) refl e
        where
          by : (t : Bool) → s.gone p ≡ t → (t || N.same_op p o) ≡ true → (s.taken x || within x) ≡ true
          by true q r = left_true (s.taken x) (within x) (s.with_all x p q i)
          by false q r = other (s.taken x) (is_within x (inside_still o here alive x (subst (λ j. Inside f (an_op j) x) ((L.ops p o).0 r) i)))
            where
              other : (t : Bool) → within x ≡ true → (t || within x) ≡ true
              other true w = refl
              other false w = w

      -- a record after the removal: gone, or as it was but for the operation
      by_case : {R : Type 0} (x : Entity N) (now was : Option R) (drops : Option R → Option R) (start kept : Option R)
          → (Inside g (an_op o) x → now ≡ None) → ((Inside g (an_op o) x → ⊥) → now ≡ drops was) → was ≡ cond (s.taken x) None start
          → drops None ≡ None → drops start ≡ kept → now ≡ cond (taken_now x) None kept
      by_case {R = R} x now was drops start kept gone out is none some = by (either (s.taken x)) (either (within x))
        where
          outside : within x ≡ false → Inside g (an_op o) x → ⊥
          outside e w = let t : true ≡ false = sym (is_within x w) ∙ e in cc

          by : (s.taken x ≡ true) ⊎ (s.taken x ≡ false) → (within x ≡ true) ⊎ (within x ≡ false) → now ≡ cond (s.taken x || within x) None kept
          by (inl t) (inl v) = gone (within_is x v) ∙ sym (ap (λ q. cond (q || within x) None kept) t)
          by (inl t) (inr v) = out (outside v) ∙ ap drops (is ∙ ap (λ q. cond q None start) t) ∙ none ∙ sym (ap (λ q. cond (q || within x) None kept) t)
          by (inr t) (inl v) = gone (within_is x v) ∙ sym (ap (λ q. cond (q || within x) None kept) t ∙ ap (λ q. cond q None kept) v)
          by (inr t) (inr v) = out (outside v) ∙ ap drops (is ∙ ap (λ q. cond q None start) t) ∙ some ∙ sym (ap (λ q. cond (q || within x) None kept) t ∙ ap (λ q. cond q None kept) v)

      regions_whole : (m : Option (OpRecord N W)) → option_map (on_regions (but {N = N} (an_op o) a_region)) m ≡ m
      regions_whole None = refl
      regions_whole (Some r) = ap (λ rs. Some (record r { regions = rs })) (all_kept r.regions)

      blocks_whole : (m : Option (List N.Block)) → option_map (but {N = N} (an_op o) a_block) m ≡ m
      blocks_whole None = refl
      blocks_whole (Some r) = ap (λ bs. Some bs) (all_kept r)

      list_less : (m : Option (BlockRecord N W)) → option_map (on_ops (but {N = N} (an_op o) an_op)) (Kept_ops s.gone m) ≡ Kept_ops gone_now m
      list_less None = refl
      list_less (Some r) = ap (λ os. Some (record r { ops = os })) (both_kept s.gone (λ p. N.same_op p o) r.ops)

      pub one_more : Partly h (suc count)
      one_more = record {
        gone = gone_now;
        are_dead = dead_now;
        taken = taken_now;
        by_one = by_one_now;
        with_all = with_all_now;
        ops = λ p. by_case (an_op p) (h.ops p) (g.ops p) (option_map (on_regions (but {N = N} (an_op o) a_region))) (f.ops p) (f.ops p) (removes.ops_inside p) (removes.ops_outside p) (s.ops p) refl (regions_whole (f.ops p));
        blocks = λ c. by_case (a_block c) (h.blocks c) (g.blocks c) (option_map (on_ops (but {N = N} (an_op o) an_op))) (Kept_ops s.gone (f.blocks c)) (Kept_ops gone_now (f.blocks c)) (removes.blocks_inside c) (removes.blocks_outside c) (s.blocks c) refl (list_less (f.blocks c));
        regions = λ r. by_case (a_region r) (h.regions r) (g.regions r) (option_map (but {N = N} (an_op o) a_block)) (f.regions r) (f.regions r) (removes.regions_inside r) (removes.regions_outside r) (s.regions r) refl (blocks_whole (f.regions r));
        counted = ap suc s.counted ∙ sym (count_more N.same_op (λ p q. (L.ops p q).0) (λ p. (L.ops p p).1 refl) s.gone o (ops_of f b) (Distinct-unmap an_op (ops_of f b) (n.once (a_block b))) here alive);
      }

    -- ## None is left

    module _ (none : (o : N.Op) → In o (ops_of g b) → IsTrue (implements B g pure_interface o) → IsClosed g (an_op o) → ⊥) where
      -- an operation whose users are inside it or gone is gone
      one_gone : (o : N.Op) → In o (ops_of f b) → IsTrue (implements B f pure_interface o)
          → ((user : N.Op) (d : Named N) → In d (names_of f user) → Inside f (an_op o) (owner N d) → Inside f (an_op o) (an_op user) ⊎ IsTrue (s.taken (an_op user))) → IsTrue (s.gone o)
      one_gone o here is_pure goes = elim (either (s.gone o)) [ inl e ↦ e | inr e ↦ absurd (none o (still e) (pure_still e) (closed e)) ]
        where
          still : s.gone o ≡ false → In o (ops_of g b)
          still e = subst (λ os. In o os) (sym (ops_left b block_stays)) (In-kept (λ p. not (s.gone p)) o (ops_of f b) here (ap not e))

          pure_still : s.gone o ≡ false → IsTrue (implements B g pure_interface o)
          pure_still e = subst (λ m. option_map_or (λ (q : OpRecord N W). B.op_impls q.kind pure_interface) m false ≡ true) (sym (op_left o (stays o here e (an_op o) itself))) is_pure

          closed : s.gone o ≡ false → IsClosed g (an_op o)
          closed e user d named i =
              let was = names_were user d named in
              elim (goes user d was.1 (inside_was (an_op o) (owner N d) i)) [
                | inl v ↦ inside_still o here e (an_op user) v
                | inr t ↦ absurd (let q : true ≡ false = sym t ∙ was.0 in cc)
              ]

      mutual
        all_gone : (o : N.Op) → Dead B f b o → IsTrue (s.gone o)
        all_gone o (dead here is_pure goes) = one_gone o here is_pure (λ user d h i. in_or_gone o user (goes user d h i))

        in_or_gone : (o user : N.Op) → GoesWith B f b o user → Inside f (an_op o) (an_op user) ⊎ IsTrue (s.taken (an_op user))
        in_or_gone o user (inside_it v) = inl v
        in_or_gone o user (inside_dead {p = p} d v) = inr (s.with_all (an_op user) p (all_gone p d) v)

      swept_taken : (x : Entity N) → IsSwept B f b x → s.taken x ≡ true
      swept_taken x w = s.with_all x w.0 (all_gone w.0 w.1) w.2

      out_left : (x : Entity N) → (IsSwept B f b x → ⊥) → Left x
      out_left x out = not_true (s.taken x) (λ e. (let t = s.by_one x e in out (t.0, s.are_dead t.0 t.1, t.2)))

      -- then exactly the dead operations are gone
      pub sweeps : Sweeps B f b g count
      sweeps = record {
        is_dead = s.gone;
        decides = λ o. (s.are_dead o, all_gone o);
        ops_gone = λ o w. op_gone o (swept_taken (an_op o) w);
        ops_left = λ o out. op_left o (out_left (an_op o) out);
        blocks_gone = λ c w. block_gone c (swept_taken (a_block c) w);
        blocks_left = λ c out. block_left c (out_left (a_block c) out);
        regions_gone = λ r w. region_gone r (swept_taken (a_region r) w);
        regions_left = λ r out. region_left r (out_left (a_region r) out);
        counted = s.counted;
      }
