-- When a forest of one block without regions is well formed, and what it is to take one operation out of it.
use mathlib.Core.Path.{◌≡◌, refl, sym, ap, ◌∙◌, subst}
use Rattle.std.proofs.Common.{ℕ, inl, inr, Bool, true, false, not, Option, Some, None, List, [], ◌∷◌, ◌++◌, map, IsSome, arith, ◌<◌}
use Rattle.std.specs.List.{filter}
use Rattle.std.specs.Option.{option_map}
use Rattle.ir_model.specs.Ids.{Distinct}
use Rattle.ir_model.specs.Forest.{Definer, of_op, of_block, Definition, OpRecord, BlockRecord, Forest, Value, Operand, Successor, Named, a_value, the_block, Entity, an_op, a_block, a_region}
use Rattle.ir_model.specs.Nesting.{In, Inside, itself, below, list_of, children, ops_of, regions_of, numbers_of, definitions_of, definition_types_of, use_numbers_of, names_of, IsLive, IsLiveNamed, WellFormed}
use Rattle.ir_model.specs.Changes.{on_ops}
use Rattle.ir_model.specs.SmallForests.{Small, n0, n1, n2, n3, n4, n5, small_ids, same_small, table}
use Rattle.ir_model.proofs.Nests.{In-map_back, Distinct-map}
use Rattle.ir_model.proofs.SmallChecks.{small_tells}
use Rattle.ir_model_passes.specs.MarkedForests.{marked, constant, effect, one_block}
use Rattle.ir_model_passes.proofs.Going.{TakesOut}

-- ## What is inside an operation

module _ (f : Forest small_ids marked) where
  -- an operation without regions has nothing inside but itself
  pub alone : (o : Small) → regions_of f o ≡ [] → (x : Entity small_ids) → Inside f (an_op o) x → x ≡ an_op o
  alone o e x itself = refl
  alone o e x (below {c = c} h w) =
      let k : In x (children f (an_op o)) = subst (λ y. In x (children f y)) (alone o e c w) h in
      absurd (let n : In x (map a_region []) = subst (λ (rs : List Small). In x (map {A = Small} {B = Entity small_ids} a_region rs)) e k in n)

-- ## Well-formed forests

module _ (f : Forest small_ids marked) where
  -- a record without regions, whose results have the operation's own number and the first type, and in which n1 alone names anything
  pub record FlatOp (o : Small) (m : Option (OpRecord small_ids marked)) : Type 0 where
    pub regions : list_of (λ r. r.regions) m ≡ []
    pub numbers : (n : Small) → In n (map (λ d. d.number) (list_of (λ r. r.results) m)) → n ≡ o
    pub numbers_once : Distinct (map (λ d. d.number) (list_of (λ r. r.results) m))
    pub uses : (u : Small) → In u (map (λ p. p.use_number) (list_of (λ r. r.operands) m) ++ map (λ p. p.use_number) (list_of (λ r. r.successors) m)) → o ≡ n1
    pub uses_once : Distinct (map (λ p. p.use_number) (list_of (λ r. r.operands) m) ++ map (λ p. p.use_number) (list_of (λ r. r.successors) m))
    pub named : (d : Named small_ids) → In d (map (λ p. a_value p.value) (list_of (λ r. r.operands) m) ++ map (λ p. the_block p.block) (list_of (λ r. r.successors) m)) → IsLiveNamed f d
    pub known : (t : ℕ) → In t (map (λ d. d.ty) (list_of (λ r. r.results) m)) → t < 1

  pub flat_none : (o : Small) → FlatOp o None
  flat_none o = record {
    regions = refl;
    numbers = λ n h. elim h [ ];
    numbers_once = tt;
    uses = λ u h. elim h [ ];
    uses_once = tt;
    named = λ d h. elim h [ ];
    known = λ t h. elim h [ ];
  }

  pub flat_constant : (n : Small) (mark : ℕ) → FlatOp n (Some (constant n mark))
  flat_constant n mark = record {
    regions = refl;
    numbers = λ k h. only k n h;
    numbers_once = (tt, tt);
    uses = λ u h. elim h [ ];
    uses_once = tt;
    named = λ d h. elim h [ ];
    known = λ t h. small t (only t 0 h);
  }
    where
      only : {A : Type 0} (x y : A) → In x (y ∷ []) → x ≡ y
      only x y (inl e) = e
      only x y (inr h) = elim h [ ]

      small : (t : ℕ) → t ≡ 0 → t < 1
      small t e = omega (arith, e)

  pub flat_effect : (v : Value small_ids) → IsLiveNamed f (a_value v) → FlatOp n1 (Some (effect v))
  flat_effect v live = record {
    regions = refl;
    numbers = λ n h. elim h [ ];
    numbers_once = tt;
    uses = λ u h. refl;
    uses_once = (tt, tt);
    named = λ d h. named d h;
    known = λ t h. elim h [ ];
  }
    where
      named : (d : Named small_ids) → In d (a_value v ∷ []) → IsLiveNamed f d
      named d (inl e) = subst (IsLiveNamed f) (sym e) live
      named d (inr h) = elim h [ ]

  -- a record without arguments, of block n0 where it lists anything, and what it lists is there
  pub record FlatBlock (c : Small) (m : Option (BlockRecord small_ids marked)) : Type 0 where
    pub arguments : list_of (λ r. r.arguments) m ≡ []
    pub place : (o : Small) → In o (list_of (λ r. r.ops) m) → c ≡ n0
    pub once : Distinct (list_of (λ r. r.ops) m)
    pub live : (o : Small) → In o (list_of (λ r. r.ops) m) → IsSome (f.ops o)

  pub no_block : (c : Small) → FlatBlock c None
  no_block c = record { arguments = refl; place = λ o h. elim h [ ]; once = tt; live = λ o h. elim h [ ] }

  module _ (ops : (o : Small) → FlatOp o (f.ops o)) (blocks : (c : Small) → FlatBlock c (f.blocks c)) (no_regions : (r : Small) → f.regions r ≡ None) where
    -- what stands in a list is an operation in that of the block
    in_block : (x y : Entity small_ids) → In x (children f y) → (y ≡ a_block n0) × (o : Small) × (x ≡ an_op o)
    in_block x (an_op o) h = absurd (let k : In x (map a_region []) = subst (λ (rs : List Small). In x (map {A = Small} {B = Entity small_ids} a_region rs)) (ops o).regions h in k)
    in_block x (a_block c) h = let at = In-map_back an_op x (ops_of f c) h in (ap a_block ((blocks c).place at.0 at.1), at.0, at.2)
    in_block x (a_region r) h = absurd (let k : In x (map a_block []) = subst (λ m. In x (map {A = Small} {B = Entity small_ids} a_block (list_of (λ (bs : List Small). bs) m))) (no_regions r) h in k)

    once : (y : Entity small_ids) → Distinct (children f y)
    once (an_op o) = subst (λ (rs : List Small). Distinct (map {A = Small} {B = Entity small_ids} a_region rs)) (sym (ops o).regions) tt
    once (a_block c) = Distinct-map an_op (λ x y q. cc) (ops_of f c) (blocks c).once
    once (a_region r) = subst (λ m. Distinct (map {A = Small} {B = Entity small_ids} a_block (list_of (λ (bs : List Small). bs) m))) (sym (no_regions r)) tt

    live : (x y : Entity small_ids) → In x (children f y) → IsLive f x
    live x (an_op o) h = absurd (let k = (in_block x (an_op o) h).0 in cc)
    live x (a_block c) h = let at = In-map_back an_op x (ops_of f c) h in subst (IsLive f) (sym at.2) ((blocks c).live at.0 at.1)
    live x (a_region r) h = absurd (let k = (in_block x (a_region r) h).0 in cc)

    no_cycle : (x y : Entity small_ids) → In x (children f y) → Inside f x y → ⊥
    no_cycle x y h i =
        let at = in_block x y h in
        let i2 : Inside f (an_op at.1) (a_block n0) = subst (λ z. Inside f z (a_block n0)) at.2 (subst (Inside f x) at.0 i) in
        let e = alone f at.1 (ops at.1).regions (a_block n0) i2 in
        cc

    numbered : (d : Definer small_ids) (n : Small) → In n (numbers_of f d) → d ≡ of_op n
    numbered (of_op o) n h = ap of_op (sym ((ops o).numbers n h))
    numbered (of_block c) n h = absurd (let k : In n (map (λ (d : Definition small_ids marked). d.number) []) = subst (λ ds. In n (map (λ (d : Definition small_ids marked). d.number) ds)) (blocks c).arguments h in k)

    numbers_once : (d : Definer small_ids) → Distinct (numbers_of f d)
    numbers_once (of_op o) = (ops o).numbers_once
    numbers_once (of_block c) = subst (λ ds. Distinct (map (λ (d : Definition small_ids marked). d.number) ds)) (sym (blocks c).arguments) tt

    known : (d : Definer small_ids) (t : ℕ) → In t (definition_types_of f d) → t < 1
    known (of_op o) t h = (ops o).known t h
    known (of_block c) t h = absurd (let k : In t (map (λ (d : Definition small_ids marked). d.ty) []) = subst (λ ds. In t (map (λ (d : Definition small_ids marked). d.ty) ds)) (blocks c).arguments h in k)

    pub flat_formed : WellFormed f 1
    flat_formed = record {
      nested = record {
        one_list = λ x y z h k. (in_block x y h).0 ∙ sym (in_block x z k).0;
        once = once;
        live = live;
        no_cycle = no_cycle;
        regions_linked = λ r h. absurd (let k : IsSome {T = List Small} None = subst IsSome (no_regions r) h in cc);
      };
      numbers = λ d e n h k. numbered d n h ∙ sym (numbered e n k);
      numbers_once = numbers_once;
      uses = λ o p u h k. (ops o).uses u h ∙ sym ((ops p).uses u k);
      uses_once = λ o. (ops o).uses_once;
      named = λ o d h. (ops o).named d h;
      known = known;
    }

-- what holds of each of a list
abbrev pub Each : {A : Type 0} → (A → Type 0) → List A → Type 0
Each P [] = Unit {0}
Each P (x ∷ xs) = P x × Each P xs

each_of : {A : Type 0} (P : A → Type 0) (xs : List A) → Each P xs → (x : A) → In x xs → P x
each_of P [] all x h = elim h [ ]
each_of P (y ∷ ys) all x (inl e) = subst P (sym e) all.0
each_of P (y ∷ ys) all x (inr h) = each_of P ys all.1 x h

-- a forest of one block, whose listed operations are there
pub one_block_formed : (ops : List (OpRecord small_ids marked)) (listed : List Small) → ((o : Small) → FlatOp (one_block ops listed) o (table ops o)) → Distinct listed → Each (λ o. IsSome (table ops o)) listed
    → WellFormed (one_block ops listed) 1
one_block_formed ops listed flat once live = flat_formed (one_block ops listed) flat blocks (λ r. refl)
  where
    blocks : (c : Small) → FlatBlock (one_block ops listed) c ((one_block ops listed).blocks c)
    blocks n0 = record { arguments = refl; place = λ o h. refl; once = once; live = each_of (λ o. IsSome (table ops o)) listed live }
    blocks n1 = no_block (one_block ops listed) n1
    blocks n2 = no_block (one_block ops listed) n2
    blocks n3 = no_block (one_block ops listed) n3
    blocks n4 = no_block (one_block ops listed) n4
    blocks n5 = no_block (one_block ops listed) n5

-- ## One operation goes

module _ (f g : Forest small_ids marked) (n : Small) (plain : regions_of f n ≡ []) (gone : g.ops n ≡ None) (left : (o : Small) → (o ≡ n → ⊥) → g.ops o ≡ f.ops o)
    (lists : (c : Small) → g.blocks c ≡ option_map (on_ops (filter (λ o. not (same_small o n)))) (f.blocks c)) (regions : (r : Small) → g.regions r ≡ f.regions r) where
  pub takes_one : TakesOut f (λ o. o ≡ n) g
  takes_one = record {
    is_gone = λ o. same_small o n;
    dead_gone = λ o e. (small_tells o n).1 e;
    gone_taken = λ o e. (o, (small_tells o n).0 e, itself);
    ops_gone = λ o t. (let one : an_op o ≡ an_op n = inside_it (an_op o) t in let same : o ≡ n = cc in ap g.ops same ∙ gone);
    ops_left = λ o out. left o (λ e. out (o, e, itself));
    blocks_gone = λ c t. absurd (let one : a_block c ≡ an_op n = inside_it (a_block c) t in cc);
    blocks_left = λ c out. lists c;
    regions_gone = λ r t. absurd (let one : a_region r ≡ an_op n = inside_it (a_region r) t in cc);
    regions_left = λ r out. regions r;
  }
    where
      inside_it : (x : Entity small_ids) → ((o : Small) × (o ≡ n) × Inside f (an_op o) x) → x ≡ an_op n
      inside_it x (o, e, i) = alone f n plain x (subst (λ z. Inside f (an_op z) x) e i)
