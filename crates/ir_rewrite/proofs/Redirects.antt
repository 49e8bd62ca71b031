-- What is left where results are replaced by values.
use Rattle.std.proofs.Common.{◌≡◌, ◌⊎◌, refl, sym, ap, ◌∙◌, subst, inl, inr, ℕ, zero, suc, Bool, true, false, cond, Option, Some, None, List, [], ◌∷◌, map, length, take}
use Rattle.std.specs.Prelude.{slice_get}
use Rattle.std.specs.List.{zip}
use Rattle.std.specs.Option.{option_map}
use Rattle.ir_model.specs.Ids.{Ids}
use Rattle.ir_model.specs.Forest.{Dialect, Definer, of_op, of_block, Entity, an_op, a_block, a_region, Definition, OpRecord, Forest, Value, Operand, Successor, Named, a_value, the_block, definer_entity, owner, same_value}
use Rattle.ir_model.specs.Nesting.{In, Within, itself, below, list_of, children, Inside, IsClosed, WellFormed, names_of, operands_of, successors_of, regions_of, ops_of, blocks_of, definitions_of, numbers_of}
use Rattle.ir_model.specs.Changes.{redirect, redirected, on_operands}
use Rattle.ir_model.proofs.Loops.{Lawful}
use Rattle.ir_model.proofs.Redirected.{value_tells}
use Rattle.ir_model.proofs.Nests.{In-append, In-left, In-right, In-map, In-map_back, Within-fewer, Within-trans}
use Rattle.ir_model_passes.specs.Meaning.{given_by}
use Rattle.ir_model_passes.specs.Merging.{redirect_each, values_given}

-- ## Lists

map_twice : {A B C : Type 0} (g : B → C) (h : A → B) (xs : List A) → map g (map h xs) ≡ map (λ x. g (h x)) xs
map_twice g h [] = refl
map_twice g h (x ∷ xs) = ap (λ ys. g (h x) ∷ ys) (map_twice g h xs)

map_itself : {A : Type 0} (xs : List A) → map (λ x. x) xs ≡ xs
map_itself [] = refl
map_itself (x ∷ xs) = ap (λ ys. x ∷ ys) (map_itself xs)

-- what stands in a pair stands in the second list
second_in : {A C : Type 0} (xs : List A) (ys : List C) (q : A × C) → In q (zip xs ys) → In q.1 ys
second_in [] ys q h = elim h [ ]
second_in (x ∷ xs) [] q h = elim h [ ]
second_in (x ∷ xs) (y ∷ ys) q (inl e) = inl (ap (λ (p : _ × _). p.1) e)
second_in (x ∷ xs) (y ∷ ys) q (inr h) = inr (second_in xs ys q h)

no_length : {A : Type 0} (x : A) (xs : List A) → length (x ∷ xs) ≡ length {A = A} [] → ⊥
no_length x xs e = cc

shorter : {A C : Type 0} (x : A) (xs : List A) (y : C) (ys : List C) → length (x ∷ xs) ≡ length (y ∷ ys) → length xs ≡ length ys
shorter x xs y ys e = cc

-- in lists of one length each of the first stands in a pair
first_paired : {A C : Type 0} (xs : List A) (ys : List C) → length xs ≡ length ys → (x : A) → In x xs → (q : A × C) × In q (zip xs ys) × (q.0 ≡ x)
first_paired [] ys e x h = elim h [ ]
first_paired (z ∷ zs) [] e x h = absurd (no_length z zs e)
first_paired (z ∷ zs) (y ∷ ys) e x (inl k) = ((z, y), inl refl, sym k)
first_paired (z ∷ zs) (y ∷ ys) e x (inr h) = let more = first_paired zs ys (shorter z zs y ys e) x h in (more.0, inr more.1, more.2)

-- the pair at a place has what stands at that place
pub pair_at : {A C : Type 0} (xs : List A) (ys : List C) (k : ℕ) (x : A) (y : C) → slice_get xs k ≡ Some x → slice_get ys k ≡ Some y → slice_get (zip xs ys) k ≡ Some (x, y)
pair_at [] ys k x y e d = let wrong : None ≡ Some x = e in absurd cc
pair_at (a ∷ xs) [] k x y e d = let wrong : None ≡ Some y = d in absurd cc
pair_at (a ∷ xs) (c ∷ ys) zero x y e d = cc
pair_at (a ∷ xs) (c ∷ ys) (suc k) x y e d = pair_at xs ys k x y e d

-- ## What operands come to name

module _ {N : Ids} where
  -- the operand after each pair, one after the other
  moved : List (Value N × Value N) → Operand N → Operand N
  moved [] p = p
  moved (q ∷ ps) p = moved ps (redirected q.0 q.1 p)

  module _ (L : Lawful N) where
    -- the operand is as it was, or named the old value and names the new one
    one_case : (old new : Value N) (p : Operand N) → ((redirected old new p ≡ p) × (p.value ≡ old → ⊥)) ⊎ ((p.value ≡ old) × ((redirected old new p).value ≡ new))
    one_case old new p = by (same_value N p.value old) refl
      where
        by : (b : Bool) → same_value N p.value old ≡ b → ((cond b (record p { value = new }) p ≡ p) × (p.value ≡ old → ⊥)) ⊎ ((p.value ≡ old) × ((cond b (record p { value = new }) p).value ≡ new))
        by true e = inr ((value_tells L p.value old).0 e, refl)
        by false e = inl (refl, λ k. (let t : same_value N p.value old ≡ true = (value_tells L p.value old).1 k in let z : true ≡ false = sym t ∙ e in cc))

    -- the operand is as it was, and named no old value; or it names a new one
    moved_to : (ps : List (Value N × Value N)) (p : Operand N) → ((moved ps p ≡ p) × ((q : Value N × Value N) → In q ps → p.value ≡ q.0 → ⊥)) ⊎ ((q : Value N × Value N) × In q ps × ((moved ps p).value ≡ q.1))
    unfolding moved
    moved_to [] p = inl (refl, λ q h e. elim h [ ])
    moved_to (q ∷ ps) p = elim (one_case q.0 q.1 p) [
      | inl k ↦ subst (λ z. ((moved ps z ≡ p) × ((r : Value N × Value N) → In r (q ∷ ps) → p.value ≡ r.0 → ⊥)) ⊎ ((r : Value N × Value N) × In r (q ∷ ps) × ((moved ps z).value ≡ r.1))) (sym k.0) (elim (moved_to ps p) [
        | inl m ↦ inl (m.0, λ r h e. elim h [ inl z ↦ k.1 (e ∙ ap (λ (w : Value N × Value N). w.0) z) | inr z ↦ m.1 r z e ])
        | inr m ↦ inr (m.0, inr m.1, m.2)
      ])
      | inr k ↦ elim (moved_to ps (redirected q.0 q.1 p)) [
        | inl m ↦ inr (q, inl refl, ap (λ (z : Operand N). z.value) m.0 ∙ k.1)
        | inr m ↦ inr (m.0, inr m.1, m.2)
      ]
    ]

-- ## The forest

module _ {N : Ids} {W : Dialect} where
  operands_twice : (g h : Operand N → Operand N) (m : Option (OpRecord N W)) → option_map (on_operands (map g)) (option_map (on_operands (map h)) m) ≡ option_map (on_operands (map (λ p. g (h p)))) m
  operands_twice g h None = refl
  operands_twice g h (Some r) = ap (λ ps. Some (record r { operands = ps })) (map_twice g h r.operands)

  operands_kept : (m : Option (OpRecord N W)) → m ≡ option_map (on_operands (map (λ p. p))) m
  operands_kept None = refl
  operands_kept (Some r) = ap (λ ps. Some (record r { operands = ps })) (sym (map_itself r.operands))

  each_ops : (ps : List (Value N × Value N)) (f : Forest N W) (o : N.Op) → (redirect_each f ps).ops o ≡ option_map (on_operands (map (moved ps))) (f.ops o)
  unfolding moved
  each_ops [] f o = operands_kept (f.ops o)
  each_ops (q ∷ ps) f o = each_ops ps (redirect f q.0 q.1) o ∙ operands_twice (moved ps) (redirected q.0 q.1) (f.ops o)

  each_blocks : (ps : List (Value N × Value N)) (f : Forest N W) → (redirect_each f ps).blocks ≡ f.blocks
  each_blocks [] f = refl
  each_blocks (q ∷ ps) f = each_blocks ps (redirect f q.0 q.1)

  each_regions : (ps : List (Value N × Value N)) (f : Forest N W) → (redirect_each f ps).regions ≡ f.regions
  each_regions [] f = refl
  each_regions (q ∷ ps) f = each_regions ps (redirect f q.0 q.1)

  -- one pair more
  pub one_more : (ps : List (Value N × Value N)) (f : Forest N W) (k : ℕ) (q : Value N × Value N) → slice_get ps k ≡ Some q → redirect_each f (take (suc k) ps) ≡ redirect (redirect_each f (take k ps)) q.0 q.1
  one_more [] f k q e = let wrong : None ≡ Some q = e in absurd cc
  one_more (p ∷ ps) f zero q e = let same : p ≡ q = cc in ap (λ (z : Value N × Value N). redirect f z.0 z.1) same
  one_more (p ∷ ps) f (suc k) q e = one_more ps (redirect f p.0 p.1) k q e

  of_record : {X : Type 0} (of : OpRecord N W → List X) (g : List (Operand N) → List (Operand N)) → ((r : OpRecord N W) → of (on_operands g r) ≡ of r) → (m : Option (OpRecord N W)) → list_of of (option_map (on_operands g) m) ≡ list_of of m
  of_record of g same None = refl
  of_record of g same (Some r) = same r

  module _ (ps : List (Value N × Value N)) (f : Forest N W) where
    pub same_definitions : (d : Definer N) → definitions_of (redirect_each f ps) d ≡ definitions_of f d
    same_definitions (of_op o) = ap (list_of (λ (r : OpRecord N W). r.results)) (each_ops ps f o) ∙ of_record (λ (r : OpRecord N W). r.results) (map (moved ps)) (λ r. refl) (f.ops o)
    same_definitions (of_block b) = ap (λ (k : N.Block → Option _). list_of (λ r. r.arguments) (k b)) (each_blocks ps f)

    same_children : (x : Entity N) → children (redirect_each f ps) x ≡ children f x
    same_children (an_op o) = ap (map a_region) (ap (list_of (λ (r : OpRecord N W). r.regions)) (each_ops ps f o) ∙ of_record (λ (r : OpRecord N W). r.regions) (map (moved ps)) (λ r. refl) (f.ops o))
    same_children (a_block b) = ap (λ (k : N.Block → Option _). map an_op (list_of (λ r. r.ops) (k b))) (each_blocks ps f)
    same_children (a_region r) = ap (λ (k : N.Region → Option _). map a_block (list_of (λ bs. bs) (k r))) (each_regions ps f)

    inside_was : (e x : Entity N) → Inside (redirect_each f ps) e x → Inside f e x
    inside_was = Within-fewer (children f) (children (redirect_each f ps)) (λ z y h. subst (In z) (same_children y) h)

    inside_still : (e x : Entity N) → Inside f e x → Inside (redirect_each f ps) e x
    inside_still = Within-fewer (children (redirect_each f ps)) (children f) (λ z y h. subst (In z) (sym (same_children y)) h)

    same_successors : (o : N.Op) → successors_of (redirect_each f ps) o ≡ successors_of f o
    same_successors o = ap (list_of (λ (r : OpRecord N W). r.successors)) (each_ops ps f o) ∙ of_record (λ (r : OpRecord N W). r.successors) (map (moved ps)) (λ r. refl) (f.ops o)

    moved_operands : (o : N.Op) → operands_of (redirect_each f ps) o ≡ map (moved ps) (operands_of f o)
    moved_operands o = ap (list_of (λ (r : OpRecord N W). r.operands)) (each_ops ps f o) ∙ by (f.ops o)
      where
        by : (k : Option (OpRecord N W)) → list_of (λ (r : OpRecord N W). r.operands) (option_map (on_operands (map (moved ps))) k) ≡ map (moved ps) (list_of (λ (r : OpRecord N W). r.operands) k)
        by None = refl
        by (Some r) = refl

  -- what is inside an operation is the operation, or is inside one of its regions
  in_region : (f : Forest N W) (o : N.Op) (x : Entity N) → Inside f (an_op o) x → (x ≡ an_op o) ⊎ ((r : N.Region) × In r (regions_of f o) × Inside f (a_region r) x)
  in_region f o x itself = inl refl
  in_region f o x (below {c = c} h v) = elim (in_region f o c v) [
    | inl e ↦ (let at = In-map_back a_region x (regions_of f o) (subst (λ y. In x (children f y)) e h) in inr (at.0, at.1, subst (λ y. Inside f (a_region at.0) y) (sym at.2) itself))
    | inr k ↦ inr (k.0, k.1, below h k.2)
  ]

  -- where each region of an operation is closed, and values that are live and defined outside stand for its results, it is closed
  module _ (L : Lawful N) (f : Forest N W) (keys : ℕ) (w : WellFormed f keys) (o : N.Op) (values : List (Value N))
      (many : length (values_given f o) ≡ length values)
      (outside : (v : Value N) → In v values → Inside f (an_op o) (definer_entity N v.definer) → ⊥)
      (closed : (r : N.Region) → In r (regions_of f o) → IsClosed f (a_region r)) where
    -- what names something defined in a region is inside
    by_region : (user : N.Op) (d : Named N) (x : Entity N) → In d (names_of f user) → x ≡ owner N d → (r : N.Region) → In r (regions_of f o) → Inside f (a_region r) x → Inside f (an_op o) (an_op user)
    by_region user d x h e r k i =
        Within-trans (children f) (children f) (an_op o) (a_region r) (an_op user) (below (In-map a_region r (regions_of f o) k) itself)
        (closed r k user d h (subst (λ y. Inside f (a_region r) y) e i))

    definer_is : (d : Definer N) → definer_entity N d ≡ an_op o → d ≡ of_op o
    definer_is (of_op p) e = let z : p ≡ o = cc in ap of_op z
    definer_is (of_block c) e = absurd cc

    -- a value that is named and that the operation gives is one of those replaced
    is_replaced : (user : N.Op) (v : Value N) → In (a_value v) (names_of f user) → v.definer ≡ of_op o → (q : Value N × Value N) × In q (zip (values_given f o) values) × (q.0 ≡ v)
    is_replaced user v h e =
        let live : In v.number (numbers_of f v.definer) = w.named user (a_value v) h in
        let mine : In v.number (map (λ (x : Definition N W). x.number) (definitions_of f (of_op o))) = subst (λ d. In v.number (map (λ (x : Definition N W). x.number) (definitions_of f d))) e live in
        let def = In-map_back (λ (x : Definition N W). x.number) v.number (definitions_of f (of_op o)) mine in
        let v_is : given_by o def.0 ≡ v = λ i. record { definer = sym e i; number = sym def.2 i } in
        first_paired (values_given f o) values many v (subst (λ z. In z (values_given f o)) v_is (In-map (given_by o) def.0 (definitions_of f (of_op o)) def.1))

    pub replaced_closed : IsClosed (redirect_each f (zip (values_given f o) values)) (an_op o)
    replaced_closed user d h i = inside_still (zip (values_given f o) values) f (an_op o) (an_op user) (by d h (inside_was (zip (values_given f o) values) f (an_op o) _ i))
      where
        named_as_operand : (v : Value N) (p : Operand N) → In p (operands_of f user) → v ≡ (moved (zip (values_given f o) values) p).value → Inside f (an_op o) (definer_entity N v.definer) → Inside f (an_op o) (an_op user)
        named_as_operand v p k e x = elim (moved_to L (zip (values_given f o) values) p) [
          | inl m ↦ (
              let is : p.value ≡ v = sym (e ∙ ap (λ (z : Operand N). z.value) m.0) in
              let named : In (a_value v) (names_of f user) = In-left (a_value v) (map (λ (z : Operand N). a_value z.value) (operands_of f user)) _ (subst (λ z. In (a_value z) (map (λ (y : Operand N). a_value y.value) (operands_of f user))) is (In-map (λ (y : Operand N). a_value y.value) p (operands_of f user) k)) in
              elim (in_region f o (definer_entity N v.definer) x) [
                | inl z ↦ (let q = is_replaced user v named (definer_is v.definer z) in absurd (m.1 q.0 q.1 (is ∙ sym q.2)))
                | inr z ↦ by_region user (a_value v) (definer_entity N v.definer) named refl z.0 z.1 z.2
              ])
          | inr m ↦ absurd (outside m.0.1 (second_in (values_given f o) values m.0 m.1) (subst (λ z. Inside f (an_op o) (definer_entity N z.definer)) (e ∙ m.2) x))
        ]

        block_named : Successor N → Named N
        block_named p = the_block p.block

        by : (d : Named N) → In d (names_of (redirect_each f (zip (values_given f o) values)) user) → Inside f (an_op o) (owner N d) → Inside f (an_op o) (an_op user)
        by (a_value v) h x = elim (In-append (a_value v) (map (λ (p : Operand N). a_value p.value) (operands_of (redirect_each f (zip (values_given f o) values)) user)) _ h) [
          | inl k ↦ (
              let at = In-map_back (λ (p : Operand N). a_value p.value) (a_value v) (operands_of (redirect_each f (zip (values_given f o) values)) user) k in
              let was = In-map_back (moved (zip (values_given f o) values)) at.0 (operands_of f user) (subst (In at.0) (moved_operands (zip (values_given f o) values) f user) at.1) in
              named_as_operand v was.0 was.1 (value_of_named v at.0.value at.2 ∙ ap (λ (p : Operand N). p.value) was.2) x)
          | inr k ↦ (let at = In-map_back (λ (p : Successor N). the_block p.block) (a_value v) _ k in let z : a_value v ≡ the_block at.0.block = at.2 in absurd cc)
        ]
          where
            value_of_named : (v u : Value N) → ◌≡◌ {A = Named N} (a_value v) (a_value u) → v ≡ u
            value_of_named v u e = cc
        by (the_block b) h x = elim (In-append (the_block b) (map (λ (p : Operand N). a_value p.value) (operands_of (redirect_each f (zip (values_given f o) values)) user)) _ h) [
          | inl k ↦ (let at = In-map_back (λ (p : Operand N). a_value p.value) (the_block b) _ k in let z : the_block b ≡ a_value at.0.value = at.2 in absurd cc)
          | inr k ↦ (
              let named : In (the_block b) (names_of f user) = In-right (the_block b) (map (λ (p : Operand N). a_value p.value) (operands_of f user)) _ (subst (λ (ss : List (Successor N)). In {A = Named N} (the_block b) (map block_named ss)) (same_successors (zip (values_given f o) values) f user) k) in
              elim (in_region f o (a_block b) x) [
                | inl z ↦ (let e : ◌≡◌ {A = Entity N} (a_block b) (an_op o) = z in absurd cc)
                | inr z ↦ by_region user (the_block b) (a_block b) named refl z.0 z.1 z.2
              ])
        ]
