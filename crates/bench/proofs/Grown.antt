-- What is inside what, where operations and blocks are made and put in their places.
use Rattle.std.proofs.Common.{◌≡◌, ◌≢◌, ◌⊎◌, ℕ, inl, inr, Bool, refl, sym, ap, subst, ◌∙◌, true, false, Option, Some, None, IsSome, List, [], ◌∷◌, ◌++◌, map, cond}
use Rattle.std.specs.Option.{option_map}
use Rattle.ir_model.specs.declared.ids.ArenaIndex.{ArenaIndex}
use Rattle.ir_model.specs.ContextIds.{context_ids, same_id}
use Rattle.ir_model.specs.Forest.{BlockRecord, Definition, Dialect, Entity, Forest, Named, OpRecord, Operand, Successor, Text, a_block, a_region, a_value, an_op, the_block}
use Rattle.ir_model.specs.Nesting.{In, Inside, IsClosed, IsLive, Within, below, blocks_of, children, itself, list_of, names_of, ops_of, regions_of}
use Rattle.ir_model.specs.Changes.{new_block, new_op, on_block, on_ops, on_region}
use Rattle.ir_model.proofs.TwoRuns.{id_tells}
use Rattle.ir_model.proofs.KeepsNew.{any_in, put_at}
use Rattle.ir_model.proofs.Nests.{In-left, In-map, In-map_back, In-right}
use Rattle.bench.specs.Settled.{AllInside, GrowsIn}

within_more : {E : Type 0} (old new : E → List E) → ((x y : E) → In x (old y) → In x (new y)) → (e a : E) → Within old e a → Within new e a
within_more old new more e a itself = itself
within_more old new more e a (below {c = c} h w) = below (more a c h) (within_more old new more e c w)

pub inside_on : {W : Dialect} (f : Forest context_ids W) (e c a : Entity context_ids) → Inside f e c → Inside f c a → Inside f e a
inside_on f e c a v itself = v
inside_on f e c a v (below {c = d} h w) = below h (inside_on f e c d v w)

-- only what is live names anything
names_live : {W : Dialect} (m : Option (OpRecord context_ids W)) (d : Named context_ids)
    → In d (map (λ (p : Operand context_ids). a_value p.value) (list_of (λ (r : OpRecord context_ids W). r.operands) m) ++ map (λ (p : Successor context_ids). the_block p.block) (list_of (λ (r : OpRecord context_ids W). r.successors) m)) → IsSome m
names_live None d h = elim h [ ]
names_live (Some r) d h = refl

-- where all operations are inside the root, nothing that stands elsewhere names what is defined inside
pub closed_root : {W : Dialect} (f : Forest context_ids W) (root : ArenaIndex) → AllInside f root → IsClosed f (an_op root)
closed_root f root all o d at inside = all o (names_live (f.ops o) d at)

module _ {W : Dialect} (f g : Forest context_ids W) where
  -- what grew inside the root is inside it
  pub all_still : (root : ArenaIndex) (y : Entity context_ids) → AllInside f root → Inside f (an_op root) y → GrowsIn f g y → AllInside g root
  all_still root y all at grows o live = elim (grows.ops o live) [
    | inl was ↦ grows.inside (an_op root) (an_op o) (all o was)
    | inr came ↦ inside_on g (an_op root) y (an_op o) (grows.inside (an_op root) y at) came
  ]

  pub grows_on : (h : Forest context_ids W) (y z : Entity context_ids) → GrowsIn f g y → Inside g y z → GrowsIn g h z → GrowsIn f h y
  grows_on h y z a at b = record {
    inside = λ e x w. b.inside e x (a.inside e x w);
    ops = λ o live. elim (b.ops o live) [
      | inl was ↦ (elim (a.ops o was) [ inl before ↦ inl before | inr came ↦ inr (b.inside y (an_op o) came) ])
      | inr came ↦ inr (inside_on h y z (an_op o) (b.inside y z at) came)
    ];
  }

pub grows_none : {W : Dialect} (f : Forest context_ids W) (y : Entity context_ids) → GrowsIn f f y
grows_none f y = record { inside = λ e x w. w; ops = λ o live. inl live }

module _ {W : Dialect} (f : Forest context_ids W) where
  module _ (o : ArenaIndex) (loc : W.Loc) (kind : ℕ) (results : List (Definition context_ids W)) (operands : List (Operand context_ids)) (successors : List (Successor context_ids)) (regions : List ArenaIndex)
      (dead : IsLive f (an_op o) → ⊥) (dead_regions : (r : ArenaIndex) → In r regions → IsLive f (a_region r) → ⊥) (b : ArenaIndex) (live : IsLive f (a_block b)) where
    abbrev with_op : Forest context_ids W
    with_op = on_block (new_op f o loc kind results operands successors regions) b (on_ops (λ os. os ++ o ∷ []))

    abbrev made : OpRecord context_ids W
    made = record { kind = kind; results = results; operands = operands; successors = successors; regions = regions; attributes = []; loc = loc }

    dead_none : {A B : Type 0} (of : A → List B) (m : Option A) (x : B) → (IsSome m → ⊥) → In x (list_of of m) → ⊥
    dead_none of None x none h = h
    dead_none of (Some r) x none h = none refl

    listed : (m : Option (BlockRecord context_ids W)) → IsSome m → In o (list_of (λ (r : BlockRecord context_ids W). r.ops) (option_map (on_ops (λ os. os ++ o ∷ [])) m))
    listed None live = absurd cc
    listed (Some r) live = In-right o r.ops (o ∷ []) (inl refl)

    in_block : In o (ops_of with_op b)
    in_block = let e : same_id b b ≡ true = (id_tells b b).1 refl in rw e (listed (f.blocks b) live)

    longer : (m : Option (BlockRecord context_ids W)) (x : Entity context_ids) → In x (map an_op (list_of (λ (r : BlockRecord context_ids W). r.ops) m)) → In x (map an_op (list_of (λ (r : BlockRecord context_ids W). r.ops) (option_map (on_ops (λ os. os ++ o ∷ [])) m)))
    longer None x h = h
    longer (Some r) x h = let k = In-map_back {A = ArenaIndex} {B = Entity context_ids} an_op x r.ops h in subst (λ z. In z (map an_op (r.ops ++ o ∷ []))) (sym k.2) (In-map an_op k.0 (r.ops ++ o ∷ []) (In-left k.0 r.ops (o ∷ []) k.1))

    more : (x y : Entity context_ids) → In x (children f y) → In x (children with_op y)
    more x (an_op p) h = elim (put_at same_id id_tells o made f.ops p) [
      | inl e ↦ absurd (let k = In-map_back {A = ArenaIndex} {B = Entity context_ids} a_region x (regions_of f p) h in dead_none (λ (r : OpRecord context_ids W). r.regions) (f.ops p) k.0 (subst (λ z. IsSome (f.ops z) → ⊥) (sym e.0) dead) k.1)
      | inr e ↦ subst (λ (m : Option (OpRecord context_ids W)). In x (map a_region (list_of (λ (r : OpRecord context_ids W). r.regions) m))) (sym e.1) h
    ]
    more x (a_block c) h = by (same_id c b)
      where
        by : (t : Bool) → In x (map an_op (list_of (λ (r : BlockRecord context_ids W). r.ops) (cond t (option_map (on_ops (λ os. os ++ o ∷ [])) (f.blocks c)) (f.blocks c))))
        by true = longer (f.blocks c) x h
        by false = h
    more x (a_region r) h = elim (any_in same_id id_tells r regions) [
      | inl e ↦ absurd (let k = In-map_back {A = ArenaIndex} {B = Entity context_ids} a_block x (blocks_of f r) h in dead_none (λ bs. bs) (f.regions r) k.0 (dead_regions r e.1) k.1)
      | inr e ↦ rw e.0 h
    ]

    pub op_grows : (g : Forest context_ids W) → g ≡ with_op → GrowsIn f g (a_block b) × Inside g (a_block b) (an_op o)
    op_grows g e = subst (λ h. GrowsIn f h (a_block b) × Inside h (a_block b) (an_op o)) (sym e) (
      record {
        inside = λ e x w. within_more (children f) (children with_op) more e x w;
        ops = λ p live. elim (put_at same_id id_tells o made f.ops p) [
          | inl e ↦ inr (subst (λ z. Inside with_op (a_block b) (an_op z)) (sym e.0) inside_block)
          | inr e ↦ inl (subst IsSome e.1 live)
        ];
      },
      inside_block,
    )
      where
        inside_block : Inside with_op (a_block b) (an_op o)
        inside_block = below (In-map an_op o (ops_of with_op b) in_block) itself

  module _ (b : ArenaIndex) (loc : W.Loc) (label : Option Text) (arguments : List (Definition context_ids W)) (dead : IsLive f (a_block b) → ⊥) (r : ArenaIndex) (live : IsLive f (a_region r)) where
    abbrev with_block : Forest context_ids W
    with_block = on_region (new_block f b loc label arguments) r (λ bs. bs ++ b ∷ [])

    abbrev block_made : BlockRecord context_ids W
    block_made = record { label = label; arguments = arguments; ops = []; attributes = []; loc = loc }

    block_listed : (m : Option (List ArenaIndex)) → IsSome m → In b (list_of (λ bs. bs) (option_map (λ bs. bs ++ b ∷ []) m))
    block_listed None live = absurd cc
    block_listed (Some bs) live = In-right b bs (b ∷ []) (inl refl)

    in_region : In b (blocks_of with_block r)
    in_region = let e : same_id r r ≡ true = (id_tells r r).1 refl in rw e (block_listed (f.regions r) live)

    more_blocks : (m : Option (List ArenaIndex)) (x : Entity context_ids) → In x (map a_block (list_of (λ bs. bs) m)) → In x (map a_block (list_of (λ bs. bs) (option_map (λ bs. bs ++ b ∷ []) m)))
    more_blocks None x h = h
    more_blocks (Some bs) x h = let k = In-map_back {A = ArenaIndex} {B = Entity context_ids} a_block x bs h in subst (λ z. In z (map a_block (bs ++ b ∷ []))) (sym k.2) (In-map a_block k.0 (bs ++ b ∷ []) (In-left k.0 bs (b ∷ []) k.1))

    none_in : (m : Option (BlockRecord context_ids W)) (x : ArenaIndex) → (IsSome m → ⊥) → In x (list_of (λ (r : BlockRecord context_ids W). r.ops) m) → ⊥
    none_in None x none h = h
    none_in (Some r) x none h = none refl

    more_in : (x y : Entity context_ids) → In x (children f y) → In x (children with_block y)
    more_in x (an_op p) h = h
    more_in x (a_block c) h = elim (put_at same_id id_tells b block_made f.blocks c) [
      | inl e ↦ absurd (let k = In-map_back {A = ArenaIndex} {B = Entity context_ids} an_op x (ops_of f c) h in none_in (f.blocks c) k.0 (subst (λ z. IsSome (f.blocks z) → ⊥) (sym e.0) dead) k.1)
      | inr e ↦ subst (λ (m : Option (BlockRecord context_ids W)). In x (map an_op (list_of (λ (r : BlockRecord context_ids W). r.ops) m))) (sym e.1) h
    ]
    more_in x (a_region q) h = by (same_id q r)
      where
        by : (t : Bool) → In x (map a_block (list_of (λ bs. bs) (cond t (option_map (λ bs. bs ++ b ∷ []) (f.regions q)) (f.regions q))))
        by true = more_blocks (f.regions q) x h
        by false = h

    pub block_grows : (g : Forest context_ids W) → g ≡ with_block → GrowsIn f g (a_region r) × Inside g (a_region r) (a_block b)
    block_grows g e = subst (λ h. GrowsIn f h (a_region r) × Inside h (a_region r) (a_block b)) (sym e) (
      record { inside = λ e x w. within_more (children f) (children with_block) more_in e x w; ops = λ p live. inl live },
      below (In-map a_block b (blocks_of with_block r) in_region) itself,
    )

dead_at : {W : Dialect} {Q : Type 0} (m : Option (OpRecord context_ids W)) → m ≡ None → IsSome m → Q
dead_at None e live = absurd cc
dead_at (Some r) e live = absurd cc

module _ {W : Dialect} (f : Forest context_ids W) (o : ArenaIndex) (loc : W.Loc) (kind : ℕ) (results : List (Definition context_ids W)) (operands : List (Operand context_ids)) (successors : List (Successor context_ids)) (regions : List ArenaIndex) where
  abbrev only : OpRecord context_ids W
  only = record { kind = kind; results = results; operands = operands; successors = successors; regions = regions; attributes = []; loc = loc }

  -- the first operation is all that there is
  pub first_op : (g : Forest context_ids W) → g ≡ new_op f o loc kind results operands successors regions → ((p : ArenaIndex) → f.ops p ≡ None) → AllInside g o
  first_op g e none p live = elim (put_at same_id id_tells o only f.ops p) [
    | inl k ↦ subst (λ z. Inside g (an_op o) (an_op z)) (sym k.0) itself
    | inr k ↦ dead_at (f.ops p) (none p) (subst (λ (m : Option (OpRecord context_ids W)). IsSome m) (ap (λ (h : Forest context_ids W). h.ops p) e ∙ k.1) live)
  ]
