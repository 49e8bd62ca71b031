-- What an erasure does first: it drops the uses inside, one operation at a time.
use mathlib.Core.Path.{◌≡◌, refl, sym, ap, ◌∙◌, subst}
use Rattle.std.proofs.Common.{◌≢◌, ◌⊎◌, inl, inr, Bool, true, false, Option, Some, None, List, [], ◌∷◌, ◌++◌, map}
use Rattle.std.specs.Prelude.{◌↔◌}
use Rattle.std.specs.Option.{option_map}
use Rattle.ir_model.specs.Ids.{Ids}
use Rattle.ir_model.specs.Forest.{Dialect, Entity, an_op, a_block, a_region, OpRecord, BlockRecord, Forest, Named, owner}
use Rattle.ir_model.specs.Nesting.{In, list_of, children, Inside, IsClosed, names_of, regions_of}
use Rattle.ir_model.specs.Changes.{on_op, on_ops, on_regions, but, no_uses, DropsUses, Removes}
use Rattle.ir_model.specs.Subtree.{ListsSubtree}
use Rattle.ir_core_erasing.specs.Dropping.{Unnamed}
use Rattle.ir_model.proofs.Loops.{Lawful}
use Rattle.ir_model.proofs.Nests.{In-append, In-left, In-right, Within-fewer, Within-trans}
use Rattle.ir_model.proofs.Keeps.{list_of-map, rewrite_at}
use Rattle.ir_model.proofs.KeepsUses.{named_by, names_are}

last_first : {A : Type 0} (z x : A) (xs : List A) → In z (x ∷ xs) ↔ In z (xs ++ x ∷ [])
last_first z x xs = (
  λ h. elim h [ inl k ↦ In-right z xs (x ∷ []) (inl k) | inr k ↦ In-left z xs (x ∷ []) k ],
  λ h. elim (In-append z xs (x ∷ []) h) [ inl k ↦ inr k | inr (inl k) ↦ inl k | inr (inr k) ↦ absurd k ],
)

module _ {N : Ids} {W : Dialect} where
  -- the operation has no operands and no successors, and all else is as it was
  pub record DropsOne (f : Forest N W) (o : N.Op) (g : Forest N W) : Type 0 where
    pub here : g.ops o ≡ option_map no_uses (f.ops o)
    pub others : (p : N.Op) → p ≢ o → g.ops p ≡ f.ops p
    pub blocks : g.blocks ≡ f.blocks
    pub regions : g.regions ≡ f.regions

  -- each operation of the list has no operands and no successors, and all else is as it was
  pub record DropsListed (f : Forest N W) (entities : List (Entity N)) (g : Forest N W) : Type 0 where
    pub listed : (o : N.Op) → In (an_op o) entities → g.ops o ≡ option_map no_uses (f.ops o)
    pub others : (o : N.Op) → (In (an_op o) entities → ⊥) → g.ops o ≡ f.ops o
    pub either : (o : N.Op) → (g.ops o ≡ f.ops o) ⊎ (g.ops o ≡ option_map no_uses (f.ops o))
    pub blocks : g.blocks ≡ f.blocks
    pub regions : g.regions ≡ f.regions

  no_names : (m : Option (OpRecord N W)) → list_of named_by (option_map no_uses m) ≡ []
  no_names None = refl
  no_names (Some r) = refl

  module _ (f g : Forest N W) (e : Entity N) (d : DropsUses f e g) where
    same_regions : (o : N.Op) → regions_of g o ≡ regions_of f o
    same_regions o = elim (d.either o) [
      | inl k ↦ ap (list_of (λ (r : OpRecord N W). r.regions)) k
      | inr k ↦ ap (list_of (λ (r : OpRecord N W). r.regions)) k ∙ list_of-map (λ r. r.regions) no_uses (λ r. refl) (f.ops o)
    ]

    pub drop-children : (y : Entity N) → children g y ≡ children f y
    drop-children (an_op o) = ap (map a_region) (same_regions o)
    drop-children (a_block b) = ap (λ (bs : N.Block → Option (BlockRecord N W)). map an_op (list_of (λ (r : BlockRecord N W). r.ops) (bs b))) d.blocks
    drop-children (a_region q) = ap (λ (rs : N.Region → Option (List N.Block)). map a_block (list_of (λ (bs : List N.Block). bs) (rs q))) d.regions

    pub drop-inside : (c x : Entity N) → Inside f c x → Inside g c x
    drop-inside c x i = Within-fewer (children g) (children f) (λ z y h. subst (λ xs. In z xs) (sym (drop-children y)) h) c x i

    pub drop-was_inside : (c x : Entity N) → Inside g c x → Inside f c x
    drop-was_inside c x i = Within-fewer (children f) (children g) (λ z y h. subst (λ xs. In z xs) (drop-children y) h) c x i

    -- to remove e after its inner uses were dropped is to remove e
    pub drop-first : (last : Forest N W) → Removes g e last → Removes f e last
    drop-first last k = record {
      ops_inside = λ o i. k.ops_inside o (drop-inside e (an_op o) i);
      ops_outside = λ o not. k.ops_outside o (λ j. not (drop-was_inside e (an_op o) j)) ∙ ap (option_map (on_regions (but e a_region))) (d.outside o not);
      blocks_inside = λ b i. k.blocks_inside b (drop-inside e (a_block b) i);
      blocks_outside = λ b not. k.blocks_outside b (λ j. not (drop-was_inside e (a_block b) j)) ∙ ap (λ (bs : N.Block → Option (BlockRecord N W)). option_map (on_ops (but e an_op)) (bs b)) d.blocks;
      regions_inside = λ r i. k.regions_inside r (drop-inside e (a_region r) i);
      regions_outside = λ r not. k.regions_outside r (λ j. not (drop-was_inside e (a_region r) j)) ∙ ap (λ (rs : N.Region → Option (List N.Block)). option_map (but e a_block) (rs r)) d.regions;
    }

    -- what is inside a closed entity is not named once its inner uses are dropped
    pub drop-unnamed : IsClosed f e → Unnamed g e
    drop-unnamed closed o n h i = elim (d.either o) [
      | inl k ↦
          let was : In n (names_of f o) = subst (λ xs. In n xs) (names_are g o ∙ ap (list_of named_by) k ∙ sym (names_are f o)) h in
          none (d.inside o (closed o n was (drop-was_inside e (owner N n) i)))
      | inr k ↦ none k
    ]
      where
        none : g.ops o ≡ option_map no_uses (f.ops o) → ⊥
        none k = (let m : In {A = Named N} n [] = subst (λ xs. In n xs) (names_are g o ∙ ap (list_of named_by) k ∙ no_names (f.ops o)) h in m)

  -- what is inside an unnamed entity is closed
  pub unnamed-closed : (f : Forest N W) (e x : Entity N) → Unnamed f e → Inside f e x → IsClosed f x
  unnamed-closed f e x none i o d h w = absurd (none o d h (Within-trans (children f) (children f) e x (owner N d) i w))

  -- to rewrite the record of the operation is to drop its uses
  pub drops-on_op : Lawful N → (f : Forest N W) (o : N.Op) → DropsOne f o (on_op f o no_uses)
  drops-on_op L f o = record {
    here = elim (rewrite_at N.same_op L.ops o no_uses f.ops o) [ inl k ↦ k.1 | inr k ↦ absurd (k.0 refl) ];
    others = λ p ne. elim (rewrite_at N.same_op L.ops o no_uses f.ops p) [ inl k ↦ absurd (ne k.0) | inr k ↦ k.1 ];
    blocks = refl;
    regions = refl;
  }

  -- a loop over a list drops nothing at first
  pub drops-start : (f : Forest N W) → DropsListed f [] f
  drops-start f = record { listed = λ o h. elim h [ ]; others = λ o h. refl; either = λ o. inl refl; blocks = refl; regions = refl }

  twice : (m : Option (OpRecord N W)) → option_map no_uses (option_map no_uses m) ≡ option_map no_uses m
  twice None = refl
  twice (Some r) = refl

  -- then the uses of one operation more
  pub drops-op : Lawful N → (f g h : Forest N W) (entities : List (Entity N)) (o : N.Op) → DropsListed f entities g → DropsOne g o h → DropsListed f (an_op o ∷ entities) h
  drops-op L f g h entities o a b = record {
    listed = λ p i. elim (op_cases p) [
      | inl s ↦ now_none p s
      | inr ne ↦ b.others p ne ∙ a.listed p (elim i [ inl k ↦ absurd (ne (op_one p k)) | inr k ↦ k ])
    ];
    others = λ p not. b.others p (λ s. not (inl (ap an_op s))) ∙ a.others p (λ k. not (inr k));
    either = λ p. elim (op_cases p) [
      | inl s ↦ inr (now_none p s)
      | inr ne ↦ elim (a.either p) [ inl k ↦ inl (b.others p ne ∙ k) | inr k ↦ inr (b.others p ne ∙ k) ]
    ];
    blocks = b.blocks ∙ a.blocks;
    regions = b.regions ∙ a.regions;
  }
    where
      op_cases : (p : N.Op) → (p ≡ o) ⊎ (p ≢ o)
      op_cases p = by (N.same_op p o) refl
        where
          by : (t : Bool) → N.same_op p o ≡ t → (p ≡ o) ⊎ (p ≢ o)
          by true s = inl ((L.ops p o).0 s)
          by false s = inr (λ k. (let q : N.same_op p o ≡ true = (L.ops p o).1 k in cc))

      op_one : (p : N.Op) → ◌≡◌ {A = Entity N} (an_op p) (an_op o) → p ≡ o
      op_one p k = cc

      none_of : (p : N.Op) → h.ops p ≡ option_map no_uses (g.ops p) → h.ops p ≡ option_map no_uses (f.ops p)
      none_of p k = elim (a.either p) [
        | inl s ↦ k ∙ ap (option_map no_uses) s
        | inr s ↦ k ∙ ap (option_map no_uses) s ∙ twice (f.ops p)
      ]

      now_none : (p : N.Op) → p ≡ o → h.ops p ≡ option_map no_uses (f.ops p)
      now_none p s = none_of p (subst (λ q. h.ops q ≡ option_map no_uses (g.ops q)) (sym s) b.here)

  -- and at a block or a region nothing
  pub drops-other : (f g : Forest N W) (entities : List (Entity N)) (x : Entity N) → ((o : N.Op) → ◌≢◌ {A = Entity N} x (an_op o)) → DropsListed f entities g → DropsListed f (x ∷ entities) g
  drops-other f g entities x differs a = record {
    listed = λ o i. elim i [ inl k ↦ absurd (differs o (sym k)) | inr k ↦ a.listed o k ];
    others = λ o not. a.others o (λ k. not (inr k));
    either = a.either;
    blocks = a.blocks;
    regions = a.regions;
  }

  -- the order and repeats of the list do not count
  pub drops-same : (f g : Forest N W) (xs ys : List (Entity N)) → ((o : N.Op) → In {A = Entity N} (an_op o) xs ↔ In {A = Entity N} (an_op o) ys) → DropsListed f xs g → DropsListed f ys g
  drops-same f g xs ys same a = record {
    listed = λ o i. a.listed o ((same o).1 i);
    others = λ o not. a.others o (λ k. not ((same o).0 k));
    either = a.either;
    blocks = a.blocks;
    regions = a.regions;
  }

  -- so the loop may go from front to back
  pub drops-next : Lawful N → (f g h : Forest N W) (entities : List (Entity N)) (o : N.Op) → DropsListed f entities g → DropsOne g o h → DropsListed f (entities ++ an_op o ∷ []) h
  drops-next L f g h entities o a b = drops-same f h (an_op o ∷ entities) (entities ++ an_op o ∷ []) (λ p. last_first (an_op p) (an_op o) entities) (drops-op L f g h entities o a b)

  pub drops-past : (f g : Forest N W) (entities : List (Entity N)) (x : Entity N) → ((o : N.Op) → ◌≢◌ {A = Entity N} x (an_op o)) → DropsListed f entities g → DropsListed f (entities ++ x ∷ []) g
  drops-past f g entities x differs a = drops-same f g (x ∷ entities) (entities ++ x ∷ []) (λ p. last_first (an_op p) x entities) (drops-other f g entities x differs a)

  -- at the end of a listing of what is inside e, all uses inside e are dropped
  pub drops-all : (f g : Forest N W) (e : Entity N) (entities : List (Entity N)) → ListsSubtree f e entities → DropsListed f entities g → DropsUses f e g
  drops-all f g e entities lists a = record {
    inside = λ o i. a.listed o ((lists.exact (an_op o)).1 i);
    outside = λ o not. a.others o (λ k. not ((lists.exact (an_op o)).0 k));
    either = a.either;
    blocks = a.blocks;
    regions = a.regions;
  }
