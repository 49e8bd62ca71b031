-- The removal of a leaf in two steps, out of all lists and then away. This speaks of forests alone.
use mathlib.Core.Path.{◌≡◌, refl, sym, ap, ◌∙◌, subst, fun_ext}
use Rattle.std.proofs.Common.{true, not, Option, Some, None, List, []}
use Rattle.std.specs.Option.{option_map}
use Rattle.ir_model.specs.Ids.{Ids}
use Rattle.ir_model.specs.Forest.{Dialect, Entity, an_op, a_block, a_region, OpRecord, BlockRecord, Forest}
use Rattle.ir_model.specs.Nesting.{In, itself, below, list_of, children, Inside, IsLinked, ops_of, blocks_of, regions_of}
use Rattle.ir_model.specs.Changes.{on_ops, on_regions, in_blocks, in_regions, without, but, Removes}
use Rattle.ir_model.proofs.Loops.{Lawful}
use Rattle.ir_model.proofs.Nests.{In-map, In-map_back}
use Rattle.ir_model.proofs.Filters.{In-filter}
use Rattle.ir_model.proofs.Relinks.{without_absent, same_refl, differs}
use Rattle.ir_core_nesting.specs.Leaves.{without_op, without_block, without_region, in_ops}
use Rattle.ir_core_erasing.proofs.LeafRemovals.{but-none}

module _ {N : Ids} {W : Dialect} (L : Lawful N) (f : Forest N W) where
  -- in a leaf stands the leaf alone
  only-leaf : (x y : Entity N) → children f x ≡ [] → Inside f x y → y ≡ x
  only-leaf x y leaf itself = refl
  only-leaf x y leaf (below {c = c} h w) =
      absurd (let k : In {A = Entity N} y [] = subst (λ xs. In y xs) (ap (children f) (only-leaf x c leaf w) ∙ leaf) h in k)

  regions_but : (e : Entity N) → ((r : N.Region) → e ≡ a_region r → ⊥) → (m : Option (OpRecord N W)) → m ≡ option_map (on_regions (but e a_region)) m
  regions_but e ne None = refl
  regions_but e ne (Some r) = sym (ap (λ rs. Some (record r { regions = rs })) (but-none L a_region e r.regions (λ h. let m = In-map_back a_region e r.regions h in ne m.0 m.2)))

  ops_but : (e : Entity N) → ((o : N.Op) → e ≡ an_op o → ⊥) → (m : Option (BlockRecord N W)) → m ≡ option_map (on_ops (but e an_op)) m
  ops_but e ne None = refl
  ops_but e ne (Some r) = sym (ap (λ os. Some (record r { ops = os })) (but-none L an_op e r.ops (λ h. let m = In-map_back an_op e r.ops h in ne m.0 m.2)))

  blocks_but : (e : Entity N) → ((b : N.Block) → e ≡ a_block b → ⊥) → (m : Option (List N.Block)) → m ≡ option_map (but e a_block) m
  blocks_but e ne None = refl
  blocks_but e ne (Some bs) = sym (ap Some (but-none L a_block e bs (λ h. let m = In-map_back a_block e bs h in ne m.0 m.2)))

  pub op-removed : (o : N.Op) → children f (an_op o) ≡ [] → Removes f (an_op o) (without_op (in_blocks f (without N.same_op o)) o)
  op-removed o leaf = record {
    ops_inside = λ p i. (let e : p ≡ o = (let h = only-leaf (an_op o) (an_op p) leaf i in cc) in rw (ap (λ z. N.same_op z o) e ∙ same_refl N.same_op L.ops o) refl);
    ops_outside = λ p out. rw (differs N.same_op L.ops p o (λ e. out (subst (λ z. Inside f (an_op o) (an_op z)) (sym e) itself))) (regions_but (an_op o) (λ r e. cc) (f.ops p));
    blocks_inside = λ b i. absurd (let h = only-leaf (an_op o) (a_block b) leaf i in cc);
    blocks_outside = λ b out. refl;
    regions_inside = λ r i. absurd (let h = only-leaf (an_op o) (a_region r) leaf i in cc);
    regions_outside = λ r out. blocks_but (an_op o) (λ b e. cc) (f.regions r);
  }

  pub op-unlinked : (o : N.Op) → (IsLinked f (an_op o) → ⊥) → in_blocks f (without N.same_op o) ≡ f
  op-unlinked o free = λ i. record f { blocks = fun_ext (λ b. by b (f.blocks b) refl) i }
    where
      by : (b : N.Block) (m : Option (BlockRecord N W)) → f.blocks b ≡ m → option_map (on_ops (without N.same_op o)) m ≡ m
      by b None e = refl
      by b (Some r) e = ap (λ os. Some (record r { ops = os })) (without_absent N.same_op L.ops o r.ops
          (λ h. free (a_block b, In-map an_op o (ops_of f b) (subst (λ m. In o (list_of (λ (r : BlockRecord N W). r.ops) m)) (sym e) h))))

  -- taken out of all lists it is in none
  pub op-free : (o : N.Op) → IsLinked (in_blocks f (without N.same_op o)) (an_op o) → ⊥
  op-free o (an_op p, h) = (let m = In-map_back a_region (an_op o) (regions_of f p) h in let e = m.2 in absurd cc)
  op-free o (a_block b, h) = by (f.blocks b) (let m = In-map_back an_op (an_op o) (ops_of (in_blocks f (without N.same_op o)) b) h in let e = m.2 in let same : o ≡ m.0 = cc in subst (λ z. In z (ops_of (in_blocks f (without N.same_op o)) b)) (sym same) m.1)
    where
      by : (m : Option (BlockRecord N W)) → In o (list_of (λ (r : BlockRecord N W). r.ops) (option_map (on_ops (without N.same_op o)) m)) → ⊥
      by None k = k
      by (Some r) k = (let t : not (N.same_op o o) ≡ true = (In-filter (λ y. not (N.same_op y o)) o r.ops k).1 in let s : N.same_op o o ≡ true = same_refl N.same_op L.ops o in let u : not true ≡ true = rw s at t in cc)
  op-free o (a_region g, h) = (let m = In-map_back a_block (an_op o) (blocks_of f g) h in let e = m.2 in absurd cc)

  pub region-removed : (r : N.Region) → children f (a_region r) ≡ [] → Removes f (a_region r) (without_region (in_ops f (without N.same_region r)) r)
  region-removed r leaf = record {
    ops_inside = λ p i. absurd (let h = only-leaf (a_region r) (an_op p) leaf i in cc);
    ops_outside = λ p out. refl;
    blocks_inside = λ b i. absurd (let h = only-leaf (a_region r) (a_block b) leaf i in cc);
    blocks_outside = λ b out. ops_but (a_region r) (λ o e. cc) (f.blocks b);
    regions_inside = λ p i. (let e : p ≡ r = (let h = only-leaf (a_region r) (a_region p) leaf i in cc) in rw (ap (λ z. N.same_region z r) e ∙ same_refl N.same_region L.regions r) refl);
    regions_outside = λ p out. rw (differs N.same_region L.regions p r (λ e. out (subst (λ z. Inside f (a_region r) (a_region z)) (sym e) itself))) (blocks_but (a_region r) (λ b e. cc) (f.regions p));
  }

  pub block-removed : (b : N.Block) → children f (a_block b) ≡ [] → Removes f (a_block b) (without_block (in_regions f (without N.same_block b)) b)
  block-removed b leaf = record {
    ops_inside = λ p i. absurd (let h = only-leaf (a_block b) (an_op p) leaf i in cc);
    ops_outside = λ p out. regions_but (a_block b) (λ r e. cc) (f.ops p);
    blocks_inside = λ p i. (let e : p ≡ b = (let h = only-leaf (a_block b) (a_block p) leaf i in cc) in rw (ap (λ z. N.same_block z b) e ∙ same_refl N.same_block L.blocks b) refl);
    blocks_outside = λ p out. rw (differs N.same_block L.blocks p b (λ e. out (subst (λ z. Inside f (a_block b) (a_block z)) (sym e) itself))) (ops_but (a_block b) (λ o e. cc) (f.blocks p));
    regions_inside = λ r i. absurd (let h = only-leaf (a_block b) (a_region r) leaf i in cc);
    regions_outside = λ r out. refl;
  }

  pub block-unlinked : (b : N.Block) → (IsLinked f (a_block b) → ⊥) → in_regions f (without N.same_block b) ≡ f
  block-unlinked b free = λ i. record f { regions = fun_ext (λ g. by g (f.regions g) refl) i }
    where
      by : (g : N.Region) (m : Option (List N.Block)) → f.regions g ≡ m → option_map (without N.same_block b) m ≡ m
      by g None e = refl
      by g (Some bs) e = ap Some (without_absent N.same_block L.blocks b bs
          (λ h. free (a_region g, In-map a_block b (blocks_of f g) (subst (λ m. In b (list_of (λ (bs : List N.Block). bs) m)) (sym e) h))))

  pub block-free : (b : N.Block) → IsLinked (in_regions f (without N.same_block b)) (a_block b) → ⊥
  block-free b (an_op p, h) = (let m = In-map_back a_region (a_block b) (regions_of f p) h in let e = m.2 in absurd cc)
  block-free b (a_block p, h) = (let m = In-map_back an_op (a_block b) (ops_of f p) h in let e = m.2 in absurd cc)
  block-free b (a_region g, h) = by (f.regions g) (let m = In-map_back a_block (a_block b) (blocks_of (in_regions f (without N.same_block b)) g) h in let e = m.2 in let same : b ≡ m.0 = cc in subst (λ z. In z (blocks_of (in_regions f (without N.same_block b)) g)) (sym same) m.1)
    where
      by : (m : Option (List N.Block)) → In b (list_of (λ (bs : List N.Block). bs) (option_map (without N.same_block b) m)) → ⊥
      by None k = k
      by (Some bs) k = (let t : not (N.same_block b b) ≡ true = (In-filter (λ y. not (N.same_block y b)) b bs k).1 in let s : N.same_block b b ≡ true = same_refl N.same_block L.blocks b in let u : not true ≡ true = rw s at t in cc)
