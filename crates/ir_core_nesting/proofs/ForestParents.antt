-- What records say of where an entity stands is what the forest says.
use Rattle.std.proofs.Common.{◌≡◌, ◌↔◌, List, map, Option, Some, None, IsSome, is_some, refl, sym, ap, ◌∙◌, subst}
use Rattle.std.specs.Option.{option_map}
use Rattle.std.proofs.lemmas.Option.{same_Some}
use Rattle.ir_model.specs.declared.ids.ArenaIndex.{ArenaIndex}
use Rattle.ir_model.specs.ContextIds.{context_ids}
use Rattle.ir_model.specs.Forest.{Entity, an_op, a_block, a_region, OpRecord, BlockRecord}
use Rattle.ir_model.specs.Nesting.{In, list_of, children, ops_of, blocks_of, regions_of, IsLive, Nested, Inside, itself, below}
use Rattle.ir_model.specs.Parent.{IsParent}
use Rattle.ir_model.proofs.Nests.{In-map, In-map_back}
use Rattle.ir_base_arenas.specs.Arena.{get}
use Rattle.ir_base_arenas.specs.Lists.{container_of}
use Rattle.ir_core_records.specs.declared.record.Operation.{Operation}
use Rattle.ir_core_records.specs.declared.record.Region.{Region}
use Rattle.ir_core_records.specs.declared.records.Records.{Records}
use Rattle.ir_core_records.specs.Meaning.{closed, forest_in, op_record}
use Rattle.ir_core_records.specs.Nested.{AreNested}
use Rattle.ir_core_records.specs.Tree.{tree_of, ops_in, blocks_in, op_regions, region_parent}
use Rattle.ir_core_nesting.specs.Climbs.{kept_parent, Reaches}
use Rattle.ir_core_nesting.proofs.Listed.{ops_of-is, blocks_of-is}

module _ {D A K B S X L : Type 0} (t : Records D A K B S X L) (nested : AreNested (tree_of t)) (formed : Nested (forest_in t))
    (op_homes : (b o : ArenaIndex) → (container_of (tree_of t).ops o ≡ Some b) ↔ In o (ops_in (tree_of t) b))
    (block_homes : (g b : ArenaIndex) → (container_of (tree_of t).blocks b ≡ Some g) ↔ In b (blocks_in (tree_of t) g)) where
  -- a region's record names the operation in whose list it is
  owner-named : (g o : ArenaIndex) → In g (regions_of (forest_in t) o) → (tree_of t).parent_ops g ≡ Some o
  owner-named g o h = nested.parents o g (by (get t.ops o) h)
    where
      by : (m : Option (Operation D A K B S X L)) → In g (list_of (λ (r : OpRecord context_ids (closed A K B S X L)). r.regions) (option_map op_record m)) → In g (list_of (λ gs. gs) (option_map op_regions m))
      by None k = absurd k
      by (Some x) k = k

  pub parent-to : (x y : Entity context_ids) → kept_parent (tree_of t) x ≡ Some y → In x (children (forest_in t) y)
  parent-to (an_op o) y e = by (container_of (tree_of t).ops o) refl e
    where
      by : (c : Option ArenaIndex) → container_of (tree_of t).ops o ≡ c → option_map a_block c ≡ Some y → In (an_op o) (children (forest_in t) y)
      by None k e = absurd cc
      by (Some b) k e = subst (λ (z : Entity context_ids). In (an_op o) (children (forest_in t) z)) (same_Some _ _ e)
          (In-map an_op o (ops_of (forest_in t) b) (subst (λ xs. In o xs) (sym (ops_of-is t nested b)) ((op_homes b o).0 k)))
  parent-to (a_block o) y e = by (container_of (tree_of t).blocks o) refl e
    where
      by : (c : Option ArenaIndex) → container_of (tree_of t).blocks o ≡ c → option_map a_region c ≡ Some y → In (a_block o) (children (forest_in t) y)
      by None k e = absurd cc
      by (Some g) k e = subst (λ (z : Entity context_ids). In (a_block o) (children (forest_in t) z)) (same_Some _ _ e)
          (In-map a_block o (blocks_of (forest_in t) g) (subst (λ xs. In o xs) (sym (blocks_of-is t nested g)) ((block_homes g o).0 k)))
  parent-to (a_region g) y e = by (get t.regions g) refl e
    where
      by : (r : Option Region) → get t.regions g ≡ r → option_map an_op (option_map region_parent r) ≡ Some y → In (a_region g) (children (forest_in t) y)
      by None k e = absurd cc
      by (Some r) k e =
          let live : IsSome (option_map (λ (_ : Region). blocks_in (tree_of t) g) (get t.regions g)) = ap (λ (o : Option Region). is_some (option_map (λ (_ : Region). blocks_in (tree_of t) g) o)) k in
          let at = formed.regions_linked g live in
          let own : Some r.parent ≡ Some at.0 = sym (ap (option_map region_parent) k) ∙ owner-named g at.0 at.1 in
          subst (λ (z : Entity context_ids). In (a_region g) (children (forest_in t) z)) (ap an_op (sym (same_Some _ _ own)) ∙ same_Some _ _ e)
          (In-map a_region g (regions_of (forest_in t) at.0) at.1)

  pub parent-from : (x y : Entity context_ids) → In x (children (forest_in t) y) → kept_parent (tree_of t) x ≡ Some y
  parent-from x (an_op o) h =
      let m = In-map_back a_region x (regions_of (forest_in t) o) h in
      ap (kept_parent (tree_of t)) m.2 ∙ ap (option_map an_op) (owner-named m.0 o m.1)
  parent-from x (a_block b) h =
      let m = In-map_back an_op x (ops_of (forest_in t) b) h in
      ap (kept_parent (tree_of t)) m.2 ∙ ap (option_map a_block) ((op_homes b m.0).1 (subst (λ xs. In m.0 xs) (ops_of-is t nested b) m.1))
  parent-from x (a_region g) h =
      let m = In-map_back a_block x (blocks_of (forest_in t) g) h in
      ap (kept_parent (tree_of t)) m.2 ∙ ap (option_map a_region) ((block_homes g m.0).1 (subst (λ xs. In m.0 xs) (blocks_of-is t nested g) m.1))

  -- what the record says is the parent
  pub parent-is : (x : Entity context_ids) (answer : Option (Entity context_ids)) → answer ≡ kept_parent (tree_of t) x → IsParent (forest_in t) x answer
  parent-is x None e = λ y h. absurd (let k : kept_parent (tree_of t) x ≡ Some y = parent-from x y h in cc)
  parent-is x (Some y) e = parent-to x y (sym e)

  -- what has something in its list is live
  pub owner-live : (x y : Entity context_ids) → In x (children (forest_in t) y) → IsLive (forest_in t) y
  owner-live x (an_op o) h = by ((forest_in t).ops o) h
    where
      by : (m : Option (OpRecord context_ids (closed A K B S X L))) → In x (map a_region (list_of (λ (r : OpRecord context_ids (closed A K B S X L)). r.regions) m)) → IsSome m
      by None k = absurd k
      by (Some r) k = refl
  owner-live x (a_block b) h = by ((forest_in t).blocks b) h
    where
      by : (m : Option (BlockRecord context_ids (closed A K B S X L))) → In x (map an_op (list_of (λ (r : BlockRecord context_ids (closed A K B S X L)). r.ops) m)) → IsSome m
      by None k = absurd k
      by (Some r) k = refl
  owner-live x (a_region g) h = by ((forest_in t).regions g) h
    where
      by : (m : Option (List ArenaIndex)) → In x (map a_block (list_of (λ (bs : List ArenaIndex). bs) m)) → IsSome m
      by None k = absurd k
      by (Some r) k = refl

  inside-down : (e x : Entity context_ids) → (x ≡ e → ⊥) → Inside (forest_in t) e x → Reaches (forest_in t) e (kept_parent (tree_of t) x)
  inside-down e x other itself = absurd (other refl)
  inside-down e x other (below {c = c} h w) = subst (Reaches (forest_in t) e) (sym (parent-from x c h)) w

  -- an entity that is not e stands inside e exactly where its parent does
  pub inside-up : (e x : Entity context_ids) → (x ≡ e → ⊥) → Inside (forest_in t) e x ↔ Reaches (forest_in t) e (kept_parent (tree_of t) x)
  inside-up e x other = (inside-down e x other, up (kept_parent (tree_of t) x) refl)
    where
      up : (o : Option (Entity context_ids)) → kept_parent (tree_of t) x ≡ o → Reaches (forest_in t) e o → Inside (forest_in t) e x
      up None k r = absurd r
      up (Some y) k r = below (parent-to x y k) r
