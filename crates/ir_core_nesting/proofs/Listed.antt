-- The lists of the forest are those that the walks find.
use Rattle.std.proofs.Common.{◌≡◌, List, Option, Some, None, refl, sym, ap, subst}
use Rattle.std.specs.Option.{option_map}
use Rattle.ir_model.specs.declared.ids.ArenaIndex.{ArenaIndex}
use Rattle.ir_model.specs.ContextIds.{context_ids}
use Rattle.ir_model.specs.Forest.{an_op, a_block, a_region, BlockRecord}
use Rattle.ir_model.specs.Nesting.{In, list_of, IsLinked, ops_of, blocks_of, regions_of}
use Rattle.ir_model.proofs.Nests.{In-map, In-map_back}
use Rattle.ir_base_arenas.specs.Arena.{get}
use Rattle.ir_core_records.specs.declared.record.BasicBlock.{BasicBlock}
use Rattle.ir_core_records.specs.declared.record.Region.{Region}
use Rattle.ir_core_records.specs.declared.records.Records.{Records}
use Rattle.ir_core_records.specs.Meaning.{closed, forest_in, block_record}
use Rattle.ir_core_records.specs.Nested.{AreNested}
use Rattle.ir_core_records.specs.Tree.{tree_of, ops_in, blocks_in, block_ends, region_ends}

module _ {D A K B S X L : Type 0} (t : Records D A K B S X L) (nested : AreNested (tree_of t)) where
  pub ops_of-is : (b : ArenaIndex) → ops_of (forest_in t) b ≡ ops_in (tree_of t) b
  ops_of-is b = by (get t.blocks b) refl
    where
      by : (m : Option (BasicBlock D A K B S X L)) → get t.blocks b ≡ m → list_of (λ (r : BlockRecord context_ids (closed A K B S X L)). r.ops) (option_map (block_record (ops_in (tree_of t) b)) m) ≡ ops_in (tree_of t) b
      by None e = sym (nested.op_lists.absent b (ap (option_map block_ends) e))
      by (Some r) e = refl

  pub blocks_of-is : (g : ArenaIndex) → blocks_of (forest_in t) g ≡ blocks_in (tree_of t) g
  blocks_of-is g = by (get t.regions g) refl
    where
      by : (m : Option Region) → get t.regions g ≡ m → list_of (λ (bs : List ArenaIndex). bs) (option_map (λ _. blocks_in (tree_of t) g) m) ≡ blocks_in (tree_of t) g
      by None e = sym (nested.block_lists.absent g (ap (option_map region_ends) e))
      by (Some r) e = refl

  pub listed-op : (o b : ArenaIndex) → In o (ops_in (tree_of t) b) → IsLinked (forest_in t) (an_op o)
  listed-op o b h = (a_block b, In-map an_op o (ops_of (forest_in t) b) (subst (λ xs. In o xs) (sym (ops_of-is b)) h))

  pub listed-block : (b g : ArenaIndex) → In b (blocks_in (tree_of t) g) → IsLinked (forest_in t) (a_block b)
  listed-block b g h = (a_region g, In-map a_block b (blocks_of (forest_in t) g) (subst (λ xs. In b xs) (sym (blocks_of-is g)) h))

  pub list-of_op : (o : ArenaIndex) → IsLinked (forest_in t) (an_op o) → (b : ArenaIndex) × In o (ops_in (tree_of t) b)
  list-of_op o (an_op p, h) = absurd (let m = In-map_back a_region (an_op o) (regions_of (forest_in t) p) h in let e = m.2 in cc)
  list-of_op o (a_block b, h) =
      let m = In-map_back an_op (an_op o) (ops_of (forest_in t) b) h in
      let same : o ≡ m.0 = (let e = m.2 in cc) in
      (b, subst (λ xs. In o xs) (ops_of-is b) (subst (λ z. In z (ops_of (forest_in t) b)) (sym same) m.1))
  list-of_op o (a_region g, h) = absurd (let m = In-map_back a_block (an_op o) (blocks_of (forest_in t) g) h in let e = m.2 in cc)

  pub list-of_block : (b : ArenaIndex) → IsLinked (forest_in t) (a_block b) → (g : ArenaIndex) × In b (blocks_in (tree_of t) g)
  list-of_block b (an_op p, h) = absurd (let m = In-map_back a_region (a_block b) (regions_of (forest_in t) p) h in let e = m.2 in cc)
  list-of_block b (a_block p, h) = absurd (let m = In-map_back an_op (a_block b) (ops_of (forest_in t) p) h in let e = m.2 in cc)
  list-of_block b (a_region g, h) =
      let m = In-map_back a_block (a_block b) (blocks_of (forest_in t) g) h in
      let same : b ≡ m.0 = (let e = m.2 in cc) in
      (g, subst (λ xs. In b xs) (blocks_of-is g) (subst (λ z. In z (blocks_of (forest_in t) g)) (sym same) m.1))
