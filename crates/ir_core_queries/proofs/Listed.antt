-- The lists of the forest are those that the links make, and only blocks have operations in them, and only regions blocks.
use Rattle.std.proofs.Common.{◌≡◌, List, map, Option, Some, None, refl, sym, ap}
use Rattle.std.specs.Option.{option_map}
use Rattle.ir_model.specs.declared.ids.ArenaIndex.{ArenaIndex}
use Rattle.ir_model.specs.ContextIds.{context_ids}
use Rattle.ir_model.specs.Forest.{Dialect, Entity, an_op, a_block, a_region, BlockRecord, Forest}
use Rattle.ir_model.specs.Nesting.{In, children, list_of, ops_of, blocks_of, regions_of}
use Rattle.ir_model.proofs.Nests.{In-map_back}
use Rattle.ir_base_arenas.specs.Arena.{get}
use Rattle.ir_core_records.specs.declared.record.BasicBlock.{BasicBlock}
use Rattle.ir_core_records.specs.declared.record.Region.{Region}
use Rattle.ir_core_records.specs.declared.records.Records.{Records}
use Rattle.ir_core_records.specs.Meaning.{closed, forest_in, block_record}
use Rattle.ir_core_records.specs.Nested.{AreNested}
use Rattle.ir_core_records.specs.Tree.{tree_of, ops_in, blocks_in, block_ends, region_ends}

-- nodes of one kind stand in the lists of containers of one kind alone, and these are the lists
pub record AreListed {W : Dialect} (f : Forest context_ids W) (node home : ArenaIndex → Entity context_ids) (lists : ArenaIndex → List ArenaIndex) : Type 0 where
  pub list : (b : ArenaIndex) → children f (home b) ≡ map node (lists b)
  pub homes : (x : ArenaIndex) (y : Entity context_ids) → In (node x) (children f y) → (b : ArenaIndex) × (y ≡ home b)
  pub one : (x z : ArenaIndex) → node x ≡ node z → x ≡ z

module _ {W : Dialect} (f : Forest context_ids W) where
  op-home : (o : ArenaIndex) (y : Entity context_ids) → In (an_op o) (children f y) → (b : ArenaIndex) × (y ≡ a_block b)
  op-home o (an_op p) h = absurd (let m = In-map_back a_region (an_op o) (regions_of f p) h in let e = m.2 in cc)
  op-home o (a_block b) h = (b, refl)
  op-home o (a_region g) h = absurd (let m = In-map_back a_block (an_op o) (blocks_of f g) h in let e = m.2 in cc)

  block-home : (b : ArenaIndex) (y : Entity context_ids) → In (a_block b) (children f y) → (g : ArenaIndex) × (y ≡ a_region g)
  block-home b (an_op p) h = absurd (let m = In-map_back a_region (a_block b) (regions_of f p) h in let e = m.2 in cc)
  block-home b (a_block p) h = absurd (let m = In-map_back an_op (a_block b) (ops_of f p) h in let e = m.2 in cc)
  block-home b (a_region g) h = (g, refl)

one-op : (x z : ArenaIndex) → ◌≡◌ {A = Entity context_ids} (an_op x) (an_op z) → x ≡ z
one-op x z e = cc

one-block : (x z : ArenaIndex) → ◌≡◌ {A = Entity context_ids} (a_block x) (a_block z) → x ≡ z
one-block x z e = cc

module _ {D A K B S X L : Type 0} (t : Records D A K B S X L) (nested : AreNested (tree_of t)) where
  -- the operations of a block are those that its links make
  pub ops-meant : (b : ArenaIndex) → ops_of (forest_in t) b ≡ ops_in (tree_of t) b
  ops-meant b = by (get t.blocks b) refl
    where
      by : (m : Option (BasicBlock D A K B S X L)) → get t.blocks b ≡ m → list_of (λ (r : BlockRecord context_ids (closed A K B S X L)). r.ops) (option_map (block_record (ops_in (tree_of t) b)) m) ≡ ops_in (tree_of t) b
      by None e = sym (nested.op_lists.absent b (ap (option_map block_ends) e))
      by (Some r) e = refl

  -- the blocks of a region are those that its links make
  pub blocks-meant : (g : ArenaIndex) → blocks_of (forest_in t) g ≡ blocks_in (tree_of t) g
  blocks-meant g = by (get t.regions g) refl
    where
      by : (m : Option Region) → get t.regions g ≡ m → list_of (λ (bs : List ArenaIndex). bs) (option_map (λ _. blocks_in (tree_of t) g) m) ≡ blocks_in (tree_of t) g
      by None e = sym (nested.block_lists.absent g (ap (option_map region_ends) e))
      by (Some r) e = refl

  pub ops-listed : AreListed (forest_in t) an_op a_block (ops_in (tree_of t))
  ops-listed = record { list = λ b. ap (map an_op) (ops-meant b); homes = op-home (forest_in t); one = one-op }

  pub blocks-listed : AreListed (forest_in t) a_block a_region (blocks_in (tree_of t))
  blocks-listed = record { list = λ g. ap (map a_block) (blocks-meant g); homes = block-home (forest_in t); one = one-block }
