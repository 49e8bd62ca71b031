-- A change that leaves the lists leaves what the walks find.
use mathlib.Core.Path.{fun_ext}
use Rattle.std.proofs.Common.{◌≡◌, List, Some, sym, subst}
use Rattle.ir_model.specs.declared.ids.ArenaIndex.{ArenaIndex}
use Rattle.ir_model.specs.ContextIds.{context_ids}
use Rattle.ir_model.specs.Forest.{Forest}
use Rattle.ir_model.specs.Nesting.{In, list_of as in_list}
use Rattle.ir_base_arenas.specs.Arena.{Arena}
use Rattle.ir_base_arenas.specs.Lists.{Links, Ends, seen, AreLists}
use Rattle.ir_base_arenas.specs.Walks.{list_in}
use Rattle.ir_core_records.specs.declared.record.Operation.{Operation}
use Rattle.ir_core_records.specs.declared.record.BasicBlock.{BasicBlock}
use Rattle.ir_core_records.specs.declared.record.Region.{Region}
use Rattle.ir_core_records.specs.declared.records.Records.{Records}
use Rattle.ir_core_records.specs.Tree.{tree_of, ops_in, blocks_in, op_links, block_links, block_ends, region_ends}
use Rattle.ir_core_records.specs.Nested.{AreNested}
use Rattle.ir_core_records.specs.Chains.{chains_of}
use Rattle.ir_core_records.specs.Meaning.{closed, forest_in}
use Rattle.ir_core_records.specs.Table.{KnowOwn}

-- the walks find the lists of two arenas, whatever these are
abbrev pub AreFound : {T C : Type 0} → (T → Links) → (C → Ends) → Type 0
AreFound {T} {C} links ends =
    (nodes : Arena T) (containers : Arena C) (lists : ArenaIndex → List ArenaIndex)
    → AreLists (seen links nodes) (seen ends containers) lists → (c : ArenaIndex) → lists c ≡ list_in links ends nodes containers c

-- of blocks and of regions
abbrev pub OpsFound : (D A K B S X L : Type 0) → Type 0
OpsFound D A K B S X L = AreFound {T = Operation D A K B S X L} {C = BasicBlock D A K B S X L} op_links block_ends

abbrev pub BlocksFound : (D A K B S X L : Type 0) → Type 0
BlocksFound D A K B S X L = AreFound {T = BasicBlock D A K B S X L} {C = Region} block_links region_ends

module _ {D A K B S X L : Type 0} where
  -- the records mean this forest now, their links agree, the same is used at the same places, and records know their places as before
  pub record Becomes (old new : Records D A K B S X L) (f : Forest context_ids (closed A K B S X L)) : Type 0 where
    pub forest : forest_in new ≡ f
    pub nested : AreNested (tree_of new)
    pub chains : chains_of new ≡ chains_of old
    pub own : KnowOwn old → KnowOwn new

  module _ (old new : Records D A K B S X L) where
    pub ops-are : OpsFound D A K B S X L → AreLists (tree_of new).ops (tree_of new).block_ends (ops_in (tree_of old)) → ops_in (tree_of new) ≡ ops_in (tree_of old)
    ops-are found lists = fun_ext (λ b. sym (found new.ops new.blocks (ops_in (tree_of old)) lists b))

    pub blocks-are : BlocksFound D A K B S X L → AreLists (tree_of new).blocks (tree_of new).region_ends (blocks_in (tree_of old)) → blocks_in (tree_of new) ≡ blocks_in (tree_of old)
    blocks-are found lists = fun_ext (λ g. sym (found new.blocks new.regions (blocks_in (tree_of old)) lists g))

    pub nested-still : ops_in (tree_of new) ≡ ops_in (tree_of old) → blocks_in (tree_of new) ≡ blocks_in (tree_of old)
        → AreLists (tree_of new).ops (tree_of new).block_ends (ops_in (tree_of old))
        → AreLists (tree_of new).blocks (tree_of new).region_ends (blocks_in (tree_of old))
        → ((o g : ArenaIndex) → In g (in_list (λ gs. gs) ((tree_of new).regions_of o)) → (tree_of new).parent_ops g ≡ Some o)
        → AreNested (tree_of new)
    nested-still ops blocks op_lists block_lists parents = record {
      op_lists = subst (λ (f : ArenaIndex → List ArenaIndex). AreLists (tree_of new).ops (tree_of new).block_ends f) (sym ops) op_lists;
      block_lists = subst (λ (f : ArenaIndex → List ArenaIndex). AreLists (tree_of new).blocks (tree_of new).region_ends f) (sym blocks) block_lists;
      parents = parents;
    }
