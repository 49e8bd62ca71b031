-- Who stands in whom, as all records say it by links and lists of regions: one of two projections of the records, beside the chains.
use Rattle.std.specs.Prelude.{ℕ, List, length, None}
use Rattle.ir_model.specs.declared.ids.ArenaIndex.{ArenaIndex}
use Rattle.ir_base_arenas.specs.Lists.{Links, Ends, Heap, seen}
use Rattle.ir_base_arenas.specs.Walks.{walk_to, head_in}
use Rattle.ir_core_records.specs.declared.record.Operation.{Operation}
use Rattle.ir_core_records.specs.declared.record.BasicBlock.{BasicBlock}
use Rattle.ir_core_records.specs.declared.record.Region.{Region}
use Rattle.ir_core_records.specs.declared.records.Records.{Records}

-- links of operations and blocks, ends of blocks and regions, regions of operations, operations of regions, and how many nodes a list can have
pub record Tree : Type 0 where
  pub ops : Heap Links
  pub blocks : Heap Links
  pub block_ends : Heap Ends
  pub region_ends : Heap Ends
  pub regions_of : Heap (List ArenaIndex)
  pub parent_ops : Heap ArenaIndex
  pub op_slots : ℕ
  pub block_slots : ℕ

-- the operations of a block, by a walk over the links
abbrev pub ops_in : Tree → ArenaIndex → List ArenaIndex
ops_in t b = walk_to t.op_slots t.ops (head_in (t.block_ends b)) None

-- the blocks of a region, by a walk over the links
abbrev pub blocks_in : Tree → ArenaIndex → List ArenaIndex
blocks_in t g = walk_to t.block_slots t.blocks (head_in (t.region_ends g)) None

-- the ends of a region's list
abbrev pub region_ends : Region → Ends
region_ends r = record { head = r.first; tail = r.last }

-- the operation that a region belongs to
abbrev pub region_parent : Region → ArenaIndex
region_parent r = r.parent

module _ {D A K B S X L : Type 0} where
  -- an operation as a node
  abbrev pub op_links : Operation D A K B S X L → Links
  op_links op = record { next = op.next; prev = op.prev; container = op.parent }

  -- a block as a node
  abbrev pub block_links : BasicBlock D A K B S X L → Links
  block_links b = record { next = b.next; prev = b.prev; container = b.parent }

  -- a block as a container
  abbrev pub block_ends : BasicBlock D A K B S X L → Ends
  block_ends b = record { head = b.ops_list.first; tail = b.ops_list.last }

  -- the regions of an operation
  abbrev pub op_regions : Operation D A K B S X L → List ArenaIndex
  op_regions op = op.regions

  -- what all records say of who stands in whom
  abbrev pub tree_of : Records D A K B S X L → Tree
  tree_of t = record {
    ops = seen op_links t.ops;
    blocks = seen block_links t.blocks;
    block_ends = seen block_ends t.blocks;
    region_ends = seen region_ends t.regions;
    regions_of = seen op_regions t.ops;
    parent_ops = seen region_parent t.regions;
    op_slots = length t.ops.slots;
    block_slots = length t.blocks.slots;
  }
