-- The tree is one of lists: what links, ends and parents say agrees.
use Rattle.std.specs.Prelude.{◌≡◌, Some}
use Rattle.ir_model.specs.declared.ids.ArenaIndex.{ArenaIndex}
use Rattle.ir_model.specs.Nesting.{In, list_of}
use Rattle.ir_base_arenas.specs.Lists.{AreLists}
use Rattle.ir_core_records.specs.Tree.{Tree, ops_in, blocks_in}

pub record AreNested (t : Tree) : Type 0 where
  -- the links are those of the lists that the walks find
  pub op_lists : AreLists t.ops t.block_ends (ops_in t)
  pub block_lists : AreLists t.blocks t.region_ends (blocks_in t)
  -- each region knows its operation
  pub parents : (o g : ArenaIndex) → In g (list_of (λ gs. gs) (t.regions_of o)) → t.parent_ops g ≡ Some o
