-- What an edit of uses leaves of all records.
use Rattle.std.specs.Prelude.{◌≡◌}
use Rattle.ir_base_arenas.specs.Lists.{SameIds}
use Rattle.ir_core_records.specs.declared.records.Records.{Records}
use Rattle.ir_core_records.specs.Tree.{tree_of}
use Rattle.ir_core_records.specs.Table.{KnowOwn}

module _ {D A K B S X L : Type 0} where
  -- the tree is the same, the arenas have handed out the same ids and have the same room, and records know their places as before
  pub record KeepsTree (old new : Records D A K B S X L) : Type 0 where
    pub tree : tree_of new ≡ tree_of old
    pub op_ids : SameIds old.ops new.ops
    pub block_ids : SameIds old.blocks new.blocks
    pub regions : new.regions ≡ old.regions
    pub own : KnowOwn old → KnowOwn new
