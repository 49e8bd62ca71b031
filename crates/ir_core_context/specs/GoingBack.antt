-- What was unlinked goes back.
use Rattle.std.specs.Prelude.{◌≡◌, ◌∷◌, Some}
use Rattle.ir_model.specs.declared.ids.ArenaIndex.{ArenaIndex}
use Rattle.ir_model.specs.ContextIds.{context_ids, same_id}
use Rattle.ir_model.specs.Forest.{Dialect, Forest, a_block, a_region, an_op}
use Rattle.ir_model.specs.Nesting.{IsLive, blocks_of, ops_of}
use Rattle.ir_model.specs.Parent.{ComesAfter, first_of}
use Rattle.ir_model.specs.Changes.{in_blocks, in_regions, on_block, on_ops, on_region, put_after}
use Rattle.ir_model.specs.Edits.{MayGoBeside, MayGoInto}

module _ {W : Dialect} where
  -- the operation is live; it may be put behind the one that it stood behind, or at the front of the block, which is live, in which it stood first
  pub record OpMayGoBack (old new : Forest context_ids W) (op : ArenaIndex) : Type 0 where
    pub live : IsLive new (an_op op)
    pub after : (mark : ArenaIndex) → ComesAfter old (an_op mark) (an_op op) → MayGoBeside new (an_op op) (an_op mark)
    pub front : (block : ArenaIndex) → first_of (ops_of old block) ≡ Some op → MayGoInto new (an_op op) (a_block block)
    pub block_live : (block : ArenaIndex) → first_of (ops_of old block) ≡ Some op → IsLive new (a_block block)

  -- the operation put back there leaves the forest as it was
  pub record OpGoesBack (old new : Forest context_ids W) (op : ArenaIndex) : Type 0 where
    pub after : (mark : ArenaIndex) → ComesAfter old (an_op mark) (an_op op) → in_blocks new (put_after same_id op mark) ≡ old
    pub front : (block : ArenaIndex) → first_of (ops_of old block) ≡ Some op → on_block new block (on_ops (λ os. op ∷ os)) ≡ old

  -- the block is live; it may be put behind the one that it stood behind, or at the front of the region, which is live, in which it stood first
  pub record BlockMayGoBack (old new : Forest context_ids W) (block : ArenaIndex) : Type 0 where
    pub live : IsLive new (a_block block)
    pub after : (mark : ArenaIndex) → ComesAfter old (a_block mark) (a_block block) → MayGoBeside new (a_block block) (a_block mark)
    pub front : (region : ArenaIndex) → first_of (blocks_of old region) ≡ Some block → MayGoInto new (a_block block) (a_region region)
    pub region_live : (region : ArenaIndex) → first_of (blocks_of old region) ≡ Some block → IsLive new (a_region region)

  -- the block put back there leaves the forest as it was
  pub record BlockGoesBack (old new : Forest context_ids W) (block : ArenaIndex) : Type 0 where
    pub after : (mark : ArenaIndex) → ComesAfter old (a_block mark) (a_block block) → in_regions new (put_after same_id block mark) ≡ old
    pub front : (region : ArenaIndex) → first_of (blocks_of old region) ≡ Some block → on_region new region (λ bs. block ∷ bs) ≡ old
