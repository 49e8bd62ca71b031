-- What an edit of the lists makes of all records.
use Rattle.std.specs.Prelude.{◌≡◌, List, None}
use Rattle.std.specs.Option.{option_map}
use Rattle.ir_model.specs.declared.ids.ArenaIndex.{ArenaIndex}
use Rattle.ir_model.specs.ContextIds.{context_ids}
use Rattle.ir_model.specs.Forest.{Dialect, Forest}
use Rattle.ir_model.specs.Changes.{on_ops}
use Rattle.ir_base_arenas.specs.Arena.{Arena}
use Rattle.ir_base_arenas.specs.Lists.{AreLists, SameBut, SameIds, seen}
use Rattle.ir_core_records.specs.declared.record.Operation.{Operation}
use Rattle.ir_core_records.specs.declared.record.BasicBlock.{BasicBlock}
use Rattle.ir_core_records.specs.declared.record.Region.{Region}
use Rattle.ir_core_records.specs.declared.records.Records.{Records}
use Rattle.ir_core_records.specs.Chains.{chains_of}
use Rattle.ir_core_records.specs.Meaning.{closed, forest_in}
use Rattle.ir_core_records.specs.Nested.{AreNested}
use Rattle.ir_core_records.specs.Table.{KnowOwn}
use Rattle.ir_core_records.specs.Tree.{tree_of, op_links, block_links, block_ends, region_ends}

module _ {W : Dialect} where
  -- the forest with these lists in its blocks
  abbrev pub with_op_lists : Forest context_ids W → (ArenaIndex → List ArenaIndex) → Forest context_ids W
  with_op_lists f lists = record f { blocks = λ b. option_map (on_ops (λ _. lists b)) (f.blocks b) }

  -- the forest with these lists in its regions
  abbrev pub with_block_lists : Forest context_ids W → (ArenaIndex → List ArenaIndex) → Forest context_ids W
  with_block_lists f lists = record f { regions = λ g. option_map (λ _. lists g) (f.regions g) }

-- a region that forgets its list
abbrev pub no_region_ends : Region → Region
no_region_ends x = record x { first = None; last = None }

module _ {D A K B S X L : Type 0} where
  -- an operation that forgets where it stands
  abbrev pub no_op_links : Operation D A K B S X L → Operation D A K B S X L
  no_op_links x = record x { next = None; prev = None; parent = None }

  -- a block that forgets where it stands
  abbrev pub no_block_links : BasicBlock D A K B S X L → BasicBlock D A K B S X L
  no_block_links x = record x { next = None; prev = None; parent = None }

  -- a block that forgets its list
  abbrev pub no_block_ends : BasicBlock D A K B S X L → BasicBlock D A K B S X L
  no_block_ends x = record x { ops_list = record { first = None; last = None } }

  -- the same is used at the same places, no id was handed out and none has gone, and records know their places as before
  pub record KeepsChains (old new : Records D A K B S X L) : Type 0 where
    pub chains : chains_of new ≡ chains_of old
    pub op_ids : SameIds old.ops new.ops
    pub block_ids : SameIds old.blocks new.blocks
    pub region_ids : SameIds old.regions new.regions
    pub own : KnowOwn old → KnowOwn new

  -- the records mean this forest now, their links agree, and all else is kept
  pub record EditsTo (old new : Records D A K B S X L) (f : Forest context_ids (closed A K B S X L)) : Type 0 where
    pub forest : forest_in new ≡ f
    pub nested : AreNested (tree_of new)
    pub keeps : KeepsChains old new

-- an edit of the lists of operations alone is told by the new lists
abbrev pub OpListsTell : (D A K B S X L : Type 0) → Type 0
OpListsTell D A K B S X L =
    (old : Records D A K B S X L) (ops : Arena (Operation D A K B S X L)) (blocks : Arena (BasicBlock D A K B S X L)) (lists : ArenaIndex → List ArenaIndex)
    → AreNested (tree_of old) → AreLists (seen op_links ops) (seen block_ends blocks) lists → SameBut no_op_links old.ops ops → SameBut no_block_ends old.blocks blocks
    → EditsTo old (record old { ops = ops; blocks = blocks }) (with_op_lists (forest_in old) lists)

-- an edit of the lists of blocks alone is told by the new lists
abbrev pub BlockListsTell : (D A K B S X L : Type 0) → Type 0
BlockListsTell D A K B S X L =
    (old : Records D A K B S X L) (blocks : Arena (BasicBlock D A K B S X L)) (regions : Arena Region) (lists : ArenaIndex → List ArenaIndex)
    → AreNested (tree_of old) → AreLists (seen block_links blocks) (seen region_ends regions) lists → SameBut no_block_links old.blocks blocks → SameBut no_region_ends old.regions regions
    → EditsTo old (record old { blocks = blocks; regions = regions }) (with_block_lists (forest_in old) lists)
