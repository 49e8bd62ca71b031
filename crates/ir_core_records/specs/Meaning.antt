-- What all records mean: a plain forest that knows nothing of use lists, places and links.
use Rattle.std.specs.Prelude.{ℕ, ◌+◌, List, [], ◌∷◌, map, Option}
use Rattle.std.specs.Option.{option_map}
use Rattle.ir_model.specs.declared.ids.ArenaIndex.{ArenaIndex}
use Rattle.ir_model.specs.ContextIds.{context_ids}
use Rattle.ir_model.specs.Forest.{Dialect, Definer as DefinedBy, of_op, of_block, Value, Entity, an_op, a_block, a_region, Definition as PlainDefinition, Operand, Successor, OpRecord, BlockRecord, Forest}
use Rattle.ir_model.specs.Uses.{Use}
use Rattle.ir_base_arenas.specs.Arena.{get}
use Rattle.ir_core_records.specs.declared.record.EntityIndex.{EntityIndex}
use Rattle.ir_core_records.specs.declared.record.EntityIndex.TheVariants.{Op as OpEntity, Block as BlockEntity, Region as RegionEntity}
use Rattle.ir_core_records.specs.declared.record.Definer.{Definer}
use Rattle.ir_core_records.specs.declared.record.Definer.TheVariants.{Op, Block}
use Rattle.ir_core_records.specs.declared.record.ValueIndex.{ValueIndex}
use Rattle.ir_core_records.specs.declared.record.BlockIndex.{BlockIndex}
use Rattle.ir_core_records.specs.declared.record.UseIndex.{UseIndex}
use Rattle.ir_core_records.specs.declared.record.UsePlace.{UsePlace}
use Rattle.ir_core_records.specs.declared.record.Definition.{Definition}
use Rattle.ir_core_records.specs.declared.record.Operation.{Operation}
use Rattle.ir_core_records.specs.declared.record.BasicBlock.{BasicBlock}
use Rattle.ir_core_records.specs.declared.record.Region.{Region}
use Rattle.ir_core_records.specs.declared.records.Records.{Records}
use Rattle.ir_core_records.specs.Tree.{tree_of, ops_in, blocks_in}

-- the closed types of one compiler, from those of the trait
abbrev pub closed : (A K B S X L : Type 0) → Dialect
closed A K B S X L = record { Key = K; Body = B; Attr = A; Saved = S; Aux = X; Loc = L }

-- the entity that an index means
abbrev pub entity_of : EntityIndex → Entity context_ids
entity_of (OpEntity o) = an_op o
entity_of (BlockEntity b) = a_block b
entity_of (RegionEntity g) = a_region g

abbrev pub definer_of : Definer → DefinedBy context_ids
definer_of (Op o) = of_op o
definer_of (Block b) = of_block b

-- the value that an index means
abbrev pub value_of : ValueIndex → Value context_ids
value_of v = record { definer = definer_of v.definer; number = v.number }

-- the use that an index means
abbrev pub use_of : UseIndex → Use context_ids
use_of u = record { user = u.user; number = u.number }

abbrev pub operand_of : UsePlace ValueIndex → Operand context_ids
operand_of a = record { use_number = a.number; value = value_of a.names }

abbrev pub successor_of : UsePlace BlockIndex → Successor context_ids
successor_of a = record { use_number = a.number; block = a.names.index }

-- operands with these values, numbered from n on
abbrev pub operands_from : ℕ → List ValueIndex → List (Operand context_ids)
operands_from n [] = []
operands_from n (v ∷ vs) = record { use_number = n; value = value_of v } ∷ operands_from (n + 1) vs

-- successors with these blocks, numbered from n on
abbrev pub successors_from : ℕ → List BlockIndex → List (Successor context_ids)
successors_from n [] = []
successors_from n (b ∷ bs) = record { use_number = n; block = b.index } ∷ successors_from (n + 1) bs

-- the index that a region knows as its own
abbrev pub region_index : Region → ArenaIndex
region_index r = r.index

module _ {A K B S X L : Type 0} where
  abbrev pub definition_of : Definition → PlainDefinition context_ids (closed A K B S X L)
  definition_of r = record { number = r.number; ty = r.ty; name = option_map (λ b. b.value) r.name }

module _ {D A K B S X L : Type 0} where
  -- what an operation means
  abbrev pub op_record : Operation D A K B S X L → OpRecord context_ids (closed A K B S X L)
  op_record op = record {
    kind = op.kind;
    results = map definition_of op.results;
    operands = map operand_of op.operands;
    successors = map successor_of op.successors;
    regions = op.regions;
    attributes = op.rest.attributes;
    loc = op.rest.loc;
  }

  -- what a block with these operations means
  abbrev pub block_record : List ArenaIndex → BasicBlock D A K B S X L → BlockRecord context_ids (closed A K B S X L)
  block_record ops b = record {
    label = b.rest.label;
    arguments = map definition_of b.arguments;
    ops = ops;
    attributes = b.rest.attributes;
    loc = b.rest.loc;
  }

  -- the index that an operation knows as its own
  abbrev pub op_index : Operation D A K B S X L → ArenaIndex
  op_index op = op.index

  -- the index that a block knows as its own
  abbrev pub block_index : BasicBlock D A K B S X L → ArenaIndex
  block_index b = b.index

  -- what stands under each index
  abbrev pub op_records : Records D A K B S X L → ArenaIndex → Option (OpRecord context_ids (closed A K B S X L))
  op_records t o = option_map op_record (get t.ops o)

  abbrev pub block_records : Records D A K B S X L → ArenaIndex → Option (BlockRecord context_ids (closed A K B S X L))
  block_records t b = option_map (block_record (ops_in (tree_of t) b)) (get t.blocks b)

  abbrev pub region_records : Records D A K B S X L → ArenaIndex → Option (List ArenaIndex)
  region_records t g = option_map (λ _. blocks_in (tree_of t) g) (get t.regions g)

  -- the forest that all records mean
  abbrev pub forest_in : Records D A K B S X L → Forest context_ids (closed A K B S X L)
  forest_in t = record { ops = op_records t; blocks = block_records t; regions = region_records t }
