-- The parts of an operation and of a block, in order, as indices.
use Rattle.std.specs.Prelude.{◌≡◌, ℕ, List, [], map, Some, slice_get}
use Rattle.std.specs.Option.{option_map}
use Rattle.ir_model.specs.declared.ids.ArenaIndex.{ArenaIndex}
use Rattle.ir_model.specs.ContextIds.{context_ids}
use Rattle.ir_model.specs.Forest.{Forest, a_value}
use Rattle.ir_model.specs.Nesting.{IsLiveNamed}
use Rattle.ir_core_records.specs.declared.record.BasicBlock.{BasicBlock}
use Rattle.ir_core_records.specs.declared.record.Definer.TheVariants.{Op, Block}
use Rattle.ir_core_records.specs.declared.record.Operation.{Operation}
use Rattle.ir_core_records.specs.declared.record.UseIndex.{UseIndex}
use Rattle.ir_core_records.specs.declared.record.ValueIndex.{ValueIndex}
use Rattle.ir_core_records.specs.Meaning.{closed, block_index, block_record, op_index, op_record, value_of}
use Rattle.ir_core_queries.specs.Calls.{BlockLeadsToLive, LeadsToLive}

module _ {D A K B S X L : Type 0} where
  -- the operation's results
  abbrev pub results_of : Operation D A K B S X L → List ValueIndex
  results_of op = map (λ d. record { definer = Op (op_index op); number = d.number }) (op_record op).results

  -- the places of the types of its results
  abbrev pub result_types_of : Operation D A K B S X L → List ℕ
  result_types_of op = map (λ d. d.ty) (op_record op).results

  -- its operands, as uses
  abbrev pub operand_uses_of : Operation D A K B S X L → List UseIndex
  operand_uses_of op = map (λ a. record { user = op_index op; number = a.use_number }) (op_record op).operands

  -- the blocks that it names
  abbrev pub successor_blocks_of : Operation D A K B S X L → List ArenaIndex
  successor_blocks_of op = map (λ a. a.block) (op_record op).successors

  -- its successors, as uses
  abbrev pub successor_uses_of : Operation D A K B S X L → List UseIndex
  successor_uses_of op = map (λ a. record { user = op_index op; number = a.use_number }) (op_record op).successors

  -- the block's arguments
  abbrev pub arguments_of : BasicBlock D A K B S X L → List ValueIndex
  arguments_of b = map (λ d. record { definer = Block (block_index b); number = d.number }) (block_record [] b).arguments

  -- the places of the types of its arguments
  abbrev pub argument_types_of : BasicBlock D A K B S X L → List ℕ
  argument_types_of b = map (λ d. d.ty) (block_record [] b).arguments

  -- each value that an operand of the operation names is live
  abbrev pub OperandsAreLive : Forest context_ids (closed A K B S X L) → Operation D A K B S X L → Type 0
  OperandsAreLive f op = (v : ValueIndex) (k : ℕ) → option_map (λ a. a.value) (slice_get (op_record op).operands k) ≡ Some (value_of v) → IsLiveNamed f (a_value (value_of v))

  -- P holds of each forest, and number of known types, where what the operation gives is live and its types are known
  abbrev pub WhereLive : Operation D A K B S X L → (Forest context_ids (closed A K B S X L) → ℕ → Type 0) → Type 0
  WhereLive op P = (f : Forest context_ids (closed A K B S X L)) (known : ℕ) → LeadsToLive f known op → P f known

  -- P holds of each forest, and number of known types, where what the block gives is live and its types are known
  abbrev pub WhereBlockLive : BasicBlock D A K B S X L → (Forest context_ids (closed A K B S X L) → ℕ → Type 0) → Type 0
  WhereBlockLive b P = (f : Forest context_ids (closed A K B S X L)) (known : ℕ) (index : ArenaIndex) → BlockLeadsToLive f known index b → P f known
