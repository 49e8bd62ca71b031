-- The lists of all records, read and written by index and number.
use Rattle.std.specs.Prelude.{◌≡◌, ℕ, List, [], Some}
use Rattle.ir_model.specs.declared.ids.ArenaIndex.{ArenaIndex}
use Rattle.ir_base_arenas.specs.Arena.{get, IsLiveIn}
use Rattle.ir_core_records.specs.declared.record.Definer.{Definer}
use Rattle.ir_core_records.specs.declared.record.Definer.TheVariants.{Op, Block}
use Rattle.ir_core_records.specs.declared.record.ValueIndex.{ValueIndex}
use Rattle.ir_core_records.specs.declared.record.BlockIndex.{BlockIndex}
use Rattle.ir_core_records.specs.declared.record.UseIndex.{UseIndex}
use Rattle.ir_core_records.specs.declared.record.UsePlace.{UsePlace}
use Rattle.ir_core_records.specs.declared.record.Definition.{Definition}
use Rattle.ir_core_records.specs.declared.record.Operation.{Operation}
use Rattle.ir_core_records.specs.declared.record.BasicBlock.{BasicBlock}
use Rattle.ir_core_records.specs.declared.record.Region.{Region}
use Rattle.ir_core_records.specs.declared.records.Records.{Records}
use Rattle.ir_core_records.specs.Lists.{uses_with, put_uses, HasNumber, in_record, edited}

module _ {D A K B S X L : Type 0} where
  -- the operation is live
  abbrev pub IsOp : Records D A K B S X L → ArenaIndex → Type 0
  IsOp t o = IsLiveIn t.ops o

  -- the block is live
  abbrev pub IsLiveBlock : Records D A K B S X L → BlockIndex → Type 0
  IsLiveBlock t b = IsLiveIn t.blocks b.index

  abbrev pub operands_at : Records D A K B S X L → ArenaIndex → List (UsePlace ValueIndex)
  operands_at t o = in_record (λ op. op.operands) [] (get t.ops o)

  abbrev pub successors_at : Records D A K B S X L → ArenaIndex → List (UsePlace BlockIndex)
  successors_at t o = in_record (λ op. op.successors) [] (get t.ops o)

  abbrev pub block_uses_at : Records D A K B S X L → BlockIndex → List UseIndex
  block_uses_at t b = in_record (λ x. x.uses) [] (get t.blocks b.index)

  -- the results of an operation, or the arguments of a block
  abbrev pub definitions_at : Records D A K B S X L → Definer → List Definition
  definitions_at t (Op o) = in_record (λ op. op.results) [] (get t.ops o)
  definitions_at t (Block b) = in_record (λ x. x.arguments) [] (get t.blocks b)

  -- the uses kept at the value
  abbrev pub uses_at : Records D A K B S X L → ValueIndex → List UseIndex
  uses_at t v = uses_with (definitions_at t v.definer) v.number

  -- the value is a result or an argument of something live
  abbrev pub IsValue : Records D A K B S X L → ValueIndex → Type 0
  IsValue t v = HasNumber (definitions_at t v.definer) v.number

  abbrev pub with_operands : Records D A K B S X L → ArenaIndex → List (UsePlace ValueIndex) → Records D A K B S X L
  with_operands t o xs = record t { ops = edited (λ op. record op { operands = xs }) t.ops o }

  abbrev pub with_successors : Records D A K B S X L → ArenaIndex → List (UsePlace BlockIndex) → Records D A K B S X L
  with_successors t o xs = record t { ops = edited (λ op. record op { successors = xs }) t.ops o }

  abbrev pub with_block_uses : Records D A K B S X L → BlockIndex → List UseIndex → Records D A K B S X L
  with_block_uses t b us = record t { blocks = edited (λ x. record x { uses = us }) t.blocks b.index }

  -- other uses at the value
  abbrev pub with_uses_by : Records D A K B S X L → Definer → ℕ → List UseIndex → Records D A K B S X L
  with_uses_by t (Op o) n us = record t { ops = edited (λ op. record op { results = put_uses op.results n us }) t.ops o }
  with_uses_by t (Block b) n us = record t { blocks = edited (λ x. record x { arguments = put_uses x.arguments n us }) t.blocks b }

  abbrev pub with_uses : Records D A K B S X L → ValueIndex → List UseIndex → Records D A K B S X L
  with_uses t v us = with_uses_by t v.definer v.number us

  -- each operation, each block and each region knows its own place
  pub record KnowOwn (t : Records D A K B S X L) : Type 0 where
    pub ops : (i : ArenaIndex) (op : Operation D A K B S X L) → get t.ops i ≡ Some op → op.index ≡ i
    pub blocks : (i : ArenaIndex) (b : BasicBlock D A K B S X L) → get t.blocks i ≡ Some b → b.index ≡ i
    pub regions : (i : ArenaIndex) (r : Region) → get t.regions i ≡ Some r → r.index ≡ i
