-- The results of an operation and the arguments of a block alike, by what defines them.
use Rattle.std.specs.Prelude.{List}
use Rattle.ir_base_arenas.specs.Arena.{IsLiveIn}
use Rattle.ir_core_records.specs.declared.record.Definer.{Definer}
use Rattle.ir_core_records.specs.declared.record.Definer.TheVariants.{Op, Block}
use Rattle.ir_core_records.specs.declared.record.Definition.{Definition}
use Rattle.ir_core_records.specs.declared.records.Records.{Records}
use Rattle.ir_core_records.specs.Lists.{edited}

module _ {D A K B S X L : Type 0} where
  -- the operation, or the block, is live
  abbrev pub IsDefiner : Records D A K B S X L → Definer → Type 0
  IsDefiner t (Op o) = IsLiveIn t.ops o
  IsDefiner t (Block b) = IsLiveIn t.blocks b

  -- other results of the operation, or other arguments of the block
  abbrev pub with_definitions : Records D A K B S X L → Definer → List Definition → Records D A K B S X L
  with_definitions t (Op o) rs = record t { ops = edited (λ op. record op { results = rs }) t.ops o }
  with_definitions t (Block b) rs = record t { blocks = edited (λ x. record x { arguments = rs }) t.blocks b }
