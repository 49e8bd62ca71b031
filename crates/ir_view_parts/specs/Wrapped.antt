-- What an `OpObj` shows: an operation and a kind.
use Rattle.std.specs.Prelude.{ℕ}
use Rattle.ir_model.specs.declared.ids.ArenaIndex.{ArenaIndex}
use Rattle.ir_view_parts.specs.declared.wrappers.OpObj.{OpObj}

module _ {D A K B S X L : Type 0} where
  -- the operation
  abbrev pub operation_in : OpObj D A K B S X L → ArenaIndex
  operation_in o = o.op.index

  -- the kind
  abbrev pub kind_in : OpObj D A K B S X L → ℕ
  kind_in o = o.kind
