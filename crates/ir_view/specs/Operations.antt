-- The operations among entities.
use Rattle.std.specs.Prelude.{Option, Some, None}
use Rattle.ir_model.specs.Ids.{Ids}
use Rattle.ir_model.specs.Forest.{Entity, an_op, a_block, a_region}

-- the operation that an entity is, if it is one
abbrev pub op_of : {N : Ids} → Entity N → Option N.Op
op_of (an_op o) = Some o
op_of (a_block b) = None
op_of (a_region g) = None
