-- The edit that makes an operation.
use Rattle.ir_model.specs.Edits.{Edit, NewOp}
use Rattle.ir_model.specs.Forest.{Dialect}
use Rattle.ir_run_sessions.specs.declared.steps.OpParts.{OpParts}

-- the edit that makes an operation of these parts
abbrev pub edit_of_parts : {W : Dialect} → OpParts → Edit W
edit_of_parts p = NewOp p.kind p.types.now p.operands.now p.successors.now p.regions
