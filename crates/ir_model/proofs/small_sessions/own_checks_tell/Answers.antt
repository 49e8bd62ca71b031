use Rattle.ir_model.proofs.OwnCheckRows.{type_fault, own_check}
use Rattle.ir_model.proofs.small_sessions.own_checks_tell.Goals as goal

pub returns-clause-type_fault : goal.returns-clause-type_fault
returns-clause-type_fault c = type_fault

pub returns-clause-own_check : goal.returns-clause-own_check
returns-clause-own_check c = own_check
