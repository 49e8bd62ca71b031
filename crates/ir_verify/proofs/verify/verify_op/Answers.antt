use Rattle.ir_verify.proofs.verify.verify_op.Goals as goal

pub returns-clause-well : goal.returns-clause-well
returns-clause-well g c = rw c.get_operation.ensures at c.verify_operation.ensures.well

pub returns-clause-fault : goal.returns-clause-fault
returns-clause-fault g c = rw c.get_operation.ensures at c.verify_operation.ensures.fault
