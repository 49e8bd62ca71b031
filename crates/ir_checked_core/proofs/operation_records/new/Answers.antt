use Rattle.ir_model.specs.declared.error.CoreError.TheVariants.{CounterSpent, SlotsSpent}
use Rattle.ir_checked_core.proofs.Refusals.{told_as}
use Rattle.ir_checked_core.proofs.operation_records.new.Goals as goal

pub returns-in-Err-clause-counter : goal.returns-in-Err-clause-counter
returns-in-Err-clause-counter g c = told_as c.new.result c.in-Err.error CounterSpent _ c.in-Err.is c.new.ensures.counter

pub returns-in-Err-clause-slots : goal.returns-in-Err-clause-slots
returns-in-Err-clause-slots g c = told_as c.new.result c.in-Err.error SlotsSpent _ c.in-Err.is c.new.ensures.slots
