use Rattle.ir_model.specs.declared.error.CoreError.TheVariants.{SlotsSpent}
use Rattle.ir_checked_core.proofs.Refusals.{told_as}
use Rattle.ir_checked_core.proofs.operation_records.add_region.Goals as goal

pub returns-in-Err-clause-slots : goal.returns-in-Err-clause-slots
returns-in-Err-clause-slots g c = told_as c.add_region.result c.in-Err.error SlotsSpent _ c.in-Err.is c.add_region.ensures.slots
