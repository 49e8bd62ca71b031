use Rattle.ir_text_meaning.proofs.AllFaults.{well_named_meets}
use Rattle.ir_text_meaning.proofs.fault_laws.well_named_trees_have_no_fault.Goals as goal

pub returns : goal.returns
returns c = well_named_meets
