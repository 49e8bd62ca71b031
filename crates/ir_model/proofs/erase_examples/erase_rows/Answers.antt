use Rattle.ir_model.proofs.EraseRows.{erased_in_depth}
use Rattle.ir_model.proofs.erase_examples.erase_rows.Goals as goal

pub returns : goal.returns
returns c = erased_in_depth
