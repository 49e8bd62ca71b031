use Rattle.ir_text_meaning.proofs.AllFaults.{other_types_meet}
use Rattle.ir_text_meaning.proofs.owner_laws.operand_types_are_counted.Goals as goal

pub returns : goal.returns
returns c = other_types_meet
