use Rattle.ir_text_meaning.proofs.OtherTypes.{other_type_meets}
use Rattle.ir_text_meaning.proofs.result_laws.operand_types_meet.Goals as goal

pub returns : goal.returns
returns c = other_type_meets
