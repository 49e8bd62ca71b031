use Rattle.ir_text_meaning.proofs.NameMeanings.{values_meet}
use Rattle.ir_text_meaning.proofs.name_laws.operands_mean_values.Goals as goal

pub returns : goal.returns
returns c = values_meet
