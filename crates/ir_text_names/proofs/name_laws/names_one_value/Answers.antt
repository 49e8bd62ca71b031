use Rattle.ir_text_names.proofs.OneMeaning.{one_value}
use Rattle.ir_text_names.proofs.name_laws.names_one_value.Goals as goal

pub returns : goal.returns
returns c = one_value
