use Rattle.ir_text_names.proofs.OneMeaning.{one_block}
use Rattle.ir_text_names.proofs.name_laws.names_one_block.Goals as goal

pub returns : goal.returns
returns c = one_block
