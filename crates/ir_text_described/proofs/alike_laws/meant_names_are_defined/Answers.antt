use Rattle.ir_text_described.proofs.Alikes.{meant_defined}
use Rattle.ir_text_described.proofs.alike_laws.meant_names_are_defined.Goals as goal

pub returns : goal.returns
returns c = meant_defined
