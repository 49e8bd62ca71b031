use Rattle.ir_text_meaning.proofs.Bodies.{one_begins}
use Rattle.ir_text_meaning.proofs.region_laws.one_body_begins.Goals as goal

pub returns : goal.returns
returns c = one_begins
