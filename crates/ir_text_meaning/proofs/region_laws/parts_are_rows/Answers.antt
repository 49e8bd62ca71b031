use Rattle.ir_text_meaning.proofs.Bodies.{parts_meet}
use Rattle.ir_text_meaning.proofs.region_laws.parts_are_rows.Goals as goal

pub returns : goal.returns
returns c = parts_meet
