use Rattle.ir_text_meaning.proofs.Bodies.{regions_meet}
use Rattle.ir_text_meaning.proofs.region_laws.regions_are_bodies.Goals as goal

pub returns : goal.returns
returns c = regions_meet
