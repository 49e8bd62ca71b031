use Rattle.ir_text_meaning.proofs.NameMeanings.{inside_meet}
use Rattle.ir_text_meaning.proofs.region_laws.regions_stand_within.Goals as goal

pub returns : goal.returns
returns c = inside_meet
