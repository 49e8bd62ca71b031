use Rattle.ir_text_meaning.proofs.NameMeanings.{blocks_meet}
use Rattle.ir_text_meaning.proofs.name_laws.successors_mean_blocks.Goals as goal

pub returns : goal.returns
returns c = blocks_meet
