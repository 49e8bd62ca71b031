use Rattle.ir_model.proofs.TwoRuns.{lawful}
use Rattle.ir_model_passes.proofs.FrontToBack.{front_to_back, front_to_back_is_one}
use Rattle.ir_model_passes.proofs.merge_laws.front_to_back_merges.Goals as goal

pub returns-clause-all : goal.returns-clause-all
returns-clause-all g c = λ behaviour same f h keys count b w order pass. front_to_back lawful behaviour same b keys f h count w order pass

pub returns-clause-only : goal.returns-clause-only
returns-clause-only g c = λ behaviour same equal f h e keys count other b w order first second. front_to_back_is_one lawful behaviour same b keys equal f h e count other w order first second
