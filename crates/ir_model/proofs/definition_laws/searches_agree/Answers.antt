use Rattle.ir_model.proofs.Searches.{searches_agree}
use Rattle.ir_model.proofs.definition_laws.searches_agree.Goals as goal

pub returns : goal.returns
returns g c = λ f keys w. searches_agree f keys w
