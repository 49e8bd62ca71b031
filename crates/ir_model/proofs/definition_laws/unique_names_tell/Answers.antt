use Rattle.ir_model.proofs.UniqueNames.{value_names, block_names, names_apart}
use Rattle.ir_model.proofs.definition_laws.unique_names_tell.Goals as goal

pub returns : goal.returns
returns g c = λ f keys w. record { values = value_names f keys w; blocks = block_names f keys w; apart = names_apart f keys w }
