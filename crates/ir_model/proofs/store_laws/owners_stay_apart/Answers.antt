use Rattle.ir_model.proofs.Dictionaries.{owners_stay_apart}
use Rattle.ir_model.proofs.store_laws.owners_stay_apart.Goals as goal

pub returns : goal.returns
returns c = owners_stay_apart
