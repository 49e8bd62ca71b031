use Rattle.ir_base_dialects.proofs.SuperLemmas.{supers_stay}
use Rattle.ir_base_dialects.proofs.store_laws.supers_stay_first.Goals as goal

pub returns : goal.returns
returns c = supers_stay
