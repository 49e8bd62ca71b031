use Rattle.ir_model.proofs.AuxCalls.{aux_is_kept}
use Rattle.ir_model.proofs.store_laws.aux_is_kept.Goals as goal

pub returns : goal.returns
returns g c = aux_is_kept _
