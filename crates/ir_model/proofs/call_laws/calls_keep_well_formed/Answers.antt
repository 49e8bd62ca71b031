use Rattle.ir_model.proofs.SomeUses.{calls_keep_well_formed}
use Rattle.ir_model.proofs.call_laws.calls_keep_well_formed.Goals as goal

pub returns : goal.returns
returns g c = calls_keep_well_formed _
