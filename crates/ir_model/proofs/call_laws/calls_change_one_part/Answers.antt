use Rattle.ir_model.proofs.Calls.{calls_change_one_part}
use Rattle.ir_model.proofs.call_laws.calls_change_one_part.Goals as goal

pub returns : goal.returns
returns g c = calls_change_one_part _
