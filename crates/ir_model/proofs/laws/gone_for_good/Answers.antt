use Rattle.ir_model.proofs.NamesDead.{dead_are_refused}
use Rattle.ir_model.proofs.RefusedForGood.{gone_for_good, erased_are_gone}
use Rattle.ir_model.proofs.laws.gone_for_good.Goals as goal

pub returns-clause-gone : goal.returns-clause-gone
returns-clause-gone g c = λ behaviour. gone_for_good behaviour

pub returns-clause-erased : goal.returns-clause-erased
returns-clause-erased g c = λ behaviour. erased_are_gone behaviour

pub returns-clause-refused : goal.returns-clause-refused
returns-clause-refused g c = λ behaviour. dead_are_refused behaviour
