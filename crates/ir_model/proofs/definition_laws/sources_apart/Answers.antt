use Rattle.ir_model.proofs.Legalisers.{sources_apart, names_lead_back, calls_settle}
use Rattle.ir_model.proofs.definition_laws.sources_apart.Goals as goal

pub returns-clause-apart : goal.returns-clause-apart
returns-clause-apart c = sources_apart

pub returns-clause-back : goal.returns-clause-back
returns-clause-back c = names_lead_back

pub returns-clause-settled : goal.returns-clause-settled
returns-clause-settled c = calls_settle
