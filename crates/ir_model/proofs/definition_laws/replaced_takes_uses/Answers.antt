use Rattle.ir_model.proofs.TwoRuns.{lawful}
use Rattle.ir_model.proofs.Redirected.{value_none, value_all}
use Rattle.ir_model.proofs.EditLaws.{replace_takes_uses}
use Rattle.ir_model.proofs.definition_laws.replaced_takes_uses.Goals as goal

pub returns-clause-forest : goal.returns-clause-forest
returns-clause-forest g c = λ f keys old new w differ. record { none = value_none lawful f keys w old new differ; all = value_all lawful f keys w old new differ }

pub returns-clause-edits : goal.returns-clause-edits
returns-clause-edits g c = λ behaviour s w. replace_takes_uses behaviour s w
