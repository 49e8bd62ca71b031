use Rattle.ir_model.proofs.TwoRuns.{lawful}
use Rattle.ir_model.proofs.Redirected.{block_none, block_all}
use Rattle.ir_model.proofs.EditLaws.{retarget_takes_uses}
use Rattle.ir_model.proofs.definition_laws.retargeted_takes_uses.Goals as goal

pub returns-clause-forest : goal.returns-clause-forest
returns-clause-forest g c = λ f keys old new w differ. record { none = block_none lawful f keys w old new differ; all = block_all lawful f keys w old new differ }

pub returns-clause-edits : goal.returns-clause-edits
returns-clause-edits g c = λ behaviour s w. retarget_takes_uses behaviour s w
