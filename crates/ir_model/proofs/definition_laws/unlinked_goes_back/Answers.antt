use Rattle.ir_model.proofs.TwoRuns.{lawful}
use Rattle.ir_model.proofs.Relinks.{op_after, op_front, block_after, block_front}
use Rattle.ir_model.proofs.EditLaws.{edits_go_back}
use Rattle.ir_model.proofs.MayGoBack.{may_go_back}
use Rattle.ir_model.proofs.definition_laws.unlinked_goes_back.Goals as goal

pub returns-clause-forest : goal.returns-clause-forest
returns-clause-forest g c = λ f keys w. record {
  op_after = op_after lawful f keys w;
  op_front = op_front lawful f keys w;
  block_after = block_after lawful f keys w;
  block_front = block_front lawful f keys w;
}

pub returns-clause-edits : goal.returns-clause-edits
returns-clause-edits g c = λ behaviour s w. edits_go_back behaviour s w

pub returns-clause-allowed : goal.returns-clause-allowed
returns-clause-allowed g c = λ behaviour s w. may_go_back behaviour s w
