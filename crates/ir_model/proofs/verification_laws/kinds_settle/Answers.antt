use Rattle.ir_model.specs.VerifierLaws.{tested}
use Rattle.ir_model.proofs.VerifierLaws.{kinds_settle, tests_decide}
use Rattle.ir_model.proofs.verification_laws.kinds_settle.Goals as goal

pub returns-clause-tests : goal.returns-clause-tests
returns-clause-tests g c = λ kinds tests shown. tests_decide tests kinds shown

pub returns-clause-kinds : goal.returns-clause-kinds
returns-clause-kinds g c = λ behaviour kinds tests shown f store. kinds_settle behaviour kinds (tested tests) shown f store
