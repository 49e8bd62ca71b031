use Rattle.ir_model.proofs.VerifierLaws.{faults_are_told}
use Rattle.ir_model.proofs.verification_laws.faults_are_told.Goals as goal

pub returns : goal.returns
returns c = faults_are_told
