use Rattle.ir_text_meaning.proofs.NameFaults.{faults_meet}
use Rattle.ir_text_meaning.proofs.fault_laws.name_faults_meet.Goals as goal

pub returns : goal.returns
returns c = faults_meet
