use Rattle.ir_text_meaning.proofs.AllFaults.{wrongs_meet}
use Rattle.ir_text_meaning.proofs.fault_laws.faults_meet.Goals as goal

pub returns : goal.returns
returns c = wrongs_meet
