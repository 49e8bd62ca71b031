use Rattle.ir_model.proofs.TwoRuns.{lawful}
use Rattle.ir_model_passes.proofs.BlockSweeps.{blocks_swept, erased_all}
use Rattle.ir_model_passes.proofs.sweep_laws.steps_sweep_inside.Goals as goal

pub returns-clause-erases : goal.returns-clause-erases
returns-clause-erases g c = λ behaviour f h keys root live w lists s none. erased_all lawful behaviour root f keys w live lists h s none

pub returns-clause-sweeps : goal.returns-clause-sweeps
returns-clause-sweeps g c = λ behaviour f h keys root live w lists s none. blocks_swept lawful behaviour root f keys w live lists h s none
