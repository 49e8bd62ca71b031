use Rattle.ir_model.proofs.StepSound.{steps_sound}
use Rattle.ir_run_sessions.specs.SessionEdits.{edit_of}
use Rattle.ir_run_sessions.proofs.session.Session.step.Goals as goal

pub invariant_of-self : goal.invariant_of-self
invariant_of-self g c = steps_sound _ (edit_of c.args.edit) _ _ c.step.result c.self.invariant c.step.ensures
