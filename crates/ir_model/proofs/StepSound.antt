-- Every step and every run keeps a session sound.
use Rattle.std.proofs.Common.{[], ◌∷◌}
use Rattle.ir_model.specs.Forest.{Dialect, Behaviour}
use Rattle.ir_model.specs.Soundness.{StepsKeepSound, RunsKeepSound, RunsAreWellFormed}
use Rattle.ir_model.proofs.TwoRuns.{lawful}
use Rattle.ir_model.proofs.Grows.{step_sound, new_sound}
use Rattle.ir_model.proofs.GrowsEach.{grows_each}

module _ {W : Dialect} (B : Behaviour W) where
  pub steps_sound : StepsKeepSound W B
  steps_sound edit = step_sound B edit (grows_each B lawful edit)

  pub runs_sound : RunsKeepSound W B
  runs_sound [] s t answers k r = rw r.1 k
  runs_sound (edit ∷ rest) s t answers k r = runs_sound rest r.2 t r.1 (steps_sound edit s r.2 r.0 k r.4) r.5

  pub runs_well_formed : RunsAreWellFormed W B
  runs_well_formed edits s t answers n r = (runs_sound edits s t answers (new_sound s n) r).forest
