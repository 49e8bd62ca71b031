-- What the checks of the dialect Generic find: nothing.
use Rattle.ir_model.specs.Verifiers.{Verifiers}
use Rattle.ir_core_records.specs.Meaning.{closed}
use Rattle.ir_verify.specs.Own.{Own, own_alone, silent}
use Rattle.ir_verify.specs.Shown.{Shown}

module _ {A K B S X L : Type 0} where
  -- no check finds anything
  abbrev pub nothing : Own (closed A K B S X L) (Shown (closed A K B S X L))
  nothing = record { op = silent; attr = silent; key = silent }

  -- no check is listed for any kind, and none finds anything
  abbrev pub generic_verifiers : Verifiers (closed A K B S X L) (Shown (closed A K B S X L))
  generic_verifiers = own_alone nothing
