-- What two calls after one another leave as it was.
use Rattle.std.proofs.Common.{refl, ◌∙◌}
use Rattle.ir_model.specs.Forest.{Dialect}
use Rattle.ir_model.specs.Sessions.{Session}
use Rattle.ir_core_context.specs.Calls.{KeepsAll, SameButForest}
use Rattle.ir_core_context.specs.State.{ContextState}

pub same_itself : {W : Dialect} (a : Session W) → SameButForest a a
same_itself a = record { store = refl; beside = refl; passed = refl; limits = refl }

pub same_joined : {W : Dialect} (a b c : Session W) → SameButForest a b → SameButForest b c → SameButForest a c
same_joined a b c h k = record { store = k.store ∙ h.store; beside = k.beside ∙ h.beside; passed = k.passed ∙ h.passed; limits = k.limits ∙ h.limits }

module _ {D A K B S X L : Type 0} where
  pub keeps_itself : (a : ContextState D A K B S X L) → KeepsAll a a
  keeps_itself a = record { stay_live = λ d h. h; entities_stay_live = λ e h. h; types_stay = refl }

  pub keeps_joined : (a b c : ContextState D A K B S X L) → KeepsAll a b → KeepsAll b c → KeepsAll a c
  keeps_joined a b c h k = record { stay_live = λ d l. k.stay_live d (h.stay_live d l); entities_stay_live = λ e l. k.entities_stay_live e (h.entities_stay_live e l); types_stay = k.types_stay ∙ h.types_stay }
