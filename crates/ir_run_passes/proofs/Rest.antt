-- What is beside the forest.
use mathlib.Core.Path.{◌∙◌}
use Rattle.ir_model.specs.Forest.{Dialect}
use Rattle.ir_model.specs.Sessions.{Session}
use Rattle.ir_core_queries.specs.Calls.{SameButForest}

-- all but the forest is as before, over two changes
pub same_joined : {W : Dialect} (r s t : Session W) → SameButForest r s → SameButForest s t → SameButForest r t
same_joined r s t a c = record { store = c.store ∙ a.store; beside = c.beside ∙ a.beside; passed = c.passed ∙ a.passed; limits = c.limits ∙ a.limits }
