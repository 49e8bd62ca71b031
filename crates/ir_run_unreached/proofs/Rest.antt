-- What is beside the forest.
use mathlib.Core.Path.{refl, ◌∙◌}
use Rattle.std.proofs.Common.{Result, Ok, Err, OnErr}
use Rattle.ir_model.specs.Forest.{Dialect}
use Rattle.ir_model.specs.Sessions.{Session}
use Rattle.ir_core_queries.specs.Calls.{SameButForest}

-- all but the forest is as before, where nothing changes
pub same_itself : {W : Dialect} (s : Session W) → SameButForest s s
same_itself s = record { store = refl; beside = refl; passed = refl; limits = refl }

-- and over two changes
pub same_joined : {W : Dialect} (r s t : Session W) → SameButForest r s → SameButForest s t → SameButForest r t
same_joined r s t a c = record { store = c.store ∙ a.store; beside = c.beside ∙ a.beside; passed = c.passed ∙ a.passed; limits = c.limits ∙ a.limits }

-- what holds anyway holds where a call is refused
pub holds_on_err : {T E P : Type 0} (r : Result T E) → P → OnErr r P
holds_on_err (Ok x) p = tt
holds_on_err (Err e) p = p
