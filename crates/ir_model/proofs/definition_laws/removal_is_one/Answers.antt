use Rattle.ir_model.proofs.Removal.{only, uses_left, uses_still, unused}
use Rattle.ir_model.proofs.definition_laws.removal_is_one.Goals as goal

pub returns : goal.returns
returns g c = λ f h e p. record { only = only f h e p; uses = λ d u. (uses_left f h e p d u, uses_still f h e p d u); unused = unused f h e p }
