use Rattle.std.proofs.Common.{refl}
use Rattle.ir_model.specs.Nesting.{below}
use Rattle.ir_core_erasing.proofs.closed.is_user_inside.Goals as goal

pub returns-then-stands_in : goal.returns-then-stands_in
returns-then-stands_in g c = (λ _. below (c.stands_in.ensures c.if-stands_in.true) c.requires.near, λ _. refl)
