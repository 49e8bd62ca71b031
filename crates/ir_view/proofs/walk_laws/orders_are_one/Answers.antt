use Rattle.std.proofs.Common.{[], ◌∷◌}
use Rattle.ir_model.specs.Nesting.{children}
use Rattle.ir_view.specs.Orders.{alone, nothing}
use Rattle.ir_view.proofs.Pieces.{one-listing}
use Rattle.ir_view.proofs.walk_laws.orders_are_one.Goals as goal

pub returns : goal.returns
returns g c = λ f e xs ys. (one-listing nothing alone (children f) (e ∷ []) xs ys, one-listing alone nothing (children f) (e ∷ []) xs ys)
