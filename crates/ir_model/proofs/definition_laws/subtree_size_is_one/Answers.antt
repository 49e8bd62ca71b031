use Rattle.ir_model.proofs.Removal.{one_size}
use Rattle.ir_model.proofs.definition_laws.subtree_size_is_one.Goals as goal

pub returns : goal.returns
returns g c = λ f e xs ys p q. one_size f e xs ys p q
