use Rattle.ir_model_passes.proofs.Right.{right_then, stays_right, still_in_order}
use Rattle.ir_model_passes.proofs.right_laws.right_passes_follow.Goals as goal

pub returns-clause-follow : goal.returns-clause-follow
returns-clause-follow g c = λ behaviour gives f h e keys w a b. right_then behaviour gives keys f h e w a b

pub returns-clause-nothing : goal.returns-clause-nothing
returns-clause-nothing g c = λ behaviour gives f keys w. stays_right behaviour gives keys f w

pub returns-clause-order : goal.returns-clause-order
returns-clause-order g c = λ behaviour gives f h keys b w a. still_in_order behaviour f h keys w a.only_pure a.moves_back b
