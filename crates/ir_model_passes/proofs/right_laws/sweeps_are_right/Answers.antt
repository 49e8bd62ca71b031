use Rattle.ir_model_passes.proofs.Right.{sweep_right, sweep_inside_right}
use Rattle.ir_model_passes.proofs.right_laws.sweeps_are_right.Goals as goal

pub returns-clause-of_a_block : goal.returns-clause-of_a_block
returns-clause-of_a_block g c = λ behaviour gives f h keys count b w s. sweep_right behaviour gives keys f h w b count s

pub returns-clause-inside : goal.returns-clause-inside
returns-clause-inside g c = λ behaviour gives f h keys count root w s. sweep_inside_right behaviour gives keys f h w root count s
