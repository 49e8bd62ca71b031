use Rattle.ir_model.proofs.TwoRuns.{lawful}
use Rattle.ir_model_passes.proofs.Right.{merges_right}
use Rattle.ir_model_passes.proofs.MergedInside.{common_right, inside_right}
use Rattle.ir_model_passes.proofs.right_laws.merges_are_right.Goals as goal

pub returns-clause-some : goal.returns-clause-some
returns-clause-some g c = λ behaviour same gives respects f h keys count b w s. merges_right behaviour gives keys f h w lawful same respects b count s

pub returns-clause-common : goal.returns-clause-common
returns-clause-common g c = λ behaviour same gives respects f h keys b answer w s. common_right lawful behaviour same gives keys respects f h b answer w s

pub returns-clause-inside : goal.returns-clause-inside
returns-clause-inside g c = λ behaviour same gives respects f h keys count root w s. inside_right lawful behaviour same gives keys respects f h root count w s
