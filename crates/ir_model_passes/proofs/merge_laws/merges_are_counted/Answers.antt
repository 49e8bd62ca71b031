use Rattle.ir_model.proofs.TwoRuns.{lawful}
use Rattle.ir_model_passes.proofs.Merges.{some_counted}
use Rattle.ir_model_passes.proofs.MergeTells.{common_tells, inside_tells}
use Rattle.ir_model_passes.proofs.merge_laws.merges_are_counted.Goals as goal

pub returns-clause-some : goal.returns-clause-some
returns-clause-some g c = λ behaviour same f h keys count b w s. some_counted lawful behaviour same b keys f h count w s

pub returns-clause-common : goal.returns-clause-common
returns-clause-common g c = λ behaviour same f h keys b answer w s. common_tells lawful behaviour same keys b f h answer w s

pub returns-clause-inside : goal.returns-clause-inside
returns-clause-inside g c = λ behaviour same f h keys count root w s. inside_tells lawful behaviour same keys f h root count w s
