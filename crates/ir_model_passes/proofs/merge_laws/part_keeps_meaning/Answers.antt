use Rattle.ir_model.proofs.TwoRuns.{lawful}
use Rattle.ir_model_passes.proofs.Merged.{partly_formed, partly_keeps}
use Rattle.ir_model_passes.proofs.FrontWalk.{broken_off_keeps}
use Rattle.ir_model_passes.proofs.MergedInside.{inside_broken_off_keeps}
use Rattle.ir_model_passes.proofs.merge_laws.part_keeps_meaning.Goals as goal

pub returns-clause-one : goal.returns-clause-one
returns-clause-one g c = λ behaviour same gives respects f h keys b w m. (partly_formed lawful behaviour same f keys b h w m, partly_keeps lawful behaviour same f keys b h w m gives respects)

pub returns-clause-last : goal.returns-clause-last
returns-clause-last g c = λ behaviour same gives respects f h keys b w m. broken_off_keeps lawful behaviour same b keys gives respects f h w m

pub returns-clause-inside : goal.returns-clause-inside
returns-clause-inside g c = λ behaviour same gives respects f h keys root w m. inside_broken_off_keeps lawful behaviour same gives keys respects f h root w m
