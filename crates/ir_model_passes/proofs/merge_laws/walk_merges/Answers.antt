use Rattle.ir_model.proofs.TwoRuns.{lawful}
use Rattle.ir_model_passes.proofs.FrontWalk.{walk_begins, walk_merges, walk_breaks_off, walk_keeps, walk_ends}
use Rattle.ir_model_passes.proofs.Merged.{replaced_closed}
use Rattle.ir_model_passes.proofs.Merges.{some_formed}
use Rattle.ir_model_passes.proofs.merge_laws.walk_merges.Goals as goal

pub returns-clause-steps : goal.returns-clause-steps
returns-clause-steps g c = record {
  begins = λ behaviour same f b order. walk_begins behaviour same b f order;
  formed = λ behaviour same f h keys count b kept rest w walk. some_formed lawful behaviour same b keys f h count w walk.merges;
  merges = λ behaviour same f h keys count b e earlier o kept rest w walk here alike removes. walk_merges lawful behaviour same b keys f h e kept rest count earlier o w walk here alike removes;
  breaks_off = λ behaviour same f h keys count b earlier o kept rest some walk here alike. walk_breaks_off behaviour same b f h kept rest count earlier o some walk here alike;
  keeps = λ behaviour same f h keys count b o kept rest walk apart. walk_keeps behaviour same b f h kept rest count o walk apart;
  ends = λ behaviour same f h keys count b kept walk. walk_ends behaviour same b f h kept count walk;
}

pub returns-clause-can_go : goal.returns-clause-can_go
returns-clause-can_go g c = λ behaviour same f keys earlier later w apart alike. replaced_closed lawful behaviour same f keys w earlier later apart alike
