use Rattle.ir_opt_run.proofs.SaidAlike.{said_alike}
use Rattle.ir_opt_run.proofs.said_laws.said_alike.Goals as goal

pub returns : goal.returns
returns g c = λ f h words words' located text operations operations' s s'. said_alike c.covering_is_read.ensures c.one_tree_is_spelled.ensures c.described_alike.ensures.one_text f h words words' located text operations operations' s s'
