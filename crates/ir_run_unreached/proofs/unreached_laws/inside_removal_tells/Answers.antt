use Rattle.ir_model.proofs.TwoRuns.{lawful}
use Rattle.ir_run_unreached.proofs.InsideSteps.{some_as_was, values_kept, back_moved, each_formed}
use Rattle.ir_model.specs.Forest.{an_op}
use Rattle.ir_run_unreached.proofs.unreached_laws.inside_removal_tells.Goals as goal

pub returns : goal.returns
returns g c = λ B gives o f g2 keys count w some.
    let same = some_as_was (an_op o) f g2 count some in
    record {
      formed = each_formed lawful o f keys w (λ a b r m v removed. (let t = c.unreached_removal_is_one.ensures B gives a b keys m r v removed in (t.formed, t.none_unreached))) g2 count some;
      stays = same;
      values = values_kept f g2 same B gives;
      moves_back = back_moved f g2 same;
    }
