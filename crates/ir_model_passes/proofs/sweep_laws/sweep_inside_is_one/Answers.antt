use Rattle.ir_model_passes.proofs.SweptInside.{all_one_outcome, all_formed, all_so_many, all_none_left}
use Rattle.ir_model_passes.proofs.sweep_laws.sweep_inside_is_one.Goals as goal

pub returns : goal.returns
returns g c = λ behaviour f h keys count root w s. record {
  only = all_one_outcome behaviour f root h count s;
  formed = all_formed behaviour f root h count s keys w;
  so_many = all_so_many behaviour f root h count s keys w;
  none_closed = all_none_left behaviour f root h count s;
}
