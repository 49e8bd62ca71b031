use Rattle.ir_model.proofs.Sweeps.{one_outcome, none_left, sweep_formed}
use Rattle.ir_model.proofs.sweep_laws.sweep_is_one.Goals as goal

pub returns-clause-one : goal.returns-clause-one
returns-clause-one g c = λ behaviour f h keys count b w s. record {
  only = one_outcome behaviour f b h count s;
  formed = sweep_formed behaviour f b h count s keys w;
  none_closed = none_left behaviour f b h count s w.nested;
}

pub returns-clause-in_sessions : goal.returns-clause-in_sessions
returns-clause-in_sessions g c = λ behaviour t b h count sound s. none_left behaviour t.state.forest b h count s sound.forest.nested t.state.tables.ops sound.listed.ops
