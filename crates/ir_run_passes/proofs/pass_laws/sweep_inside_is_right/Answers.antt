use Rattle.ir_run_passes.proofs.pass_laws.sweep_inside_is_right.Goals as goal

pub returns : goal.returns
returns g c = c.sweeps_are_right.ensures.inside
