use Rattle.ir_run_unreached.proofs.unreached_laws.unreached_removal_tells.Goals as goal

pub returns : goal.returns
returns g c = c.unreached_removal_is_one.ensures
