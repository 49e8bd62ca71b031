use Rattle.ir_run_passes.proofs.pass_laws.merge_common_inside_is_right.Goals as goal

pub returns : goal.returns
returns g c = c.merges_are_right.ensures.inside
