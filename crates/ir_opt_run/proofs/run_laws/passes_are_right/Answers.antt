use Rattle.ir_opt_run.proofs.PassesRight.{all_right}
use Rattle.ir_opt_run.proofs.run_laws.passes_are_right.Goals as goal

pub returns : goal.returns
returns g c = all_right _ _ c.sweep_inside_is_right.ensures c.merge_common_inside_is_right.ensures c.right_passes_follow.ensures.follow c.right_passes_follow.ensures.nothing
