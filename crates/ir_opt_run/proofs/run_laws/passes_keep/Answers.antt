use Rattle.ir_opt_run.proofs.PassesRight.{all_keep}
use Rattle.ir_opt_run.proofs.run_laws.passes_keep.Goals as goal

pub returns : goal.returns
returns g c = all_keep _ _ c.sweep_inside_is_right.ensures c.merge_common_inside_is_right.ensures c.inside_removal_tells.ensures
