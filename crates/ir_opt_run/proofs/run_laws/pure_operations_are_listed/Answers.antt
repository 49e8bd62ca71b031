use Rattle.ir_opt_run.proofs.PureNames.{pure_are_listed}
use Rattle.ir_opt_run.proofs.run_laws.pure_operations_are_listed.Goals as goal

pub returns : goal.returns
returns c = pure_are_listed
