use Rattle.ir_opt_run.proofs.PureNames.{listed_are_rows}
use Rattle.ir_opt_run.proofs.run_laws.listed_names_are_rows.Goals as goal

pub returns : goal.returns
returns c = listed_are_rows
