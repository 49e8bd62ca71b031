use Rattle.ir_opt_run.proofs.WrittenAlike.{written_alike}
use Rattle.ir_opt_run.proofs.run_laws.written_alike_is_one.Goals as goal

pub returns : goal.returns
returns c = written_alike
