use Rattle.ir_model_passes.proofs.MergeRows.{alike_rows, merge_rows, move_rows, order_rows}
use Rattle.ir_model_passes.proofs.KeptRows.{kept_rows}
use Rattle.ir_model_passes.proofs.SweepRows.{sweep_rows}
use Rattle.ir_model_passes.proofs.UnreachedRows.{unreached_rows}
use Rattle.ir_model_passes.proofs.pass_rows.small_passes_are_told.Goals as goal

pub returns-clause-alike : goal.returns-clause-alike
returns-clause-alike c = alike_rows

pub returns-clause-merges : goal.returns-clause-merges
returns-clause-merges c = merge_rows

pub returns-clause-moves : goal.returns-clause-moves
returns-clause-moves c = move_rows

pub returns-clause-order : goal.returns-clause-order
returns-clause-order c = order_rows

pub returns-clause-kept : goal.returns-clause-kept
returns-clause-kept c = kept_rows

pub returns-clause-sweeps : goal.returns-clause-sweeps
returns-clause-sweeps c = sweep_rows

pub returns-clause-unreached : goal.returns-clause-unreached
returns-clause-unreached c = unreached_rows
