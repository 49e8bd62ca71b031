use Rattle.ir_model.proofs.WorkedRows.{region_moves, own_result, outside_use, into_itself, preds_twice}
use Rattle.ir_model.proofs.SweepRows.{sweeps}
use Rattle.ir_model.proofs.NamedRows.{unique_names, clashes}
use Rattle.ir_model.proofs.FaultRows.{entry_block, faults_stand}
use Rattle.ir_model.proofs.examples.worked_rows.Goals as goal

pub returns-clause-region_moves : goal.returns-clause-region_moves
returns-clause-region_moves c = region_moves

pub returns-clause-own_result : goal.returns-clause-own_result
returns-clause-own_result c = own_result

pub returns-clause-outside_use_in_depth : goal.returns-clause-outside_use_in_depth
returns-clause-outside_use_in_depth c = outside_use

pub returns-clause-insert_into_itself : goal.returns-clause-insert_into_itself
returns-clause-insert_into_itself c = into_itself

pub returns-clause-preds_twice : goal.returns-clause-preds_twice
returns-clause-preds_twice c = preds_twice

pub returns-clause-sweeps : goal.returns-clause-sweeps
returns-clause-sweeps c = sweeps

pub returns-clause-unique_names : goal.returns-clause-unique_names
returns-clause-unique_names c = unique_names

pub returns-clause-entry_block : goal.returns-clause-entry_block
returns-clause-entry_block c = entry_block

pub returns-clause-legalise_clashes : goal.returns-clause-legalise_clashes
returns-clause-legalise_clashes c = clashes

pub returns-clause-faults_stand : goal.returns-clause-faults_stand
returns-clause-faults_stand c = faults_stand
