use Rattle.ir_model.proofs.MovedUseRows.{replace_all, removed_operand, two_results_moved, asked_before}
use Rattle.ir_model.proofs.small_sessions.uses_move_as_told.Goals as goal

pub returns-clause-replace_all : goal.returns-clause-replace_all
returns-clause-replace_all c = replace_all

pub returns-clause-removed_operand : goal.returns-clause-removed_operand
returns-clause-removed_operand c = removed_operand

pub returns-clause-two_results_moved : goal.returns-clause-two_results_moved
returns-clause-two_results_moved c = two_results_moved

pub returns-clause-asked_before : goal.returns-clause-asked_before
returns-clause-asked_before c = asked_before
