use Rattle.ir_model.proofs.ConditionRows.{may_make, may_define, may_use, may_list, may_join, may_remove}
use Rattle.ir_model.proofs.edit_rows.condition_rows.Goals as goal

pub returns-clause-made : goal.returns-clause-made
returns-clause-made c = may_make

pub returns-clause-definitions : goal.returns-clause-definitions
returns-clause-definitions c = may_define

pub returns-clause-uses : goal.returns-clause-uses
returns-clause-uses c = may_use

pub returns-clause-lists : goal.returns-clause-lists
returns-clause-lists c = may_list

pub returns-clause-joins : goal.returns-clause-joins
returns-clause-joins c = may_join

pub returns-clause-removals : goal.returns-clause-removals
returns-clause-removals c = may_remove
