use Rattle.ir_model.proofs.LimitRows.{new_ids, slots_are_spent, numbers_are_spent}
use Rattle.ir_model.proofs.limit_rows.limits_tell.Goals as goal

pub returns-clause-ids : goal.returns-clause-ids
returns-clause-ids c = new_ids

pub returns-clause-slots : goal.returns-clause-slots
returns-clause-slots c = slots_are_spent

pub returns-clause-numbers : goal.returns-clause-numbers
returns-clause-numbers c = numbers_are_spent
