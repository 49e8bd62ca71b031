use Rattle.ir_model.proofs.SomeUses.{sets_of_uses_move, same_definition_stays, moved_uses_are_listed}
use Rattle.ir_model.proofs.call_laws.sets_of_uses_move.Goals as goal

pub returns-clause-moved : goal.returns-clause-moved
returns-clause-moved g c = sets_of_uses_move _

pub returns-clause-same : goal.returns-clause-same
returns-clause-same g c = same_definition_stays _

pub returns-clause-listed : goal.returns-clause-listed
returns-clause-listed g c = moved_uses_are_listed _
