use Rattle.ir_model.proofs.LetterRows.{first_letters, counter_spent}
use Rattle.ir_model.proofs.small_sessions.identifiers_are_given_by_letters.Goals as goal

pub returns-clause-first_letters : goal.returns-clause-first_letters
returns-clause-first_letters c = first_letters

pub returns-clause-counter_spent : goal.returns-clause-counter_spent
returns-clause-counter_spent c = counter_spent
