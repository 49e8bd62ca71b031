use Rattle.ir_text_meaning.proofs.Owned.{keys_meet}
use Rattle.ir_text_meaning.proofs.owner_laws.keys_are_given_again.Goals as goal

pub returns : goal.returns
returns c = keys_meet
