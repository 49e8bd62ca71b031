use Rattle.ir_text_meaning.proofs.Owned.{owners_meet}
use Rattle.ir_text_meaning.proofs.owner_laws.operations_own_parts.Goals as goal

pub returns : goal.returns
returns c = owners_meet
