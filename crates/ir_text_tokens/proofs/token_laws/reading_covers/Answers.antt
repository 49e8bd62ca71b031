use Rattle.ir_text_tokens.proofs.Covering.{reading_covers}
use Rattle.ir_text_tokens.proofs.token_laws.reading_covers.Goals as goal

pub returns : goal.returns
returns c = reading_covers
