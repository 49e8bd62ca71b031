use Rattle.std.proofs.Common.{false}
use Rattle.ir_text_tokens.specs.Coverings.{spelling, placed}
use Rattle.ir_text_tokens.proofs.Respelling.{covers_read, spelling_covers}
use Rattle.ir_text_tokens.proofs.token_laws.spelling_is_read.Goals as goal

pub returns : goal.returns
returns c = λ xs h. covers_read (placed 0 xs) 0 false (spelling xs) (spelling_covers xs 0 false h)
