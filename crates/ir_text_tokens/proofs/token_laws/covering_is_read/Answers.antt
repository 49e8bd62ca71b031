use Rattle.std.proofs.Common.{false}
use Rattle.ir_text_tokens.proofs.Respelling.{covers_read}
use Rattle.ir_text_tokens.proofs.token_laws.covering_is_read.Goals as goal

pub returns : goal.returns
returns c = λ ts text h. covers_read ts 0 false text h
