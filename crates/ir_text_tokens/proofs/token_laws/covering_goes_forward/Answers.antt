use Rattle.std.proofs.Common.{false, length, arith}
use Rattle.ir_text_tokens.proofs.TokenClauses.{covers_forward}
use Rattle.ir_text_tokens.proofs.token_laws.covering_goes_forward.Goals as goal

pub returns : goal.returns
returns c = λ ts text covers. covers_forward ts 0 (length text) false text (omega arith) covers
