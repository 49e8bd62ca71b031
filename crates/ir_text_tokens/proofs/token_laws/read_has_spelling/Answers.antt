use Rattle.std.proofs.Common.{[], false, refl}
use Rattle.ir_text_tokens.proofs.Following.{covers_fits}
use Rattle.ir_text_tokens.proofs.token_laws.read_has_spelling.Goals as goal

pub returns : goal.returns
returns c = λ text ts h. covers_fits ts [] 0 false text text refl refl h
