use Rattle.std.proofs.Common.{[], refl}
use Rattle.ir_text_tokens.specs.Coverings.{spelling}
use Rattle.ir_text_tokens.proofs.Respelling.{lexemes_placed}
use Rattle.ir_text_tokens.proofs.token_laws.spelling_is_kept.Goals as goal

pub returns : goal.returns
returns c = λ xs. lexemes_placed xs [] (spelling xs) 0 refl refl
