use Rattle.std.proofs.Common.{◌≡◌, take}
use Rattle.ir_text_tokens.specs.Coverings.{spelling, lexemes}
use Rattle.ir_text_tokens.proofs.spelling.spell.Given as goal

abbrev pub invariant-loop-token : goal.invariant-loop-token
invariant-loop-token l = l.out.items ≡ spelling (lexemes l.text (take l.token-index l.tokens))
