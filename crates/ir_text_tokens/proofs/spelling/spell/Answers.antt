use Rattle.std.proofs.Common.{ℕ, List, ◌++◌, get_or, false, sym, ap, ◌∙◌}
use Rattle.ir_text_tokens.specs.declared.token.Kind.TheVariants.{Word}
use Rattle.ir_text_tokens.specs.Readings.{token}
use Rattle.ir_text_tokens.specs.Coverings.{lexeme, one_spelling}
use Rattle.ir_text_tokens.proofs.TokenClauses.{lexemes_more}
use Rattle.ir_text_tokens.proofs.spelling.spell.Goals as goal

pub loop-token-preserved : goal.loop-token-preserved
loop-token-preserved c =
    let text = c.args.text.now in
    let any = token Word false 0 0 in
    let l = c.loop-token in
    c.in_ok-spell_token.ensures
    ∙ ap (λ (x : List ℕ). x ++ one_spelling (lexeme text (get_or c.args.tokens.now l.token-index any))) l.invariant
    ∙ sym (lexemes_more text c.args.tokens.now l.token-index any c.loop-token-test.true)
