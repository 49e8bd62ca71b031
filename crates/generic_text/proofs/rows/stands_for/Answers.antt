-- A text without escapes stands for itself.
use Rattle.std.proofs.Common.{◌≡◌, ◌∙◌, sym, rules}
use Rattle.ir_text_strings.proofs.FirstBytes.{unescaped_same}
use Rattle.generic_text.proofs.rows.stands_for.Goals as goal

pub returns-else-has_escapes : goal.returns-else-has_escapes
returns-else-has_escapes c = λ h. let e : c.args.text.now ≡ c.args.bytes.now = search rules in unescaped_same c.args.text.now (sym c.has_escapes.ensures ∙ c.if-has_escapes.false) ∙ e
