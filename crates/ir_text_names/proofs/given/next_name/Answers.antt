use Rattle.std.proofs.Common.{sym, ◌∙◌}
use Rattle.ir_text_names.proofs.EscapedNames.{name_plain}
use Rattle.ir_text_names.proofs.given.next_name.Goals as goal

pub returns-else-is_escaped-clause-name : goal.returns-else-is_escaped-clause-name
returns-else-is_escaped-clause-name c = λ p. c.plain_name.ensures ∙ name_plain c.args.kind c.args.part c.args.text.now (sym c.is_escaped.ensures ∙ c.if-is_escaped.false) p
