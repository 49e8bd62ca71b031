use Rattle.std.proofs.Common.{rules}
use Rattle.std.proofs.lemmas.Str.Pattern.{strip_prefix_char}
use Rattle.toy_script_text.proofs.script_fields.parse_name.Goals as goal

-- src/script_fields.rt:20:18
pub returns-in_err-number : goal.returns-in_err-number
returns-in_err-number c = search (rules, strip_prefix_char c.args.letter c.args.text.now _ c.strip_prefix.ensures.cases)
