use Rattle.std.proofs.Common.{sym}
use Rattle.generic_dialect.proofs.KeyLemmas.{no_text}
use Rattle.generic_dialect.proofs.attribute_keys.plain.Goals as goal

pub returns-in-Err-clause-plain : goal.returns-in-Err-clause-plain
returns-in-Err-clause-plain c = sym (no_text c.args.key.now c.in-Err.ensures.cases.0)
