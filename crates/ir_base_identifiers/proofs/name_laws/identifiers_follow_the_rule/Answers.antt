use Rattle.ir_base_identifiers.proofs.NameLawLemmas.{FollowsRule-from, IsIdentifier-from}
use Rattle.ir_base_identifiers.proofs.name_laws.identifiers_follow_the_rule.Goals as goal

pub returns : goal.returns
returns c = λ text. (FollowsRule-from text, IsIdentifier-from text)
