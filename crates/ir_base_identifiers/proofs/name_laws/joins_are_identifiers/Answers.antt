use Rattle.ir_base_identifiers.proofs.IdentifierLemmas.{is_identifier-join}
use Rattle.ir_base_identifiers.proofs.name_laws.joins_are_identifiers.Goals as goal

pub returns : goal.returns
returns c = is_identifier-join
