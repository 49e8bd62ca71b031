use Rattle.generic_dialect.proofs.KeyLemmas.{properties_apart}
use Rattle.generic_dialect.proofs.key_laws.properties_stand_apart.Goals as goal

pub returns : goal.returns
returns c = properties_apart
