use Rattle.generic_dialect.proofs.KeyLemmas.{keys_apart}
use Rattle.generic_dialect.proofs.key_laws.keys_stand_apart.Goals as goal

pub returns : goal.returns
returns c = keys_apart
