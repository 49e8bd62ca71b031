use Rattle.generic_dialect.proofs.KindLemmas.{pure_safe}
use Rattle.generic_dialect.proofs.kind_laws.pure_kinds_are_safe.Goals as goal

pub returns : goal.returns
returns c = pure_safe c.pure_operations_are_safe.ensures
