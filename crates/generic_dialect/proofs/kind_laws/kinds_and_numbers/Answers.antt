use Rattle.generic_dialect.proofs.KindLemmas.{number_back, kind_back}
use Rattle.generic_dialect.proofs.kind_laws.kinds_and_numbers.Goals as goal

pub returns-clause-there : goal.returns-clause-there
returns-clause-there c = number_back

pub returns-clause-back : goal.returns-clause-back
returns-clause-back c = kind_back
