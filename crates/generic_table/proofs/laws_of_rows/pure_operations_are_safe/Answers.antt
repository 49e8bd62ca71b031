use Rattle.generic_table.proofs.TableFacts.{operations-IsSafe}
use Rattle.generic_table.proofs.laws_of_rows.pure_operations_are_safe.Goals as goal

pub returns : goal.returns
returns c = operations-IsSafe
