use Rattle.generic_table.proofs.TableFacts.{operations-names_rise}
use Rattle.generic_table.proofs.laws_of_rows.names_rise.Goals as goal

pub returns : goal.returns
returns c = operations-names_rise
