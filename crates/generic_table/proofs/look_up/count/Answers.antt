use Rattle.std.proofs.Common.{length, sym, ap, ◌∙◌}
use Rattle.generic_table.proofs.TableFacts.{operations-length}
use Rattle.generic_table.proofs.look_up.count.Goals as goal

pub returns : goal.returns
returns c = ap length c.rows.ensures ∙ sym operations-length
