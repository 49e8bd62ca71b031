use Rattle.std.proofs.Common.{refl}
use Rattle.generic_table.specs.Table.{rows}
use Rattle.generic_table.proofs.look_up.rows.Goals as goal

pub returns : goal.returns
unfolding rows
returns c = refl
