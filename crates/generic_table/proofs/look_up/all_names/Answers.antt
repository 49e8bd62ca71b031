use Rattle.std.proofs.Common.{refl}
use Rattle.generic_table.specs.Table.{all_names}
use Rattle.generic_table.proofs.look_up.all_names.Goals as goal

pub returns : goal.returns
unfolding all_names
returns c = refl
