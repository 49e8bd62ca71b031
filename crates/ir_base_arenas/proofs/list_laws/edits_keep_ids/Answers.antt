use Rattle.ir_base_arenas.proofs.ListLaws.{SameIds-from}
use Rattle.ir_base_arenas.proofs.list_laws.edits_keep_ids.Goals as goal

pub returns : goal.returns
returns g c clear old new same = SameIds-from clear old new same
