use Rattle.ir_base_arenas.proofs.ListLaws.{SameBut-read}
use Rattle.ir_base_arenas.proofs.list_laws.edits_keep_fields.Goals as goal

pub returns : goal.returns
returns g c clear field old new reads same id = SameBut-read clear field old new reads same id
