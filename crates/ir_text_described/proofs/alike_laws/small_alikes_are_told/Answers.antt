use Rattle.ir_text_described.proofs.AlikeRows.{alike_rows}
use Rattle.ir_text_described.proofs.alike_laws.small_alikes_are_told.Goals as goal

pub returns : goal.returns
returns c = alike_rows
