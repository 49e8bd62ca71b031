use Rattle.ir_model_passes.proofs.MeaningRows.{consistent_rows}
use Rattle.ir_model_passes.proofs.pass_rows.small_meanings_are_told.Goals as goal

pub returns : goal.returns
returns g c = λ gives. consistent_rows gives
