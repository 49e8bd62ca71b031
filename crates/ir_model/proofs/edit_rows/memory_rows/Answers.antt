use Rattle.ir_model.proofs.MemoryRows.{memory_rows}
use Rattle.ir_model.proofs.edit_rows.memory_rows.Goals as goal

pub returns : goal.returns
returns c = record { memory = memory_rows }
