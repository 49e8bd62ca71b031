use Rattle.std.proofs.Common.{length}
use Rattle.ir_core_records.specs.Meaning.{use_of}
use Rattle.ir_core_context.specs.State.{forest_of, types_of}
use Rattle.ir_checked_core.proofs.OneUse.{of_block_use}
use Rattle.ir_checked_core.proofs.asked.is_use_of_block.Goals as goal

pub returns : goal.returns
returns g c = of_block_use (forest_of c.args.ctx.now) (length (types_of c.args.ctx.now)) c.recall_well_formed.ensures (use_of c.args.used.index) c.get_def.result.index c.args.block.index c.get_def.ensures.found c.is_same_block.result c.is_same_block.ensures
