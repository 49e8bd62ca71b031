use Rattle.std.proofs.Common.{length}
use Rattle.ir_core_records.specs.Meaning.{use_of}
use Rattle.ir_core_context.specs.State.{forest_of, types_of}
use Rattle.ir_checked_core.proofs.OneUse.{of_value}
use Rattle.ir_checked_core.proofs.asked.is_use_of_value.Goals as goal

pub returns : goal.returns
returns g c = of_value (forest_of c.args.ctx.now) (length (types_of c.args.ctx.now)) c.recall_well_formed.ensures (use_of c.args.used.index) c.get_def.result.index c.args.value.index c.get_def.ensures.found c.is_same_value.result c.is_same_value.ensures
