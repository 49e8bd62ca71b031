use Rattle.ir_view_parts.proofs.Leads.{arguments-live}
use Rattle.ir_view_parts.proofs.block_parts.BasicBlockBlockParts.arguments.Goals as goal

pub returns-clause-live : goal.returns-clause-live
returns-clause-live g c = arguments-live c.args.self.now c.all.result c.all.ensures
