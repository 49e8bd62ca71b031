use Rattle.ir_view_parts.proofs.Leads.{argument-types-known}
use Rattle.ir_view_parts.proofs.block_parts.BasicBlockBlockParts.argument_types.Goals as goal

pub returns-clause-known : goal.returns-clause-known
returns-clause-known g c = argument-types-known c.args.self.now c.all.result c.all.ensures
