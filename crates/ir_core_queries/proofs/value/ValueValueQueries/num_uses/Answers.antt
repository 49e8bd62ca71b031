use Rattle.ir_core_context.specs.Named.{live-value}
use Rattle.ir_core_queries.proofs.value.ValueValueQueries.num_uses.Goals as goal

pub uses-requires : goal.uses-requires
uses-requires g c = rw c.records.ensures (live-value c.args.ctx.now.records c.args.self.index c.requires)
