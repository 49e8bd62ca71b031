use Rattle.ir_model.specs.Forest.{a_value}
use Rattle.ir_core_records.specs.Meaning.{value_of}
use Rattle.ir_core_context.specs.Named.{live-value}
use Rattle.ir_core_context.specs.State.{forest_of}
use Rattle.ir_core_queries.proofs.ValueLemmas.{used-iff}
use Rattle.ir_core_queries.proofs.value.ValueValueQueries.is_used.Goals as goal

pub uses-requires : goal.uses-requires
uses-requires g c = rw c.records.ensures (live-value c.args.ctx.now.records c.args.self.index c.requires)

pub returns : goal.returns
returns g c =
    used-iff (forest_of c.args.ctx.now) (a_value (value_of c.args.self.index)) c.uses.result.now c.is_empty.result
    (rw (c.uses.ensures, c.records.ensures) (c.recall_uses_exact.ensures.values c.args.self.index c.requires))
    c.is_empty.ensures
