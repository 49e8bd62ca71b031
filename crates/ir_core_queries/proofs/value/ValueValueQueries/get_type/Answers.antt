use Rattle.std.proofs.Common.{length}
use Rattle.ir_core_records.specs.Meaning.{value_of}
use Rattle.ir_core_context.specs.Named.{live-value}
use Rattle.ir_core_context.specs.State.{forest_of, types_of}
use Rattle.ir_core_queries.proofs.ValueLemmas.{type-known, value-type}
use Rattle.ir_core_queries.proofs.value.ValueValueQueries.get_type.Goals as goal

pub definition-requires : goal.definition-requires
definition-requires g c = rw c.records.ensures (live-value c.args.ctx.now.records c.args.self.index c.requires)

pub returns-clause-found : goal.returns-clause-found
returns-clause-found g c =
    let is = rw c.records.ensures at c.definition.ensures.is in
    rw c.at.ensures (value-type c.args.ctx.now.records c.args.self.index c.definition.result.now is.0 is.1 is.2)

pub returns-clause-known : goal.returns-clause-known
returns-clause-known g c = type-known (forest_of c.args.ctx.now) (length (types_of c.args.ctx.now)) (value_of c.args.self.index) c.at.result.place c.recall_well_formed.ensures (returns-clause-found g c)
