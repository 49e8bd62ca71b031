use Rattle.ir_core_context.specs.Named.{live-value}
use Rattle.ir_core_queries.proofs.Given.{given-name}
use Rattle.ir_core_queries.proofs.named.value_name.Goals as goal

pub definition-requires : goal.definition-requires
definition-requires g c = rw c.records.ensures (live-value c.args.ctx.now.records c.args.value.index c.requires)

pub returns-in-Some : goal.returns-in-Some
returns-in-Some g c = let h = given-name c.args.ctx.now.records c.args.value.index c.definition.result.now (rw c.records.ensures at c.definition.ensures.is) in rw (c.in-Some.is, ← c.deref.ensures) at h

pub returns-in-None : goal.returns-in-None
returns-in-None g c = let h = given-name c.args.ctx.now.records c.args.value.index c.definition.result.now (rw c.records.ensures at c.definition.ensures.is) in rw c.in-None.is at h
