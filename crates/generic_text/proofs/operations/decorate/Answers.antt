use Rattle.ir_core_queries.specs.State.{forest_of}
use Rattle.generic_text.proofs.Apart.{apart-written-op}
use Rattle.generic_text.proofs.operations.decorate.Goals as goal

pub returns-in_err-put_attributes : goal.returns-in_err-put_attributes
returns-in_err-put_attributes c = λ first apart new. apart-written-op first (forest_of c.args.ctx.now) apart _ c.args.op.index _ _ new (c.in_ok-written.ensures.written.forest _)

pub returns-in_err-put_properties : goal.returns-in_err-put_properties
returns-in_err-put_properties c = λ first apart new. apart-written-op first (forest_of c.args.ctx.now) apart _ c.args.op.index _ _ new (c.in_ok-written.ensures.written.forest _)

pub returns : goal.returns
returns c = λ first apart new. apart-written-op first (forest_of c.args.ctx.now) apart _ c.args.op.index _ _ new (c.in_ok-written.ensures.written.forest _)
