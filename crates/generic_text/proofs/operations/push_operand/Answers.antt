use Rattle.std.proofs.Common.{inl, refl}
use Rattle.ir_core_queries.specs.State.{forest_of}
use Rattle.generic_text.proofs.Apart.{apart-op}
use Rattle.generic_text.proofs.BuiltOn.{on_apart}
use Rattle.generic_text.proofs.operations.push_operand.Goals as goal

pub returns-in_ok-push_operand-in-Some-value : goal.returns-in_ok-push_operand-in-Some-value
returns-in_ok-push_operand-in-Some-value c = λ first builds new.
    on_apart first (forest_of c.args.ctx.now) c.args.made.now builds _ _ (apart-op first (forest_of c.args.ctx.now) builds.apart _ c.args.op.index _ new c.in_ok-push_operand-in-Some-value.ensures.made.forest (λ r x at. inl at)) refl refl refl
