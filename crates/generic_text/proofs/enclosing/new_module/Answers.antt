use Rattle.std.proofs.Common.{ap, refl}
use Rattle.ir_core_queries.specs.State.{bare, forest_of}
use Rattle.generic_text.proofs.Apart.{apart-same}
use Rattle.generic_text.proofs.MadeNew.{dead_op, op_apart, unmade}
use Rattle.generic_text.proofs.NewModules.{made_module}
use Rattle.generic_text.proofs.enclosing.new_module.Goals as goal

pub returns-clause-made : goal.returns-clause-made
returns-clause-made c = made_module (forest_of c.args.ctx.now) (forest_of c.new.new.ctx) c.in_ok-new.field-0.index _ c.args.kind _ _ _ _ c.in_ok-new.ensures.made.forest c.in_ok-new.ensures.counts c.requires refl

pub returns-clause-apart : goal.returns-clause-apart
returns-clause-apart c = op_apart _ (bare c.args.ctx.now) (bare c.new.new.ctx) c.recall_live_was_made.ensures _ _ _ _ _ _ c.in_ok-new.ensures.made

pub returns-clause-new : goal.returns-clause-new
returns-clause-new c = dead_op _ (bare c.args.ctx.now) (bare c.new.new.ctx) c.recall_live_was_made.ensures _ _ _ _ _ _ c.in_ok-new.ensures.made

pub returns-in_err-new-clause-apart : goal.returns-in_err-new-clause-apart
returns-in_err-new-clause-apart c = λ first apart.
    apart-same first (forest_of c.args.ctx.now) apart (forest_of c.new.new.ctx)
    (unmade (bare c.args.ctx.now) (bare c.new.new.ctx) _ _ c.in_err-new.field-0.0 c.in_err-new.ensures.refused c.in_err-new.ensures.unmet (λ same. ap (λ s. forest_of s) same))
