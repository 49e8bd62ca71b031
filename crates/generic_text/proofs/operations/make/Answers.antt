use Rattle.std.proofs.Common.{◌∙◌, ◌++◌, ◌∷◌, [], ap, refl}
use Rattle.ir_core_queries.specs.State.{bare, forest_of}
use Rattle.ir_model.specs.Forest.{an_op}
use Rattle.generic_text.specs.Left.{IsNew}
use Rattle.generic_text.proofs.BuiltOn.{all_more, on_apart, on_same}
use Rattle.generic_text.proofs.Left.{was_not}
use Rattle.generic_text.proofs.MadeNew.{dead_op, op_apart, unmade}
use Rattle.generic_text.proofs.operations.make.Goals as goal

pub returns-in_err-op-clause-goes_on : goal.returns-in_err-op-clause-goes_on
returns-in_err-op-clause-goes_on c = λ first builds.
    on_same first (forest_of c.args.ctx.now) c.args.made.now builds (forest_of c.new.new.ctx) _
    (unmade (bare c.args.ctx.now) (bare c.new.new.ctx) _ _ c.in_err-op.field-0.0 c.in_err-op.ensures.refused c.in_err-op.ensures.unmet (λ same. ap (λ s. forest_of s) same)) c.reserve.ensures.items refl refl

pub returns-in_err-push-clause-goes_on : goal.returns-in_err-push-clause-goes_on
returns-in_err-push-clause-goes_on c = λ first builds.
    let apart = op_apart _ (bare c.args.ctx.now) (bare c.new.new.ctx) c.recall_live_was_made.ensures _ _ _ _ _ _ c.in_ok-op.ensures.made first builds.apart in
    on_apart first (forest_of c.args.ctx.now) c.args.made.now builds (forest_of c.new.new.ctx) _ apart (c.in_err-push.ensures.items ∙ c.reserve.ensures.items) refl refl

pub returns-clause-new : goal.returns-clause-new
returns-clause-new c = dead_op _ (bare c.args.ctx.now) (bare c.new.new.ctx) c.recall_live_was_made.ensures _ _ _ _ _ _ c.in_ok-op.ensures.made

pub returns-clause-goes_on : goal.returns-clause-goes_on
returns-clause-goes_on c = λ first builds.
    let f = forest_of c.args.ctx.now in
    let apart = op_apart _ (bare c.args.ctx.now) (bare c.new.new.ctx) c.recall_live_was_made.ensures _ _ _ _ _ _ c.in_ok-op.ensures.made first builds.apart in
    let new : IsNew first (an_op c.in_ok-op.op.index) = was_not first f builds.apart.left (an_op c.in_ok-op.op.index) (returns-clause-new c) in
    record {
      apart = apart;
      ops = all_more (λ p. IsNew first (an_op p.0.index)) _ _ (c.in_ok-op.op, c.args.rows.name) (c.in_ok-push.ensures.items ∙ ap (λ ps. ps ++ (c.in_ok-op.op, c.args.rows.name) ∷ []) c.reserve.ensures.items) builds.ops new;
      blocks = builds.blocks;
      late = builds.late;
    }
