use Rattle.std.proofs.Common.{◌≡◌, ◌∙◌, ℕ, List, ap, sym, subst, map}
use Rattle.std.proofs.lemmas.Option.{slice_get-map}
use Rattle.ir_core_queries.specs.State.{forest_of}
use Rattle.ir_model.specs.Forest.{of_block}
use Rattle.ir_model.specs.Nesting.{definition_types_of, definitions_of, list_of}
use Rattle.ir_text_described.specs.Written.{IsArgument, Leads, none, more}
use Rattle.generic_text.specs.Checks.{setting_of}
use Rattle.generic_text.proofs.Lists.{Gone, gone-none, gone-next, gone-more}
use Rattle.generic_text.proofs.labels.read_arguments.Goals as goal

pub loop-ty-init : goal.loop-ty-init
loop-ty-init c =
    let all = definition_types_of (forest_of c.args.check.now.ctx.now) (of_block c.args.block.index) in
    let here : definition_types_of (forest_of c.args.check.now.ctx.now) (of_block c.args.block.index) ≡ _ = ap (λ r. map (λ d. d.ty) (list_of (λ x. x.arguments) r)) c.deref.ensures.found.found in
    (subst (λ (ys : List ℕ). Gone all ys 0) (sym (c.into_iter-ty-iterator.ensures.into_iter_gives ∙ c.argument_types-ty-items.ensures.exact ∙ sym here)) (gone-none all), none)

pub read_argument-requires-clause-typed : goal.read_argument-requires-clause-typed
read_argument-requires-clause-typed c =
    sym (slice_get-map (λ d. d.ty) (definitions_of (forest_of c.args.check.now.ctx.now) (of_block c.args.block.index)) c.loop-ty.index) ∙ gone-next c.in-Some.ensures.steps c.loop-ty.invariant.0

pub loop-ty-preserved : goal.loop-ty-preserved
loop-ty-preserved c =
    let s = setting_of c.args.check.now in
    let all = definition_types_of (forest_of c.args.check.now.ctx.now) (of_block c.args.block.index) in (
      subst (Gone all _) (sym c.in_ok-index.ensures) (gone-more c.in-Some.ensures.steps c.loop-ty.invariant.0),
      subst (λ (n : ℕ). Leads (IsArgument s c.args.block.index) c.args.from n c.in_ok-at.at) (sym c.in_ok-index.ensures) (more c.loop-ty.invariant.1 c.in_ok-at.ensures),
    )
