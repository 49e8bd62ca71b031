use Rattle.std.proofs.Common.{◌≡◌, All, sym, subst, ap, ◌∙◌}
use Rattle.ir_model.specs.Forest.{an_op}
use Rattle.ir_model.specs.Nesting.{IsLive}
use Rattle.ir_core_queries.specs.Named.{live-value}
use Rattle.ir_core_queries.specs.State.{forest_of}
use Rattle.ir_core_records.specs.declared.record.UseIndex.{UseIndex}
use Rattle.ir_core_records.specs.Meaning.{use_of, value_of}
use Rattle.ir_core_records.specs.Table.{uses_at}
use Rattle.ir_run_unreached.specs.Kept.{StandsInMarked}
use Rattle.ir_run_unreached.proofs.Slices.{kept_live, kept_named}
use Rattle.ir_run_unreached.proofs.condition.keeps_value.Goals as goal

pub uses-requires : goal.uses-requires
uses-requires g c = rw c.records.ensures (live-value c.args.ctx.now.records c.args.value.index c.requires)

pub are_users_marked-requires : goal.are_users_marked-requires
are_users_marked-requires g c =
    let f = forest_of c.args.ctx.now in
    let v = c.args.value.index in
    let same : c.as_slice.result.now ≡ uses_at c.args.ctx.now.records v = c.as_slice.ensures ∙ c.uses.ensures ∙ ap (λ t. uses_at t v) c.records.ensures in
    subst (λ us. All (λ (u : UseIndex). IsLive f (an_op u.user)) us) (sym same) (kept_live f use_of c.args.marked.now (value_of v) (uses_at c.args.ctx.now.records v) (c.recall_uses_exact.ensures.values v c.requires))

pub returns : goal.returns
returns g c =
    let f = forest_of c.args.ctx.now in
    let v = c.args.value.index in
    let m = c.args.marked.now in
    let tells = kept_named f use_of m (value_of v) (uses_at c.args.ctx.now.records v) (c.recall_uses_exact.ensures.values v c.requires) in
    let same : c.as_slice.result.now ≡ uses_at c.args.ctx.now.records v = c.as_slice.ensures ∙ c.uses.ensures ∙ ap (λ t. uses_at t v) c.records.ensures in (
      λ e. tells.0 (subst (λ us. All (λ (u : UseIndex). StandsInMarked f m u.user) us) same (c.are_users_marked.ensures.0 e)),
      λ k. c.are_users_marked.ensures.1 (subst (λ us. All (λ (u : UseIndex). StandsInMarked f m u.user) us) (sym same) (tells.1 k)),
    )
