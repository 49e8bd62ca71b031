use Rattle.std.proofs.Common.{◌++◌, [], ◌∷◌, sym, ap, ◌∙◌, subst, refl}
use Rattle.std.proofs.lemmas.Bool.{false≢true}
use Rattle.ir_core_queries.specs.State.{forest_of}
use Rattle.ir_run_passes.specs.Ordering.{NamesUnmet}
use Rattle.ir_run_passes.proofs.MetSoFar.{MetSoFar, stay_met, met_starts, met_live, met_more, met_goes_on, met_refutes, met_ends}
use Rattle.ir_run_passes.proofs.ordering.is_in_order_by_table.Goals as goal

pub loop-op-init : goal.loop-op-init
loop-op-init g c = (
  tt,
  tt,
  met_starts (forest_of c.args.ctx.now) c.args.block.index c.new-met.result.keys _ c.new-met.ensures.empty (c.into_iter-op-iterator.ensures.into_iter_gives ∙ c.iter-op-items.ensures.items),
)

pub names_unmet-requires : goal.names_unmet-requires
names_unmet-requires g c =
    let f = forest_of c.args.ctx.now in
    let b = c.args.block.index in
    let m = subst (MetSoFar f b c.loop-op.met.keys) c.in-Some.ensures.steps c.loop-op.invariant.2 in
    met_live f b c.recall_well_formed.ensures.nested c.loop-op.met.keys _ c.in-Some.op.index m

pub returns-then-names_unmet-clause-order : goal.returns-then-names_unmet-clause-order
returns-then-names_unmet-clause-order g c =
    let f = forest_of c.args.ctx.now in
    let b = c.args.block.index in
    let n = c.recall_well_formed.ensures.nested in
    let x = c.in-Some.op.index in
    let m = subst (MetSoFar f b c.loop-op.met.keys) c.in-Some.ensures.steps c.loop-op.invariant.2 in
    let now = met_more f b n c.loop-op.met.keys _ x m c.insert.new.self.keys c.in_ok-insert.ensures.keys in
    let unmet = subst (λ xs. NamesUnmet f b xs x) now (c.names_unmet.ensures.0 c.if-names_unmet.true) in
    (λ t. absurd (false≢true t), λ order. absurd (met_refutes f b n c.loop-op.met.keys _ x m unmet order))

pub loop-op-preserved : goal.loop-op-preserved
loop-op-preserved g c =
    let f = forest_of c.args.ctx.now in
    let b = c.args.block.index in
    let n = c.recall_well_formed.ensures.nested in
    let x = c.in-Some.op.index in
    let m = subst (MetSoFar f b c.loop-op.met.keys) c.in-Some.ensures.steps c.loop-op.invariant.2 in
    let now = met_more f b n c.loop-op.met.keys _ x m c.insert.new.self.keys c.in_ok-insert.ensures.keys in (
      tt,
      tt,
      stay_met f b (sym now) (met_goes_on f b n c.loop-op.met.keys _ x m (λ u. false≢true (sym c.if-names_unmet.false ∙ c.names_unmet.ensures.1 (subst (λ xs. NamesUnmet f b xs x) (sym now) u)))),
    )

pub returns-clause-order : goal.returns-clause-order
returns-clause-order g c =
    let f = forest_of c.args.ctx.now in
    let b = c.args.block.index in
    let m = subst (MetSoFar f b c.loop-op.met.keys) c.in-None.ensures.steps.0 c.loop-op.invariant.2 in
    (λ t. met_ends f b c.loop-op.met.keys m, λ order. refl)
