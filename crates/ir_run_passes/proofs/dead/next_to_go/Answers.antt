use Rattle.std.proofs.Common.{refl, sym, ◌∙◌, subst, IfSome}
use Rattle.std.specs.Option.{option_map}
use Rattle.ir_model.specs.Nesting.{In, ops_of}
use Rattle.ir_core_queries.specs.State.{forest_of}
use Rattle.ir_run_passes.proofs.Ranks.{listed_live, beside_listed, rank_beside, rank_smaller, not_both}
use Rattle.ir_run_passes.proofs.BlockWalks.{Walking, walk_starts, walk_ends, walk_goes_on}
use Rattle.ir_run_passes.proofs.dead.next_to_go.Goals as goal
use Rattle.ir_core_records.specs.DialectAnswers.{behaviour_of}

pub loop-place-init : goal.loop-place-init
loop-place-init g c = record {
  listed = c.requires;
  passed = walk_starts (behaviour_of g.D.Dialects g.D.TypeKey.PartialEq.eq) (forest_of c.args.ctx.now) c.args.block.index c.args.to_end (option_map (λ p. p.index) c.args.place);
}

pub can_go-requires : goal.can_go-requires
can_go-requires g c =
    let f = forest_of c.args.ctx.now in
    listed_live f c.args.block.index c.recall_well_formed.ensures.nested c.in-Some.op.index (subst (λ m. IfSome m (λ p. In p.index (ops_of f c.args.block.index))) c.in-Some.is c.loop-place.invariant.listed)

pub returns-then-can_go-clause-listed : goal.returns-then-can_go-clause-listed
returns-then-can_go-clause-listed g c =
    let f = forest_of c.args.ctx.now in
    subst (λ m. IfSome m (λ p. In p.index (ops_of f c.args.block.index))) c.in-Some.is c.loop-place.invariant.listed

pub beside-place-requires : goal.beside-place-requires
beside-place-requires g c =
    let f = forest_of c.args.ctx.now in
    listed_live f c.args.block.index c.recall_well_formed.ensures.nested c.in-Some.op.index (subst (λ m. IfSome m (λ p. In p.index (ops_of f c.args.block.index))) c.in-Some.is c.loop-place.invariant.listed)

pub loop-place-smaller : goal.loop-place-smaller
loop-place-smaller g c =
    let f = forest_of c.args.ctx.now in
    let b = c.args.block.index in
    let n = c.recall_well_formed.ensures.nested in
    let o = c.in-Some.op.index in
    let h : In o (ops_of f b) = subst (λ m. IfSome m (λ p. In p.index (ops_of f b))) c.in-Some.is c.loop-place.invariant.listed in
    rank_smaller f b n o h (λ p. p.index) c.args.to_end c.loop-place.place c.in-Some.op c.in-Some.is c.beside-place.result c.beside-place.ensures refl

pub loop-place-preserved : goal.loop-place-preserved
loop-place-preserved g c =
    let f = forest_of c.args.ctx.now in
    let b = c.args.block.index in
    let n = c.recall_well_formed.ensures.nested in
    let o = c.in-Some.op.index in
    let B = behaviour_of g.D.Dialects g.D.TypeKey.PartialEq.eq in
    let h : In o (ops_of f b) = subst (λ m. IfSome m (λ p. In p.index (ops_of f b))) c.in-Some.is c.loop-place.invariant.listed in
    record {
      listed = beside_listed f b n o h (λ p. p.index) c.args.to_end c.beside-place.result c.beside-place.ensures;
      passed = walk_goes_on B f b c.args.to_end (option_map (λ p. p.index) c.args.place) o (option_map (λ p. p.index) c.beside-place.result) h
          (λ can. not_both (sym c.if-can_go.false ∙ c.can_go.ensures.1 can))
          (rank_beside f b n o h (λ p. p.index) c.args.to_end c.beside-place.result c.beside-place.ensures)
          (subst (λ m. Walking B f b c.args.to_end (option_map (λ p. p.index) c.args.place) (option_map (λ p. p.index) m)) c.in-Some.is c.loop-place.invariant.passed);
    }

pub returns-clause-none : goal.returns-clause-none
returns-clause-none g c =
    let f = forest_of c.args.ctx.now in
    let b = c.args.block.index in
    let B = behaviour_of g.D.Dialects g.D.TypeKey.PartialEq.eq in
    λ e. walk_ends B f b c.args.to_end (option_map (λ p. p.index) c.args.place) (subst (λ m. Walking B f b c.args.to_end (option_map (λ p. p.index) c.args.place) (option_map (λ p. p.index) m)) c.in_default.is c.loop-place.invariant.passed)
