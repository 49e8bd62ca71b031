use Rattle.std.proofs.Common.{◌≡◌, ◌<◌, Some, Option, sym, ap, ◌∙◌, subst, IfSome}
use Rattle.std.specs.Option.{option_map}
use Rattle.ir_model.specs.Forest.{an_op}
use Rattle.ir_model.specs.Nesting.{Inside}
use Rattle.ir_core_erasing.specs.Walks.{subtree}
use Rattle.ir_core_erasing.proofs.Steps.{remaining}
use Rattle.ir_core_queries.specs.State.{forest_of}
use Rattle.ir_core_records.specs.DialectAnswers.{behaviour_of}
use Rattle.ir_core_records.specs.declared.record.EntityIndex.{EntityIndex}
use Rattle.ir_core_records.specs.Meaning.{entity_of}
use Rattle.ir_run_passes.proofs.Walks.{Walked, walk_starts, walk_goes_on, walk_ends, inside_live, found_inside, next_inside_too, next_smaller, is_none_so}
use Rattle.ir_run_passes.proofs.walking.to_sweep_from.Goals as goal

pub loop-place-init : goal.loop-place-init
loop-place-init g c = record {
  within = c.requires.inside;
  walked = walk_starts (forest_of c.args.ctx.now) (subtree c.args.ctx.now.records (an_op c.args.root.index)) (behaviour_of g.D.Dialects g.D.TypeKey.PartialEq.eq) (option_map entity_of c.args.start);
}

pub block_to_sweep-found-requires : goal.block_to_sweep-found-requires
block_to_sweep-found-requires g c =
    let f = forest_of c.args.ctx.now in
    let root = an_op c.args.root.index in
    let i : Inside f root (entity_of c.in-Some.here) = subst (λ (m : Option EntityIndex). IfSome m (λ e. Inside f root (entity_of e))) c.in-Some.is c.loop-place.invariant.within in
    inside_live f c.recall_well_formed.ensures.nested root (entity_of c.in-Some.here) c.requires.live i

pub returns-then-is_some-clause-inside : goal.returns-then-is_some-clause-inside
returns-then-is_some-clause-inside g c =
    let f = forest_of c.args.ctx.now in
    let root = an_op c.args.root.index in
    let i : Inside f root (entity_of c.in-Some.here) = subst (λ (m : Option EntityIndex). IfSome m (λ e. Inside f root (entity_of e))) c.in-Some.is c.loop-place.invariant.within in
    found_inside f root (λ p. p.index) c.block_to_sweep-found.result (entity_of c.in-Some.here) i c.block_to_sweep-found.ensures.block

pub loop-place-preserved : goal.loop-place-preserved
loop-place-preserved g c =
    let f = forest_of c.args.ctx.now in
    let root = an_op c.args.root.index in
    let xs = subtree c.args.ctx.now.records root in
    let B = behaviour_of g.D.Dialects g.D.TypeKey.PartialEq.eq in
    let here = entity_of c.in-Some.here in
    let start = option_map entity_of c.args.start in
    let i : Inside f root here = subst (λ (m : Option EntityIndex). IfSome m (λ e. Inside f root (entity_of e))) c.in-Some.is c.loop-place.invariant.within in
    let w : Walked f xs B start (Some here) = subst (λ (m : Option EntityIndex). Walked f xs B start (option_map entity_of m)) c.in-Some.is c.loop-place.invariant.walked in
    record {
      within = next_inside_too f root xs c.recall_walk_lists.ensures here i entity_of c.walk_next-place.result c.walk_next-place.ensures;
      walked = walk_goes_on f xs B start (option_map entity_of c.walk_next-place.result) here c.walk_next-place.ensures
          (c.block_to_sweep-found.ensures.none (is_none_so c.block_to_sweep-found.result (sym c.is_some.ensures ∙ c.if-is_some.false))) w;
    }

pub loop-place-smaller : goal.loop-place-smaller
loop-place-smaller g c =
    let f = forest_of c.args.ctx.now in
    let root = an_op c.args.root.index in
    let xs = subtree c.args.ctx.now.records root in
    let here = entity_of c.in-Some.here in
    let i : Inside f root here = subst (λ (m : Option EntityIndex). IfSome m (λ e. Inside f root (entity_of e))) c.in-Some.is c.loop-place.invariant.within in
    let less : remaining xs (option_map entity_of c.walk_next-place.result) < remaining xs (Some here) = next_smaller f root xs c.recall_walk_lists.ensures here i (option_map entity_of c.walk_next-place.result) c.walk_next-place.ensures in
    let was : remaining xs (option_map entity_of c.loop-place.place) ≡ remaining xs (Some here) = ap (λ (m : Option EntityIndex). remaining xs (option_map entity_of m)) c.in-Some.is in
    subst (λ n. remaining xs (option_map entity_of c.walk_next-place.result) < n) (sym was) less

pub returns-clause-none : goal.returns-clause-none
returns-clause-none g c =
    let f = forest_of c.args.ctx.now in
    let xs = subtree c.args.ctx.now.records (an_op c.args.root.index) in
    let B = behaviour_of g.D.Dialects g.D.TypeKey.PartialEq.eq in
    let start = option_map entity_of c.args.start in
    λ e. walk_ends f xs B start (subst (λ (m : Option EntityIndex). Walked f xs B start (option_map entity_of m)) c.in_default.is c.loop-place.invariant.walked)
