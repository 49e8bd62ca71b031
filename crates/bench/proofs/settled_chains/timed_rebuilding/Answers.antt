use Rattle.std.proofs.Common.{◌<◌, length, subst, sym}
use Rattle.ir_base.specs.Model.Nesting.{In, ops_of}
use Rattle.ir_core.specs.Context.State.{forest_of}
use Rattle.bench.proofs.Replaced.{head_stands, next_left, of_some}
use Rattle.bench.proofs.Rebuilding.{standing_live}
use Rattle.bench.proofs.settled_chains.timed_rebuilding.Goals as goal

pub loop-i-init : goal.loop-i-init
loop-i-init g c = record {
  known = c.requires.known;
  links = c.requires.links;
  place = head_stands (λ p. p.index) c.get_head-place.result (ops_of (forest_of c.args.ctx.now) c.args.block.index) c.get_head-place.ensures.first;
}

pub get_next-place-requires : goal.get_next-place-requires
get_next-place-requires g c =
    let f = forest_of c.loop-i.ctx in
    let stands = of_some c.loop-i.place c.in-Some.old (λ p. In p.index (ops_of f c.args.block.index)) c.in-Some.is c.loop-i.invariant.place in
    standing_live f c.recall_well_formed.ensures.nested c.in-Some.old.index c.args.block.index stands

pub rebuild-requires-clause-known : goal.rebuild-requires-clause-known
rebuild-requires-clause-known g c = c.loop-i.invariant.known

pub rebuild-requires-clause-stands : goal.rebuild-requires-clause-stands
rebuild-requires-clause-stands g c = of_some c.loop-i.place c.in-Some.old (λ p. In p.index (ops_of (forest_of c.loop-i.ctx) c.args.block.index)) c.in-Some.is c.loop-i.invariant.place

pub rebuild-requires-clause-link : goal.rebuild-requires-clause-link
rebuild-requires-clause-link g c = c.loop-i.invariant.links c.in-Some.old.index (of_some c.loop-i.place c.in-Some.old (λ p. In p.index (ops_of (forest_of c.loop-i.ctx) c.args.block.index)) c.in-Some.is c.loop-i.invariant.place)

pub loop-i-preserved : goal.loop-i-preserved
loop-i-preserved g c =
    let now = c.loop-i.invariant in
    let done = c.in_ok-rebuild.ensures in
    let f = forest_of c.loop-i.ctx in
    let block = c.args.block.index in
    let stands = of_some c.loop-i.place c.in-Some.old (λ p. In p.index (ops_of f block)) c.in-Some.is now.place in
    record {
      known = subst (λ ts. c.args.ty.place < length ts) (sym done.types) now.known;
      links = done.links now.links;
      place = next_left f (forest_of c.rebuild.new.ctx) c.recall_well_formed.ensures.nested block c.in-Some.old.index stands (λ p. p.index) c.get_next-place.result c.get_next-place.ensures.next done.others;
    }
