use Rattle.std.proofs.Common.{◌≡◌, ◌-◌, ◌<◌, ◌≤◌, suc, Some, inl, refl, sym, ap, ◌∙◌, subst, arith}
use Rattle.std.specs.Option.{option_map}
use Rattle.ir_model.specs.Nesting.{In, itself, below, children}
use Rattle.ir_model.proofs.Relinks.{first_in}
use Rattle.ir_core_nesting.specs.Climbs.{depth, size}
use Rattle.ir_core_context.specs.State.{forest_of}
use Rattle.ir_core_queries.specs.Entities.{meant}
use Rattle.ir_view.proofs.Forests.{first-none}
use Rattle.ir_view.proofs.Steps.{leads-self, leads-down, leads-first}
use Rattle.ir_view.proofs.next.innermost.Goals as goal

pub loop-child-init : goal.loop-child-init
loop-child-init g c = record { inside = itself; leads = leads-self (children (forest_of c.args.ctx.now)) (meant c.args.start) }

pub loop-child-preserved : goal.loop-child-preserved
loop-child-preserved g c =
    let f = forest_of c.args.ctx.now in
    let here = meant c.loop-child.current in
    let child = meant c.in-Some.child in
    let cs = first_in child (children f here) (sym c.in-Some.ensures) in
    record {
      inside = below (subst (In child) (sym cs.1) (inl refl)) c.loop-child.invariant.inside;
      leads = leads-down (children f) (meant c.args.start) here child cs.0 cs.1 c.loop-child.invariant.leads;
    }

pub loop-child-smaller : goal.loop-child-smaller
loop-child-smaller g c =
    let s = c.args.ctx.now in
    let t = s.records in
    let here = meant c.loop-child.current in
    let child = meant c.in-Some.child in
    let cs = first_in child (children (forest_of s) here) (sym c.in-Some.ensures) in
    let more : depth t (Some child) ≡ suc (depth t (Some here)) = c.recall_depths_follow.ensures.below t child here c.recall_holds_together.ensures.nested c.recall_well_formed.ensures.nested (subst (In child) (sym cs.1) (inl refl)) in
    let fits : depth t (Some child) ≤ suc (size t) = c.recall_depths_follow.ensures.fits t (Some child) in
    let smaller : suc (size t) - depth t (Some child) < suc (size t) - depth t (Some here) = omega (arith, more, fits) in
    smaller

pub returns-clause-inside : goal.returns-clause-inside
returns-clause-inside g c = c.loop-child.invariant.inside

pub returns-clause-first : goal.returns-clause-first
returns-clause-first g c =
    let f = forest_of c.args.ctx.now in
    let here = meant c.loop-child.current in
    let none = first-none (children f here) (sym c.first_child.ensures ∙ ap (option_map meant) c.in_default.is) in
    leads-first (children f) (meant c.args.start) here none c.loop-child.invariant.leads
