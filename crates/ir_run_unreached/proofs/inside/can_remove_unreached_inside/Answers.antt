use Rattle.std.proofs.Common.{All, map, sym, subst}
use Rattle.ir_model.specs.Forest.{a_region, an_op}
use Rattle.ir_model.specs.Nesting.{In, IsLive}
use Rattle.ir_core_queries.specs.State.{forest_of}
use Rattle.ir_run_unreached.proofs.Slices.{inside_live, seen_each}
use Rattle.ir_run_unreached.proofs.inside.can_remove_unreached_inside.Goals as goal

pub can_remove_each-requires : goal.can_remove_each-requires
can_remove_each-requires g c =
    let f = forest_of c.args.ctx.now in
    subst (λ xs. All (λ p. IsLive f (a_region p.index)) xs) (sym c.as_slice.ensures.value)
    (seen_each c.in_ok-regions.regions.items (λ p. p.index) (λ r. IsLive f (a_region r)) (λ r h. inside_live f c.recall_well_formed.ensures.nested (an_op c.args.root.index) (a_region r) c.requires ((c.in_ok-regions.ensures.listed r).0 h)))

pub returns-clause-exact : goal.returns-clause-exact
returns-clause-exact g c =
    let same = c.as_slice.ensures.value in (
      λ e r i. c.in_ok-can.ensures.exact.0 e r (subst (λ xs. In r (map (λ p. p.index) xs)) (sym same) ((c.in_ok-regions.ensures.listed r).1 i)),
      λ names. c.in_ok-can.ensures.exact.1 (λ r h. names r ((c.in_ok-regions.ensures.listed r).0 (subst (λ xs. In r (map (λ p. p.index) xs)) same h))),
    )
