use Rattle.std.proofs.Common.{◌↔◌, map, sym, subst}
use Rattle.ir_model.specs.declared.ids.ArenaIndex.{ArenaIndex}
use Rattle.ir_model.specs.Forest.{a_region, an_op}
use Rattle.ir_model.specs.Nesting.{In, Inside}
use Rattle.ir_core_queries.specs.State.{forest_of}
use Rattle.ir_run_unreached.specs.Inside.{none_inside}
use Rattle.ir_run_unreached.proofs.Rest.{holds_on_err}
use Rattle.ir_run_unreached.proofs.inside.remove_unreached_inside.Goals as goal

pub returns-in_err-regions-clause-partly : goal.returns-in_err-regions-clause-partly
returns-in_err-regions-clause-partly g c = holds_on_err c.from_residual.result (0, none_inside)

pub treat_each-requires-clause-listed : goal.treat_each-requires-clause-listed
treat_each-requires-clause-listed g c =
    subst (λ xs. (r : ArenaIndex) → In r (map (λ p. p.index) xs) ↔ Inside (forest_of c.args.ctx.now) (an_op c.args.root.index) (a_region r)) (sym c.as_slice.ensures.value) c.in_ok-regions.ensures.listed
