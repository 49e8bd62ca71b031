use Rattle.ir_model.specs.Forest.{a_region, an_op}
use Rattle.ir_model.specs.Nesting.{Inside}
use Rattle.ir_core_queries.specs.State.{forest_of}
use Rattle.ir_run_sessions.specs.Named.{not_these}
use Rattle.ir_run_sessions.proofs.list_conditions.find_outside.Goals as goal

pub returns-then-is_inside-clause-missing : goal.returns-then-is_inside-clause-missing
returns-then-is_inside-clause-missing g c =
    let f = forest_of c.args.ctx.now in
    λ _. not_these c.in_ok-region.ensures c.in_ok-op.ensures (λ i j. Inside f (a_region i) (an_op j) → ⊥) (λ outside. outside (c.is_inside.ensures.0 c.if-is_inside.true))
