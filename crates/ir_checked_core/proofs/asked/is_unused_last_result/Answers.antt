use Rattle.std.proofs.Common.{◌≡◌, ℕ, subst, true}
use Rattle.std.specs.Prelude.{◌↔◌, ◌-◌}
use Rattle.ir_model.specs.Forest.{of_op}
use Rattle.ir_core_context.specs.Definitions.{UnusedAt}
use Rattle.ir_core_context.specs.State.{forest_of}
use Rattle.ir_checked_core.proofs.asked.is_unused_last_result.Goals as goal

pub returns : goal.returns
returns g c = subst (λ (n : ℕ). (c.is_unused_result.result ≡ true) ↔ UnusedAt (forest_of c.args.ctx.now) (of_op c.args.op.index) (n - 1)) c.num_results-count.ensures c.is_unused_result.ensures
