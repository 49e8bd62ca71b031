use Rattle.std.proofs.Common.{◌≡◌, ℕ, subst, true}
use Rattle.std.specs.Prelude.{◌↔◌, ◌-◌}
use Rattle.ir_model.specs.Forest.{of_block}
use Rattle.ir_core_context.specs.Definitions.{UnusedAt}
use Rattle.ir_core_context.specs.State.{forest_of}
use Rattle.ir_checked_core.proofs.asked.is_unused_last_argument.Goals as goal

pub returns : goal.returns
returns g c = subst (λ (n : ℕ). (c.is_unused_argument.result ≡ true) ↔ UnusedAt (forest_of c.args.ctx.now) (of_block c.args.block.index) (n - 1)) c.num_arguments-count.ensures c.is_unused_argument.ensures
