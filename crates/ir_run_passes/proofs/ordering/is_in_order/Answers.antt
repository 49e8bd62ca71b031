use Rattle.std.proofs.Common.{refl}
use Rattle.ir_core_queries.specs.State.{forest_of}
use Rattle.ir_run_passes.proofs.Rising.{rising_in_order}
use Rattle.ir_run_passes.proofs.ordering.is_in_order.Goals as goal

pub returns-then-rises_in_order-clause-order : goal.returns-then-rises_in_order-clause-order
returns-then-rises_in_order-clause-order g c =
    (λ t. rising_in_order (forest_of c.args.ctx.now) c.args.block.index (c.rises_in_order.ensures.0 c.if-rises_in_order.true), λ order. refl)
