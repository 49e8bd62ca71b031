use Rattle.std.proofs.Common.{sym, subst}
use Rattle.std.specs.Option.{option_map}
use Rattle.ir_model.specs.Forest.{an_op}
use Rattle.ir_core_queries.specs.State.{forest_of}
use Rattle.ir_run_passes.specs.Going.{IsBeside}
use Rattle.ir_run_passes.proofs.dead.beside.Goals as goal

pub returns-then-to_end : goal.returns-then-to_end
returns-then-to_end g c = subst (λ t. IsBeside (forest_of c.args.ctx.now) t c.args.op.index (option_map (λ p. an_op p.index) c.get_next.result)) (sym c.if-to_end.true) c.get_next.ensures.next

pub returns-else-to_end : goal.returns-else-to_end
returns-else-to_end g c = subst (λ t. IsBeside (forest_of c.args.ctx.now) t c.args.op.index (option_map (λ p. an_op p.index) c.get_prev.result)) (sym c.if-to_end.false) c.get_prev.ensures.previous
