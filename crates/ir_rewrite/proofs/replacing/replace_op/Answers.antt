use Rattle.std.proofs.Common.{sym, subst}
use Rattle.ir_model.specs.Forest.{an_op}
use Rattle.ir_model.specs.Nesting.{IsClosed}
use Rattle.ir_core_context.specs.State.{forest_of}
use Rattle.ir_rewrite.proofs.Replaceable.{closes}
use Rattle.ir_rewrite.proofs.replacing.replace_op.Goals as goal

pub erase-requires-clause-live : goal.erase-requires-clause-live
erase-requires-clause-live g c = c.replace_results.ensures.keeps.entities_stay_live (an_op c.args.op.index) c.requires.live

pub erase-requires-clause-closed : goal.erase-requires-clause-closed
erase-requires-clause-closed g c =
    subst (λ z. IsClosed z (an_op c.args.op.index)) (sym c.in_ok-replace_results.ensures.forest)
    (closes (forest_of c.args.ctx.now) c.args.op.index c.args.values.now _ c.recall_well_formed.ensures c.requires)
