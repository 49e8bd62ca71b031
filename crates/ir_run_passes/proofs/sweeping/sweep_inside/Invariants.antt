use Rattle.std.proofs.Common.{IfSome, IsNone}
use Rattle.ir_model.specs.Forest.{an_op, a_block}
use Rattle.ir_model.specs.Nesting.{Inside, IsLive}
use Rattle.ir_model.specs.Arenas.{arena_len}
use Rattle.ir_model_passes.specs.SweepInside.{NoneIsClosedInside, SweepsBlocks}
use Rattle.ir_core_queries.specs.State.{bare, forest_of}
use Rattle.ir_core_queries.specs.Calls.{SameButForest}
use Rattle.ir_core_records.specs.DialectAnswers.{behaviour_of}
use Rattle.ir_run_passes.specs.Walks.{CanBeSwept}
use Rattle.ir_run_passes.proofs.sweeping.sweep_inside.Given as goal

-- some blocks were swept, the next one stands inside the root, and where there is none, nothing can go
abbrev pub invariant-loop-next : goal.invariant-loop-next
invariant-loop-next g l = record {
  swept : SweepsBlocks (behaviour_of g.D.Dialects g.D.TypeKey.PartialEq.eq) (an_op l.root.index) (forest_of l.initial.ctx) (forest_of l.ctx);
  rest : SameButForest (bare l.initial.ctx) (bare l.ctx);
  live : IsLive (forest_of l.ctx) (an_op l.root.index);
  inside : IfSome l.next (λ b. Inside (forest_of l.ctx) (an_op l.root.index) (a_block b.index));
  dirty : IfSome l.next (λ b. CanBeSwept (behaviour_of g.D.Dialects g.D.TypeKey.PartialEq.eq) (forest_of l.ctx) b.index);
  none : IsNone l.next → NoneIsClosedInside (behaviour_of g.D.Dialects g.D.TypeKey.PartialEq.eq) (an_op l.root.index) (forest_of l.ctx);
}

abbrev pub decreases-loop-next : goal.decreases-loop-next
decreases-loop-next g l = arena_len l.ctx.records.ops
