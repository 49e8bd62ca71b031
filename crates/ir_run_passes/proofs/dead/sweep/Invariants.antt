use Rattle.std.proofs.Common.{length, IfSome, IsNone}
use Rattle.ir_model.specs.Nesting.{In, ops_of}
use Rattle.ir_model.specs.SweepLaws.{NoneIsClosed}
use Rattle.ir_core_queries.specs.State.{bare, forest_of}
use Rattle.ir_core_queries.specs.Calls.{SameButForest}
use Rattle.ir_run_passes.specs.Going.{CanGo, Goes}
use Rattle.ir_run_passes.proofs.dead.sweep.Given as goal
use Rattle.ir_core_records.specs.DialectAnswers.{behaviour_of}

-- so many went, the next one can go, and where there is none, none can
abbrev pub invariant-loop-next : goal.invariant-loop-next
invariant-loop-next g l = record {
  goes : Goes (behaviour_of g.D.Dialects g.D.TypeKey.PartialEq.eq) l.block.index (forest_of l.initial.ctx) (forest_of l.ctx) l.swept;
  rest : SameButForest (bare l.initial.ctx) (bare l.ctx);
  placed : IfSome l.place (λ p. In p.index (ops_of (forest_of l.ctx) l.block.index));
  listed : IfSome l.next (λ p. In p.index (ops_of (forest_of l.ctx) l.block.index));
  can_go : IfSome l.next (λ p. CanGo (behaviour_of g.D.Dialects g.D.TypeKey.PartialEq.eq) (forest_of l.ctx) p.index);
  none : IsNone l.next → NoneIsClosed (behaviour_of g.D.Dialects g.D.TypeKey.PartialEq.eq) (forest_of l.ctx) l.block.index;
}

abbrev pub decreases-loop-next : goal.decreases-loop-next
decreases-loop-next g l = length (ops_of (forest_of l.ctx) l.block.index)
