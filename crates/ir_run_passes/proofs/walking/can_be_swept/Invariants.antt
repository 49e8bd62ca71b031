use Rattle.std.specs.Iterator.Adapters.{rev_source}
use Rattle.ir_core_queries.specs.State.{forest_of}
use Rattle.ir_core_records.specs.DialectAnswers.{behaviour_of}
use Rattle.ir_run_passes.proofs.Walks.{Looking}
use Rattle.ir_run_passes.proofs.walking.can_be_swept.Given as goal

-- all that can go is ahead
abbrev pub invariant-loop-op : goal.invariant-loop-op
invariant-loop-op g l =
    (goal.iterator-loop-op g).can_next l.op-iterator
    × (goal.iterator-loop-op g).is_finite l.op-iterator
    × Looking (behaviour_of g.D.Dialects g.D.TypeKey.PartialEq.eq) (forest_of l.ctx) l.fn.block.index (rev_source l.op-iterator)
