use Rattle.std.proofs.Common.{map}
use Rattle.ir_base_dialects.specs.Attributes.{same_pairs}
use Rattle.ir_core_queries.specs.State.{bare, forest_of}
use Rattle.ir_core_queries.specs.Calls.{SameButForest}
use Rattle.ir_core_records.specs.DialectAnswers.{behaviour_of}
use Rattle.ir_run_passes.proofs.EachBlock.{EachSoFar}
use Rattle.ir_run_passes.proofs.merging_inside.merge_common_inside.Given as goal

-- the blocks so far were merged
abbrev pub invariant-loop-block : goal.invariant-loop-block
invariant-loop-block g l = record {
  each : EachSoFar (behaviour_of g.D.Dialects g.D.TypeKey.PartialEq.eq) (same_pairs g.D.Attr.PartialEq.eq) (forest_of l.initial.ctx) l.fn.root.index (map (λ p. p.index) l.block-items) l.block-index (forest_of l.ctx);
  rest : SameButForest (bare l.initial.ctx) (bare l.ctx);
}
