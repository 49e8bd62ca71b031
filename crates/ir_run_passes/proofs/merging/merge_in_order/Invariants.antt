use Rattle.std.specs.Option.{option_map}
use Rattle.ir_model.specs.Nesting.{ops_of}
use Rattle.ir_base_dialects.specs.Attributes.{dict_input, same_pairs}
use Rattle.ir_core_queries.specs.State.{bare, forest_of}
use Rattle.ir_core_queries.specs.Calls.{SameButForest}
use Rattle.ir_core_records.specs.DialectAnswers.{behaviour_of}
use Rattle.ir_run_passes.specs.AlikeHash.{hash_in}
use Rattle.ir_run_passes.proofs.KeptWalk.{KeptWalk, left_from}
use Rattle.ir_run_passes.proofs.merging.merge_in_order.Given as goal

-- the walk came to the place, and so many were merged
abbrev pub invariant-loop-place : goal.invariant-loop-place
invariant-loop-place g l = record {
  walk : KeptWalk (behaviour_of g.D.Dialects g.D.TypeKey.PartialEq.eq) (same_pairs g.D.Attr.PartialEq.eq) (hash_in (dict_input g.D.Attr.Hash.hash_input)) l.fn.block.index (forest_of l.initial.ctx) (forest_of l.ctx) l.kept (option_map (λ p. p.index) l.place) l.merged;
  rest : SameButForest (bare l.initial.ctx) (bare l.ctx);
}

abbrev pub decreases-loop-place : goal.decreases-loop-place
decreases-loop-place g l = left_from (option_map (λ p. p.index) l.place) (ops_of (forest_of l.ctx) l.fn.block.index)
