use Rattle.std.proofs.Common.{IfSome}
use Rattle.std.specs.Option.{option_map}
use Rattle.ir_model.specs.Forest.{an_op}
use Rattle.ir_model.specs.Nesting.{Inside}
use Rattle.ir_core_erasing.specs.Walks.{subtree}
use Rattle.ir_core_erasing.proofs.Steps.{remaining}
use Rattle.ir_core_queries.specs.State.{forest_of}
use Rattle.ir_core_records.specs.DialectAnswers.{behaviour_of}
use Rattle.ir_core_records.specs.Meaning.{entity_of}
use Rattle.ir_run_passes.proofs.Walks.{Walked}
use Rattle.ir_run_passes.proofs.walking.to_sweep_from.Given as goal

-- the place is inside the root, and of no block from the start to it can something go
abbrev pub invariant-loop-place : goal.invariant-loop-place
invariant-loop-place g l = record {
  within : IfSome l.place (λ e. Inside (forest_of l.ctx) (an_op l.root.index) (entity_of e));
  walked : Walked (forest_of l.ctx) (subtree l.ctx.records (an_op l.root.index)) (behaviour_of g.D.Dialects g.D.TypeKey.PartialEq.eq) (option_map entity_of l.initial.place) (option_map entity_of l.place);
}

abbrev pub decreases-loop-place : goal.decreases-loop-place
decreases-loop-place g l = remaining (subtree l.ctx.records (an_op l.root.index)) (option_map entity_of l.place)
