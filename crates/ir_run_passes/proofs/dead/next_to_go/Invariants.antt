use Rattle.std.proofs.Common.{IfSome}
use Rattle.std.specs.Option.{option_map}
use Rattle.ir_model.specs.Nesting.{In, ops_of}
use Rattle.ir_core_queries.specs.State.{forest_of}
use Rattle.ir_run_passes.specs.Going.{rank}
use Rattle.ir_run_passes.proofs.BlockWalks.{Walking}
use Rattle.ir_run_passes.proofs.dead.next_to_go.Given as goal
use Rattle.ir_core_records.specs.DialectAnswers.{behaviour_of}

-- the place is one of the block's, and none on the way from the start to it can go
abbrev pub invariant-loop-place : goal.invariant-loop-place
invariant-loop-place g l = record {
  listed : IfSome l.place (λ p. In p.index (ops_of (forest_of l.ctx) l.fn.block.index));
  passed : Walking (behaviour_of g.D.Dialects g.D.TypeKey.PartialEq.eq) (forest_of l.ctx) l.fn.block.index l.fn.to_end (option_map (λ p. p.index) l.initial.place) (option_map (λ p. p.index) l.place);
}

abbrev pub decreases-loop-place : goal.decreases-loop-place
decreases-loop-place g l = rank l.fn.to_end (option_map (λ p. p.index) l.place) (ops_of (forest_of l.ctx) l.fn.block.index)
