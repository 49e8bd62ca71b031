use Rattle.std.proofs.Common.{ℕ, ◌<◌, slice_index_or}
use Rattle.ir_core_records.specs.declared.record.UseIndex.{UseIndex}
use Rattle.ir_core_queries.specs.State.{forest_of}
use Rattle.ir_run_unreached.specs.Kept.{StandsInMarked}
use Rattle.ir_run_unreached.proofs.condition.are_users_marked.Given as goal

-- the users of the first uses stand in marked blocks
abbrev pub invariant-loop-used : goal.invariant-loop-used
invariant-loop-used g l = (k : ℕ) → k < l.used-index → (d : UseIndex) → StandsInMarked (forest_of l.ctx) l.marked (slice_index_or l.uses k d).user
