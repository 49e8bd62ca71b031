use Rattle.std.proofs.Common.{ℕ, ◌<◌, slice_index_or}
use Rattle.ir_model.specs.Forest.{an_op}
use Rattle.ir_model.specs.Nesting.{Inside}
use Rattle.ir_core_records.specs.declared.record.UseIndex.{UseIndex}
use Rattle.ir_core_records.specs.Meaning.{entity_of, forest_in}
use Rattle.ir_core_erasing.proofs.closed.are_users_inside.Given as goal

abbrev pub invariant-loop-used : goal.invariant-loop-used
invariant-loop-used g l = (k : ℕ) → k < l.used-index → (d : UseIndex) → Inside (forest_in l.records) (entity_of l.root) (an_op (slice_index_or l.uses k d).user)
