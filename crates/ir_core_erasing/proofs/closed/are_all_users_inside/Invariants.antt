use Rattle.std.proofs.Common.{ℕ, ◌<◌, All, slice_index_or}
use Rattle.ir_model.specs.Forest.{an_op}
use Rattle.ir_model.specs.Nesting.{Inside}
use Rattle.ir_core_records.specs.declared.record.Definition.{Definition}
use Rattle.ir_core_records.specs.declared.record.UseIndex.{UseIndex}
use Rattle.ir_core_records.specs.Meaning.{entity_of, forest_in}
use Rattle.ir_core_erasing.proofs.closed.are_all_users_inside.Given as goal

abbrev pub invariant-loop-definition : goal.invariant-loop-definition
invariant-loop-definition g l = (k : ℕ) → k < l.definition-index → (d : Definition) → All (λ (u : UseIndex). Inside (forest_in l.records) (entity_of l.root) (an_op u.user)) (slice_index_or l.definitions k d).uses
