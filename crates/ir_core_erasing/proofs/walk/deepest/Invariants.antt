use Rattle.std.proofs.Common.{suc, ◌-◌, Some}
use Rattle.ir_model.specs.ContextIds.{context_ids}
use Rattle.ir_model.specs.Forest.{Entity}
use Rattle.ir_model.specs.Nesting.{Inside}
use Rattle.ir_core_records.specs.Meaning.{entity_of, forest_in}
use Rattle.ir_core_nesting.specs.Climbs.{depth, size}
use Rattle.ir_core_erasing.specs.Walks.{subtree, StartsWith}
use Rattle.ir_core_erasing.proofs.walk.deepest.Given as goal

abbrev pub invariant-loop-child : goal.invariant-loop-child
invariant-loop-child g l = record {
  inside : Inside (forest_in l.records) (entity_of l.fn.start) (entity_of l.current);
  starts : (y : Entity context_ids) → StartsWith (subtree l.records (entity_of l.current)) y → StartsWith (subtree l.records (entity_of l.fn.start)) y;
}

abbrev pub decreases-loop-child : goal.decreases-loop-child
decreases-loop-child g l = suc (size l.records) - depth l.records (Some (entity_of l.current))
