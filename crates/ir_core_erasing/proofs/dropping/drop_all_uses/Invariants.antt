use Rattle.std.specs.Option.{option_map}
use Rattle.ir_core_records.specs.Meaning.{entity_of}
use Rattle.ir_core_erasing.specs.Walks.{subtree}
use Rattle.ir_core_erasing.proofs.Dropped.{Dropping}
use Rattle.ir_core_erasing.proofs.Steps.{remaining}
use Rattle.ir_core_erasing.proofs.dropping.drop_all_uses.Given as goal

abbrev pub invariant-loop-current : goal.invariant-loop-current
invariant-loop-current g l = Dropping l.initial.records l.records (entity_of l.entity) (option_map entity_of l.current)

abbrev pub decreases-loop-current : goal.decreases-loop-current
decreases-loop-current g l = remaining (subtree l.initial.records (entity_of l.entity)) (option_map entity_of l.current)
