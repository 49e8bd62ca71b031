use Rattle.std.specs.Option.{option_map}
use Rattle.ir_core_records.specs.Meaning.{entity_of, forest_in}
use Rattle.ir_core_erasing.specs.Walks.{subtree}
use Rattle.ir_core_erasing.proofs.ClosedListings.{AllClosed}
use Rattle.ir_core_erasing.proofs.Steps.{Passing, remaining}
use Rattle.ir_core_erasing.proofs.closed.can_erase.Given as goal

abbrev pub invariant-loop-current : goal.invariant-loop-current
invariant-loop-current g l = Passing (subtree l.records (entity_of l.entity)) (AllClosed (forest_in l.records) (entity_of l.entity)) (option_map entity_of l.current)

abbrev pub decreases-loop-current : goal.decreases-loop-current
decreases-loop-current g l = remaining (subtree l.records (entity_of l.entity)) (option_map entity_of l.current)
