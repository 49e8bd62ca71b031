use Rattle.std.specs.Option.{option_map}
use Rattle.ir_core_records.specs.Meaning.{entity_of}
use Rattle.ir_core_erasing.specs.Erasing.{population}
use Rattle.ir_core_erasing.proofs.Teardown.{Tears}
use Rattle.ir_core_erasing.proofs.erasing.tear_down.Given as goal

abbrev pub invariant-loop-current : goal.invariant-loop-current
invariant-loop-current g l = Tears l.initial.records l.records (entity_of l.root) (option_map entity_of l.current)

abbrev pub decreases-loop-current : goal.decreases-loop-current
decreases-loop-current g l = population l.records
