use Rattle.std.proofs.Common.{◌↔◌}
use Rattle.std.specs.Option.{option_map}
use Rattle.ir_model.specs.Nesting.{Inside}
use Rattle.ir_core_records.specs.Meaning.{entity_of, forest_in}
use Rattle.ir_core_nesting.specs.Climbs.{Reaches, depth}
use Rattle.ir_core_erasing.proofs.closed.climbs_into.Given as goal

abbrev pub invariant-loop-current : goal.invariant-loop-current
invariant-loop-current g l = Inside (forest_in l.records) (entity_of l.root) (entity_of l.fn.inner) ↔ Reaches (forest_in l.records) (entity_of l.root) (option_map entity_of l.current)

abbrev pub decreases-loop-current : goal.decreases-loop-current
decreases-loop-current g l = depth l.records (option_map entity_of l.current)
