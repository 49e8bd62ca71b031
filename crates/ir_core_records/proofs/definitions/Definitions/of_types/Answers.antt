use Rattle.ir_core_records.proofs.DefinitionLists.{distinct-from}
use Rattle.ir_core_records.proofs.definitions.Definitions.of_types.Goals as goal

pub invariant_of-result : goal.invariant_of-result
invariant_of-result c = rw c.in_ok-items.ensures (distinct-from c.args.first c.args.types.now)
