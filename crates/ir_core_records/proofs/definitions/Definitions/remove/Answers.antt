use Rattle.std.proofs.Common.{sym, subst}
use Rattle.ir_core_records.specs.Lists.{HaveDistinctNumbers}
use Rattle.ir_core_records.specs.DefinitionEdits.{distinct-remove}
use Rattle.ir_core_records.proofs.definitions.Definitions.remove.Goals as goal

pub invariant_of-self : goal.invariant_of-self
invariant_of-self c = subst HaveDistinctNumbers (sym c.remove.ensures.items) (distinct-remove c.self.inside.items c.args.index c.self.invariant)
