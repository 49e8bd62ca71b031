use Rattle.std.proofs.Common.{◌≡◌, length}
use Rattle.std.specs.List.{filter_map}
use Rattle.ir_view.specs.Operations.{op_of}
use Rattle.ir_view.proofs.operations.OpsInsideIterator.next.Given as goal

abbrev pub invariant-loop-entity : goal.invariant-loop-entity
invariant-loop-entity g l = filter_map op_of l.self-inside.entities ≡ l.fn.self

abbrev pub decreases-loop-entity : goal.decreases-loop-entity
decreases-loop-entity g l = length l.self-inside.entities
