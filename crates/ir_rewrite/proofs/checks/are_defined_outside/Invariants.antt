use Rattle.std.proofs.Common.{◌≡◌, ℕ, ◌<◌, Some}
use Rattle.std.specs.Prelude.{slice_get}
use Rattle.ir_core_context.specs.State.{forest_of}
use Rattle.ir_core_records.specs.Meaning.{value_of}
use Rattle.ir_rewrite.specs.Replacing.{IsOutside}
use Rattle.ir_rewrite.proofs.checks.are_defined_outside.Given as goal

-- each value before the index is defined outside
abbrev pub invariant-loop-index : goal.invariant-loop-index
invariant-loop-index g l = (k : ℕ) (v : _) → k < l.index → slice_get l.values k ≡ Some v → IsOutside (forest_of l.ctx) l.op.index (value_of v.index)
