use Rattle.std.proofs.Common.{◌≡◌, ℕ, ◌<◌, Some}
use Rattle.std.specs.Prelude.{slice_get}
use Rattle.ir_model.specs.declared.ids.ArenaIndex.{ArenaIndex}
use Rattle.ir_model.specs.Forest.{a_region}
use Rattle.ir_model.specs.Nesting.{IsClosed, regions_of}
use Rattle.ir_core_context.specs.State.{forest_of}
use Rattle.ir_rewrite.proofs.checks.are_regions_closed.Given as goal

-- each region before the index is closed
abbrev pub invariant-loop-index : goal.invariant-loop-index
invariant-loop-index g l = (k : ℕ) (r : ArenaIndex) → k < l.index → slice_get (regions_of (forest_of l.ctx) l.fn.op.index) k ≡ Some r → IsClosed (forest_of l.ctx) (a_region r)
