use Rattle.std.proofs.Common.{◌≡◌, ℕ, Bool, Some, length, slice_get}
use Rattle.ir_model.specs.Nesting.{In, ops_of}
use Rattle.ir_core_records.specs.declared.record.UseIndex.{UseIndex}
use Rattle.ir_core_records.specs.Meaning.{use_of}
use Rattle.ir_core_context.specs.Asked.{MaySay}
use Rattle.ir_core_context.specs.State.{forest_of}
use Rattle.ir_core_context.proofs.asking.answers_for_blocks.Given as goal

-- there is one answer for each use so far, which may be given for the block of its user
abbrev pub invariant-loop-index : goal.invariant-loop-index
invariant-loop-index g l =
    (length l.answers.items ≡ l.index-index)
    × ((k : ℕ) (u : UseIndex) (answer : Bool) → slice_get l.kept k ≡ Some u → slice_get l.answers.items k ≡ Some answer
    → MaySay g.P.Fn (λ c. g.C.Shown.shows c l.ctx) (λ b w. In w.user (ops_of (forest_of l.ctx) (g.B.ShownBlock.index_of b))) l.pred (use_of u) answer)
