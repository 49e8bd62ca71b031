use Rattle.std.proofs.Common.{◌≡◌, ℕ, Bool, Some, length, slice_get}
use Rattle.ir_core_records.specs.declared.record.UseIndex.{UseIndex}
use Rattle.ir_core_records.specs.Meaning.{use_of}
use Rattle.ir_core_context.specs.Asked.{MaySay}
use Rattle.ir_core_context.proofs.asking.answers.Given as goal

-- there is one answer for each use so far, which may be given for it
abbrev pub invariant-loop-index : goal.invariant-loop-index
invariant-loop-index g l =
    (length l.answers.items ≡ l.index-index)
    × ((k : ℕ) (u : UseIndex) (answer : Bool) → slice_get l.kept k ≡ Some u → slice_get l.answers.items k ≡ Some answer
    → MaySay g.P.Fn (λ c. g.C.Shown.shows c l.ctx) (λ h w. use_of h.index ≡ w) l.pred (use_of u) answer)
