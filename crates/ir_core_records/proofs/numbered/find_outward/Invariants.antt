use Rattle.std.proofs.Common.{◌≡◌, ℕ, ◌==◌, ◌+◌, ◌<◌, Some, position}
use Rattle.ir_core_records.proofs.numbered.find_outward.Given as goal

abbrev pub invariant-loop-away : goal.invariant-loop-away
invariant-loop-away g l = (k : ℕ) → position (λ x. g.T.Numbered.number_of x == l.number) l.items ≡ Some k → k < l.start + l.away → l.start < k + l.away → ⊥
