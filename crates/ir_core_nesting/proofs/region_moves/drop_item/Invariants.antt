use Rattle.std.proofs.Common.{◌≡◌, ◌≤◌, ℕ, Some, length, slice_get}
use Rattle.ir_core_nesting.proofs.region_moves.drop_item.Given as goal

-- the item does not stand behind `at`
abbrev pub invariant-loop-at : goal.invariant-loop-at
invariant-loop-at l = record {
  same : l.items ≡ l.initial.items;
  within : l.at ≤ length l.items;
  passed : (k : ℕ) → l.at ≤ k → slice_get l.items k ≡ Some l.item → ⊥;
}

abbrev pub decreases-loop-at : goal.decreases-loop-at
decreases-loop-at l = l.at
