use Rattle.std.proofs.Common.{◌≡◌, ℕ, ◌+◌, ◌*◌, ◌-◌, ◌≤◌, cond, true, map}
use Rattle.ir_model.specs.declared.ids.ArenaIndex.{ArenaIndex}
use Rattle.ir_model.specs.Forest.{an_op}
use Rattle.ir_model.specs.Nesting.{In, Inside, IsLive}
use Rattle.ir_core_context.specs.State.{forest_of}
use Rattle.ir_rewrite.specs.Driving.{Rewrites}
use Rattle.ir_rewrite.proofs.driver.rewrite.Given as goal

-- so many changes were made, and where nothing was changed in the round, the list has all that it doesn't know to decline
abbrev pub invariant-loop-steps : goal.invariant-loop-steps
invariant-loop-steps g l = record {
  live : IsLive (forest_of l.ctx) (an_op l.root.index);
  steps : Rewrites forest_of g.P.Pattern.changes l.root.index l.patterns l.initial.ctx l.ctx l.steps;
  within : l.steps ≤ l.limit;
  all : l.unchanged ≡ true → (o : ArenaIndex) → Inside (forest_of l.ctx) (an_op l.root.index) (an_op o) → In o (map (λ p. p.index) l.todo.items);
}

abbrev pub decreases-loop-steps : goal.decreases-loop-steps
decreases-loop-steps g l = 2 * (l.limit - l.steps) + cond l.unchanged 0 1
