use Rattle.std.proofs.Common.{◌≡◌, ◌⊎◌, All, map, vec_len}
use Rattle.ir_model.specs.declared.ids.ArenaIndex.{ArenaIndex}
use Rattle.ir_model.specs.Nesting.{In}
use Rattle.ir_core_context.specs.State.{forest_of}
use Rattle.ir_rewrite.specs.Driving.{Stands}
use Rattle.ir_rewrite.proofs.asking.ask_each.Given as goal

-- nothing has changed, and of each operation that was taken from the list each pattern said no, if it stands inside the root
abbrev pub invariant-loop-op : goal.invariant-loop-op
invariant-loop-op g l = record {
  same : l.ctx ≡ l.initial.ctx;
  declined : (o : ArenaIndex) → In o (map (λ p. p.index) l.initial.todo.items) → In o (map (λ p. p.index) l.todo.items) ⊎ (Stands (forest_of l.initial.ctx) l.root.index o → All (λ p. g.P.Pattern.declines p l.initial.ctx o) l.patterns);
}

abbrev pub decreases-loop-op : goal.decreases-loop-op
decreases-loop-op g l = vec_len l.todo
