use Rattle.std.proofs.Common.{ℕ, map, take}
use Rattle.ir_core_queries.specs.State.{bare, forest_of}
use Rattle.ir_core_queries.specs.Calls.{SameButForest}
use Rattle.ir_run_unreached.proofs.InsideSteps.{Treating}
use Rattle.ir_run_unreached.proofs.inside.treat_each.Given as goal

-- the first regions were treated
abbrev pub invariant-loop-region : goal.invariant-loop-region
invariant-loop-region g l =
    ((count : ℕ) × Treating l.fn.root.index (forest_of l.initial.ctx) (map (λ p. p.index) l.regions) (take l.region-index (map (λ p. p.index) l.regions)) (forest_of l.ctx) count)
    × SameButForest (bare l.initial.ctx) (bare l.ctx)
