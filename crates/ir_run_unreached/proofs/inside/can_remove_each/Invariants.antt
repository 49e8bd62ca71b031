use Rattle.std.proofs.Common.{map, take}
use Rattle.ir_model.specs.declared.ids.ArenaIndex.{ArenaIndex}
use Rattle.ir_model.specs.Nesting.{In}
use Rattle.ir_model_passes.specs.Unreached.{NamesStayInside}
use Rattle.ir_core_queries.specs.State.{forest_of}
use Rattle.ir_run_unreached.proofs.inside.can_remove_each.Given as goal

-- the first regions were asked
abbrev pub invariant-loop-region : goal.invariant-loop-region
invariant-loop-region g l = (r : ArenaIndex) → In r (take l.region-index (map (λ p. p.index) l.regions)) → NamesStayInside (forest_of l.ctx) r
