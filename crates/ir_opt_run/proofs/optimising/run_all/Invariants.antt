use Rattle.std.proofs.Common.{drop}
use Rattle.ir_model.specs.Forest.{an_op}
use Rattle.ir_model.specs.Nesting.{IsLive}
use Rattle.ir_core_queries.specs.State.{bare, forest_of}
use Rattle.ir_core_queries.specs.Calls.{SameButForest}
use Rattle.ir_opt_run.specs.GenericBehaviour.{generic_behaviour, generic_same}
use Rattle.ir_opt_run.proofs.PassSteps.{LedSoFar}
use Rattle.ir_opt_run.proofs.optimising.run_all.Given as goal

-- whatever the passes that are left make of what stands there, all make of what stood there first
abbrev pub invariant-loop-pass : goal.invariant-loop-pass
invariant-loop-pass g l =
    LedSoFar generic_behaviour generic_same l.module.root.index l.options.passes.items (forest_of l.fn.ctx) (drop l.pass-index l.options.passes.items) (forest_of l.ctx)
    × SameButForest (bare l.fn.ctx) (bare l.ctx)
    × IsLive (forest_of l.ctx) (an_op l.module.root.index)
