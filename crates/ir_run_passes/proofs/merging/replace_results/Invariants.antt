use Rattle.std.proofs.Common.{◌≡◌, take}
use Rattle.ir_model_passes.specs.Merging.{redirect_each}
use Rattle.ir_core_queries.specs.State.{bare, forest_of}
use Rattle.ir_core_queries.specs.Calls.{SameButForest}
use Rattle.ir_run_passes.proofs.Replacing.{pairs}
use Rattle.ir_run_passes.proofs.merging.replace_results.Given as goal

-- so many results were replaced
abbrev pub invariant-loop-index : goal.invariant-loop-index
invariant-loop-index g l = record {
  forest : forest_of l.ctx ≡ redirect_each (forest_of l.initial.ctx) (take l.index (pairs (forest_of l.initial.ctx) l.earlier.index l.later.index));
  rest : SameButForest (bare l.initial.ctx) (bare l.ctx);
}
