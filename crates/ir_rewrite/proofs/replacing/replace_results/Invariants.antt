use Rattle.std.proofs.Common.{◌≡◌, take}
use Rattle.ir_model_passes.specs.Merging.{redirect_each}
use Rattle.ir_core_context.specs.Calls.{KeepsAll, SameButForest}
use Rattle.ir_core_context.specs.State.{bare, forest_of}
use Rattle.ir_rewrite.specs.Replacing.{results_beside}
use Rattle.ir_rewrite.proofs.replacing.replace_results.Given as goal

-- the first results are replaced
abbrev pub invariant-loop-index : goal.invariant-loop-index
invariant-loop-index g l = record {
  forest : forest_of l.ctx ≡ redirect_each (forest_of l.initial.ctx) (take l.index (results_beside (forest_of l.initial.ctx) l.op.index l.values));
  rest : SameButForest (bare l.initial.ctx) (bare l.ctx);
  keeps : KeepsAll l.initial.ctx l.ctx;
}
