use Rattle.std.proofs.Common.{◌≡◌, ap, ◌∙◌, arith}
use Rattle.ir_model.specs.Arenas.{arena_len}
use Rattle.ir_core_records.specs.declared.records.Records.{Records}
use Rattle.ir_run_passes.proofs.Gone.{list_short}
use Rattle.ir_run_passes.proofs.merging.recall_lists_short.Goals as goal

pub returns : goal.returns
returns g c =
    let few = list_short c.args.ctx.now.records c.args.block.index c.recall_well_formed.ensures.nested in
    let same : c.len-most.result ≡ arena_len c.args.ctx.now.records.ops = c.len-most.ensures ∙ ap (λ (r : Records _ _ _ _ _ _ _). arena_len r.ops) c.records.ensures in
    omega (arith, few, same)
