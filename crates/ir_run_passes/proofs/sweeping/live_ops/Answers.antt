use Rattle.std.proofs.Common.{ap, ◌∙◌}
use Rattle.ir_model.specs.Arenas.{arena_len}
use Rattle.ir_core_records.specs.declared.records.Records.{Records}
use Rattle.ir_run_passes.proofs.sweeping.live_ops.Goals as goal

pub returns : goal.returns
returns g c = c.len.ensures ∙ ap (λ (r : Records _ _ _ _ _ _ _). arena_len r.ops) c.records.ensures
