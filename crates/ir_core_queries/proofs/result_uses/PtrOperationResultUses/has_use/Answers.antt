use Rattle.std.proofs.Common.{ap, ◌∙◌, length, not, ◌==◌}
use Rattle.std.specs.List.{list_any}
use Rattle.ir_core_context.specs.State.{types_of}
use Rattle.ir_core_records.specs.declared.record.Definition.{Definition}
use Rattle.ir_core_queries.proofs.JoinedUses.{has-here}
use Rattle.ir_core_queries.proofs.result_uses.PtrOperationResultUses.has_use.Goals as goal

pub returns : goal.returns
returns g c =
    let at = rw c.records.ensures at c.at.ensures in
    has-here c.args.ctx.now (length (types_of c.args.ctx.now)) c.recall_well_formed.ensures c.recall_holds_together.ensures.linked c.recall_uses_exact.ensures.values c.args.self.index c.at.result.now at
    c.has_any_use.result (c.has_any_use.ensures ∙ ap (list_any (λ (r : Definition). not (length r.uses == 0))) c.as_slice.ensures)
