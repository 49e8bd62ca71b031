use Rattle.std.proofs.Common.{ap, ◌∙◌, List, map, length}
use Rattle.std.specs.List.{flat_map}
use Rattle.ir_core_context.specs.State.{types_of}
use Rattle.ir_core_records.specs.declared.record.Definition.{Definition}
use Rattle.ir_core_records.specs.Meaning.{use_of}
use Rattle.ir_core_queries.proofs.JoinedUses.{uses-here, uses_of_results-exact}
use Rattle.ir_core_queries.proofs.result_uses.PtrOperationResultUses.uses.Goals as goal

pub returns-clause-kept : goal.returns-clause-kept
returns-clause-kept g c =
    let at = rw c.records.ensures at c.at.ensures in
    c.of_results.ensures
    ∙ ap (λ (rs : List Definition). map use_of (flat_map (λ (r : Definition). r.uses) rs)) c.as_slice.ensures
    ∙ uses-here c.args.ctx.now (length (types_of c.args.ctx.now)) c.recall_well_formed.ensures c.recall_holds_together.ensures.linked c.recall_uses_exact.ensures.values c.args.self.index c.at.result.now at

pub returns-clause-exact : goal.returns-clause-exact
returns-clause-exact g c = uses_of_results-exact c.args.ctx.now (length (types_of c.args.ctx.now)) c.recall_well_formed.ensures c.recall_holds_together.ensures.linked c.recall_uses_exact.ensures.values c.args.self.index
