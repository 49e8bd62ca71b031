use Rattle.std.proofs.Common.{ap, ◌∙◌, length, List, arith}
use Rattle.std.specs.List.{flat_map}
use Rattle.ir_core_context.specs.State.{types_of}
use Rattle.ir_core_records.specs.declared.record.Definition.{Definition}
use Rattle.ir_core_queries.proofs.JoinedUses.{count-here, few-here, uses_of_results-exact}
use Rattle.ir_core_queries.proofs.result_uses.PtrOperationResultUses.num_uses.Goals as goal

pub count_uses-requires : goal.count_uses-requires
count_uses-requires g c =
    let at = rw c.records.ensures at c.at.ensures in
    let fit = c.recall_use_numbers_fit.ensures in
    let few = few-here c.args.ctx.now (length (types_of c.args.ctx.now)) c.recall_well_formed.ensures c.recall_holds_together.ensures.linked c.recall_uses_exact.ensures.values c.args.self.index c.at.result.now at c.recall_live_was_made.ensures fit.0 fit.1 in
    let same = ap (λ (rs : List Definition). length (flat_map (λ (r : Definition). r.uses) rs)) c.as_slice.ensures in
    omega (arith, few, same, fit.2)

pub returns-clause-count : goal.returns-clause-count
returns-clause-count g c =
    let at = rw c.records.ensures at c.at.ensures in
    c.count_uses.ensures
    ∙ ap (λ (rs : List Definition). length (flat_map (λ (r : Definition). r.uses) rs)) c.as_slice.ensures
    ∙ count-here c.args.ctx.now (length (types_of c.args.ctx.now)) c.recall_well_formed.ensures c.recall_holds_together.ensures.linked c.recall_uses_exact.ensures.values c.args.self.index c.at.result.now at

pub returns-clause-exact : goal.returns-clause-exact
returns-clause-exact g c = uses_of_results-exact c.args.ctx.now (length (types_of c.args.ctx.now)) c.recall_well_formed.ensures c.recall_holds_together.ensures.linked c.recall_uses_exact.ensures.values c.args.self.index
