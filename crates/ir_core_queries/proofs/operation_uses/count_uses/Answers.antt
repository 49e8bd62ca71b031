use Rattle.std.proofs.Common.{arith, length, ap}
use Rattle.std.proofs.lemmas.List.Folds.{length-flat_map-take}
use Rattle.ir_core_records.specs.declared.record.Definition.{Definition}
use Rattle.ir_core_queries.proofs.operation_uses.count_uses.Goals as goal

pub overflow_add-count : goal.overflow_add-count
overflow_add-count c =
    let fits = length-flat_map-take (λ (r : Definition). r.uses) c.args.results.now c.loop-result.result-index c.result-item.result c.loop-result-test.true in
    let here = ap (λ (r : Definition). length r.uses) c.result-item.is in
    omega (arith, fits, here)
