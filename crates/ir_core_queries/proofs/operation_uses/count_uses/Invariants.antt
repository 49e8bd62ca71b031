use Rattle.std.proofs.Common.{◌≡◌, length, take}
use Rattle.std.specs.List.{flat_map}
use Rattle.ir_core_records.specs.declared.record.Definition.{Definition}
use Rattle.ir_core_queries.proofs.operation_uses.count_uses.Given as goal

abbrev pub invariant-loop-result : goal.invariant-loop-result
invariant-loop-result l = l.count ≡ length (flat_map (λ (r : Definition). r.uses) (take l.result-index l.results))
