use Rattle.std.proofs.Common.{◌≡◌, ◌+◌, take}
use Rattle.ir_core_records.specs.Lists.{definitions_from}
use Rattle.ir_core_records.proofs.definitions.new_definitions.Given as goal

abbrev pub invariant-loop-ty : goal.invariant-loop-ty
invariant-loop-ty l = record { number : l.number ≡ l.first + l.ty-index; definitions : l.definitions.items ≡ definitions_from l.first (take l.ty-index l.types) }
