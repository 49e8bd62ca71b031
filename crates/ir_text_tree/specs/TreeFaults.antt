-- Faults and their places.
use Rattle.std.specs.Prelude.{ℕ, Option, Some, None}
use Rattle.ir_text_tree.specs.declared.fault.Fault.{Fault}
use Rattle.ir_text_tree.specs.declared.fault.Fault.TheVariants as faults

-- the place of a fault, where it has one
abbrev pub fault_place : Fault → Option ℕ
fault_place faults.OutOfMemory = None
fault_place (faults.Expected w at) = Some at
