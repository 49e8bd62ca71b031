-- Faults and their places.
use Rattle.std.specs.Prelude.{ℕ, ◌≤◌, List, length, Option, Some, None, IfSome}
use Rattle.ir_text_tokens.specs.declared.fault.Fault.{Fault}
use Rattle.ir_text_tokens.specs.declared.fault.Fault.TheVariants as faults
use Rattle.ir_text_tokens.specs.declared.fault.Problem.{Problem}
use Rattle.ir_text_tokens.specs.declared.fault.Problem.TheVariants as problems

-- the fault of a problem at a place
abbrev pub fault : Problem → ℕ → Fault
fault problems.Character at = faults.Character at
fault problems.Escape at = faults.Escape at
fault problems.OpenString at = faults.OpenString at
fault problems.OpenGroup at = faults.OpenGroup at
fault problems.Bracket at = faults.Bracket at

-- the place of a fault, where it has one
abbrev pub fault_place : Fault → Option ℕ
fault_place faults.OutOfMemory = None
fault_place faults.TooLong = None
fault_place (faults.Character at) = Some at
fault_place (faults.Escape at) = Some at
fault_place (faults.OpenString at) = Some at
fault_place (faults.OpenGroup at) = Some at
fault_place (faults.Bracket at) = Some at

-- reading stopped in the text or at its end
abbrev pub StopsWithin : List ℕ → Fault → Type 0
StopsWithin text e = IfSome (fault_place e) (λ at. at ≤ length text)
