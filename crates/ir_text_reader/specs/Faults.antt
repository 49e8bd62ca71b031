-- Faults of a text, and their places.
use Rattle.std.specs.Prelude.{ℕ, ◌≤◌, List, length, Option, Some, None, IfSome}
use Rattle.ir_text_tokens.specs.declared.fault.Fault.{Fault as TokenFault}
use Rattle.ir_text_tokens.specs.declared.fault.Fault.TheVariants as tokens
use Rattle.ir_text_tree.specs.declared.fault.Fault.{Fault as TreeFault}
use Rattle.ir_text_tree.specs.declared.fault.Fault.TheVariants as tree
use Rattle.ir_text_reader.specs.declared.fault.Fault.{Fault}
use Rattle.ir_text_reader.specs.declared.fault.Fault.TheVariants as faults

-- a fault of tokens
abbrev pub of_tokens : TokenFault → Fault
of_tokens tokens.OutOfMemory = faults.OutOfMemory
of_tokens tokens.TooLong = faults.TooLong
of_tokens (tokens.Character at) = faults.Character at
of_tokens (tokens.Escape at) = faults.Escape at
of_tokens (tokens.OpenString at) = faults.OpenString at
of_tokens (tokens.OpenGroup at) = faults.OpenGroup at
of_tokens (tokens.Bracket at) = faults.Bracket at

-- a fault of the tree
abbrev pub of_tree : TreeFault → Fault
of_tree tree.OutOfMemory = faults.OutOfMemory
of_tree (tree.Expected w at) = faults.Expected w at

-- the place of a fault, where it has one
abbrev pub fault_place : Fault → Option ℕ
fault_place faults.OutOfMemory = None
fault_place faults.TooLong = None
fault_place (faults.Character at) = Some at
fault_place (faults.Escape at) = Some at
fault_place (faults.OpenString at) = Some at
fault_place (faults.OpenGroup at) = Some at
fault_place (faults.Bracket at) = Some at
fault_place (faults.Expected w at) = Some at

-- reading stopped in the text or at its end
abbrev pub StopsWithin : List ℕ → Fault → Type 0
StopsWithin text e = IfSome (fault_place e) (λ at. at ≤ length text)
