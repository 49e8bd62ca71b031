-- What verification answers, and when that is right.
use Rattle.std.specs.Prelude.{ℕ, List, Option, Some, None}
use Rattle.ir_model.specs.ContextIds.{context_ids}
use Rattle.ir_model.specs.Forest.{Text, Dialect, Behaviour, Forest}
use Rattle.ir_model.specs.Edits.{StoredType}
use Rattle.ir_model.specs.Faults.{Fault, NoParent, MissingTerminator, TerminatorNotLast, EntryHasPred, OperandNotUseOfDef, Verifier, Root, Checks, FaultStands, MemoryMayRunOut}

-- what is wrong with a block
pub data BlockFault : Type 0 where
  missing_terminator terminator_not_last no_parent entry_has_pred : BlockFault

-- what verification answers where it finds that not all is well
pub data VerifyErr : Type 0 where
  -- what is wrong with the block of this unique name
  block_fault : BlockFault → Text → VerifyErr
  operand_not_use_of_def : VerifyErr
  -- a verifier answered this code
  verifier_fault : ℕ → VerifyErr
  out_of_memory : VerifyErr

-- the fault that is told; want of memory tells none
abbrev pub fault_of : VerifyErr → Option Fault
fault_of (block_fault missing_terminator name) = Some (MissingTerminator name)
fault_of (block_fault terminator_not_last name) = Some (TerminatorNotLast name)
fault_of (block_fault no_parent name) = Some (NoParent name)
fault_of (block_fault entry_has_pred name) = Some (EntryHasPred name)
fault_of operand_not_use_of_def = Some OperandNotUseOfDef
fault_of (verifier_fault code) = Some (Verifier code)
fault_of out_of_memory = None

module _ {W : Dialect} (B : Behaviour W) (f : Forest context_ids W) (store : List (StoredType W)) (checks : Checks W) (root : Root W) where
  -- the fault stands, or where none is told, memory may run out
  abbrev pub Told : Option Fault → Type 0
  Told (Some fault) = FaultStands B f store checks root fault
  Told None = MemoryMayRunOut B f store checks root

  -- verification of the root may answer so
  abbrev pub MayAnswer : VerifyErr → Type 0
  MayAnswer err = Told (fault_of err)

  -- verification of the root may answer that all is well: no fault stands
  abbrev pub AllIsWell : Type 0
  AllIsWell = (fault : Fault) → FaultStands B f store checks root fault → ⊥
