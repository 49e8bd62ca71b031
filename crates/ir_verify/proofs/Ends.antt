-- When an operation has no fault of its own.
use Rattle.std.proofs.Common.{ℕ, List}
use Rattle.ir_model.specs.declared.ids.ArenaIndex.{ArenaIndex}
use Rattle.ir_model.specs.ContextIds.{context_ids}
use Rattle.ir_model.specs.Edits.{StoredType}
use Rattle.ir_model.specs.Faults.{Fault, NoParent, MissingTerminator, TerminatorNotLast, EntryHasPred, OperandNotUseOfDef, Verifier, IsEntry, IsNamed, IsNamedAside, LacksTerminator}
use Rattle.ir_model.specs.Forest.{Text, Dialect, Behaviour, Forest, a_block}
use Rattle.ir_model.specs.Nesting.{IsLinked}
use Rattle.ir_verify.specs.Parts.{FaultAtBlock, FaultAtOp}

module _ {W : Dialect} (B : Behaviour W) (f : Forest context_ids W) (store : List (StoredType W)) where
  pub no-op_fault : (o : ArenaIndex) → ((name : Text) → FaultAtOp B f store o (TerminatorNotLast name) → ⊥) → (x : Fault) → FaultAtOp B f store o x → ⊥
  no-op_fault o not (NoParent name) h = h
  no-op_fault o not (MissingTerminator name) h = h
  no-op_fault o not (TerminatorNotLast name) h = not name h
  no-op_fault o not (EntryHasPred name) h = h
  no-op_fault o not OperandNotUseOfDef h = h
  no-op_fault o not (Verifier code) h = h

  -- a block without any of the four faults has none
  pub no-block_fault : (b : ArenaIndex) → IsLinked f (a_block b) → (LacksTerminator B f store b → ⊥) → (IsEntry B f store b → IsNamed B f store b → ⊥) → (IsNamedAside B f store b → ⊥) → (x : Fault) → FaultAtBlock B f store b x → ⊥
  no-block_fault b linked ends entry aside (NoParent name) h = h.1 linked
  no-block_fault b linked ends entry aside (MissingTerminator name) h = ends h.1
  no-block_fault b linked ends entry aside (TerminatorNotLast name) h = h
  no-block_fault b linked ends entry aside (EntryHasPred name) h = entry h.1 h.2
  no-block_fault b linked ends entry aside OperandNotUseOfDef h = aside h
  no-block_fault b linked ends entry aside (Verifier code) h = h

  pub op-no_code : (o : ArenaIndex) (code : ℕ) → FaultAtOp B f store o (Verifier code) → ⊥
  op-no_code o code h = h

  pub block-no_code : (b : ArenaIndex) (code : ℕ) → FaultAtBlock B f store b (Verifier code) → ⊥
  block-no_code b code h = h
