-- The parts of a verification: which faults each looks for and which checks it runs, and what it finds.
use Rattle.std.specs.Prelude.{◌≡◌, ◌⊎◌, ℕ, List, Option, Some, None, MatchOption, Result, Ok, Err}
use Rattle.ir_model.specs.declared.ids.ArenaIndex.{ArenaIndex}
use Rattle.ir_model.specs.BlockGraph.{succs}
use Rattle.ir_model.specs.ContextIds.{context_ids}
use Rattle.ir_model.specs.Edits.{StoredType, The}
use Rattle.ir_model.specs.Faults.{Fault, NoParent, MissingTerminator, TerminatorNotLast, EntryHasPred, OperandNotUseOfDef, Verifier, NamesBlock, Check, op_list, op_own, Checks, the_attribute, the_type, Root, FaultStands, IsRun, HasKey, IsNamed, IsEntry, LacksTerminator, IsNamedAside, EndsTooEarly}
use Rattle.ir_model.specs.Forest.{Text, Dialect, Behaviour, Forest, Entity, an_op, a_block, a_region, of_op, of_block, Definition}
use Rattle.ir_model.specs.Names.{IsBlockName}
use Rattle.ir_model.specs.Nesting.{In, IsLinked, definitions_of, list_of, ops_of}
use Rattle.ir_model.specs.VerifyAnswers.{fault_of}
use Rattle.ir_verify.specs.declared.error.VerifyErr.{VerifyErr}
use Rattle.ir_verify.specs.Told.{told}

-- no fault is looked for
abbrev pub NoFault : Fault → Type 0
NoFault fault = ⊥

module _ {W : Dialect} where
  -- no check is run
  abbrev pub NoCheck : Check W → Type 0
  NoCheck check = ⊥

module _ {W : Dialect} (checks : Checks W) (Faulty : Fault → Type 0) (Runs : Check W → Type 0) where
  -- the fault is there: it is one of those that are looked for, or a check that is run answers its code
  abbrev pub IsThere : Fault → Type 0
  IsThere (Verifier code) = (c : Check W) × Runs c × checks.Stands c code
  IsThere fault = Faulty fault

  -- memory may run out: at a fault that names a block, or in a check that is run
  abbrev pub MayLack : Type 0
  MayLack = ((x : Fault) × NamesBlock x × IsThere x) ⊎ ((c : Check W) × Runs c × checks.MayRunOut c)

  -- this may be told: a fault that is there, or want of memory where that may be
  abbrev pub MayTell : Option Fault → Type 0
  MayTell (Some fault) = IsThere fault
  MayTell None = MayLack

  -- the answer is right: no fault is there, or what is told may be
  abbrev pub Finds : Result Unit VerifyErr → Type 0
  Finds (Ok u) = (fault : Fault) → IsThere fault → ⊥
  Finds (Err e) = MayTell (fault_of (told e))

-- the answer is right where these faults are looked for and no check is run: none is there, or one that is told is, or memory may run out where one names a block
abbrev pub Tells : (Fault → Type 0) → Result Unit VerifyErr → Type 0
Tells Faulty (Ok u) = (fault : Fault) → Faulty fault → ⊥
Tells Faulty (Err e) = MatchOption (fault_of (told e)) ((x : Fault) × NamesBlock x × Faulty x) Faulty

module _ {W : Dialect} (B : Behaviour W) (f : Forest context_ids W) (store : List (StoredType W)) where
  -- the operation is unlinked, or the terminator of its block does not name b
  abbrev pub IsAside : ArenaIndex → ArenaIndex → Type 0
  IsAside o b = (IsLinked f (an_op o) → ⊥) ⊎ ((a : ArenaIndex) × In o (ops_of f a) × (In b (succs B f a) → ⊥))

  -- the faults of the block itself
  abbrev pub FaultAtBlock : ArenaIndex → Fault → Type 0
  FaultAtBlock b (NoParent name) = IsBlockName f b name × (IsLinked f (a_block b) → ⊥)
  FaultAtBlock b (MissingTerminator name) = IsBlockName f b name × LacksTerminator B f store b
  FaultAtBlock b (EntryHasPred name) = IsBlockName f b name × IsEntry B f store b × IsNamed B f store b
  FaultAtBlock b OperandNotUseOfDef = IsNamedAside B f store b
  FaultAtBlock b fault = ⊥

  -- the faults of the operation itself
  abbrev pub FaultAtOp : ArenaIndex → Fault → Type 0
  FaultAtOp o (TerminatorNotLast name) = EndsTooEarly B f store o × ((b : ArenaIndex) × In o (ops_of f b) × IsBlockName f b name)
  FaultAtOp o fault = ⊥

  -- the faults of the entity itself
  abbrev pub FaultAt : Entity context_ids → Fault → Type 0
  FaultAt (an_op o) = FaultAtOp o
  FaultAt (a_block b) = FaultAtBlock b
  FaultAt (a_region g) = NoFault

module _ {W : Dialect} (B : Behaviour W) (f : Forest context_ids W) (store : List (StoredType W)) (checks : Checks W) where
  -- the checks of the operation: those of the numbers that are listed for its kind, and its own
  abbrev pub RunsOnOp : ArenaIndex → Check W → Type 0
  RunsOnOp o (op_list n p) = (o ≡ p) × The (f.ops o) λ r. In n (checks.op_numbers r.kind)
  RunsOnOp o (op_own p) = o ≡ p
  RunsOnOp o check = ⊥

  -- the checks of the attributes
  abbrev pub RunsOnAttributes : List (Text × W.Attr) → Check W → Type 0
  RunsOnAttributes pairs c = (p : Text × W.Attr) × In p pairs × IsRun B f store checks (the_attribute p.1) c

  -- the checks of the type under a handle
  abbrev pub RunsOnHandle : ℕ → Check W → Type 0
  RunsOnHandle ty c = (key : W.Key) × HasKey B f store ty key × IsRun B f store checks (the_type key) c

  -- the checks of the types of results or arguments
  abbrev pub RunsOnTypes : List (Definition context_ids W) → Check W → Type 0
  RunsOnTypes definitions c = (d : Definition context_ids W) × In d definitions × RunsOnHandle d.ty c

  -- the checks of the entity itself
  abbrev pub RunAt : Entity context_ids → Check W → Type 0
  RunAt (an_op o) c = RunsOnOp o c ⊎ (RunsOnAttributes (list_of (λ r. r.attributes) (f.ops o)) c ⊎ RunsOnTypes (definitions_of f (of_op o)) c)
  RunAt (a_block b) c = RunsOnAttributes (list_of (λ r. r.attributes) (f.blocks b)) c ⊎ RunsOnTypes (definitions_of f (of_block b)) c
  RunAt (a_region g) c = ⊥

  -- the faults that stand at the root, but for those of checks
  abbrev pub RootFault : Root W → Fault → Type 0
  RootFault root (Verifier code) = ⊥
  RootFault root fault = FaultStands B f store checks root fault

  -- the answer is right for the root
  abbrev pub FindsAt : Root W → Result Unit VerifyErr → Type 0
  FindsAt root result = Finds checks (RootFault root) (IsRun B f store checks root) result
