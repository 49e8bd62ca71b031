-- The faults that stand in a forest at what is verified.
use Rattle.std.specs.Prelude.{◌≡◌, ◌⊎◌, ℕ, List, Some, None, IsTrue, IsFalse, slice_get}
use Rattle.ir_model.specs.declared.ids.ArenaIndex.{ArenaIndex}
use Rattle.ir_model.specs.ContextIds.{context_ids}
use Rattle.ir_model.specs.Forest.{Text, Dialect, Behaviour, Definer, Entity, an_op, a_block, a_region, Value, Definition, Forest, definer_entity, the_block}
use Rattle.ir_model.specs.Nesting.{In, Inside, IsLinked, list_of, regions_of, ops_of, blocks_of, names_of, definitions_of}
use Rattle.ir_model.specs.Parent.{ComesAfter, first_of}
use Rattle.ir_model.specs.BlockGraph.{implements, terminator, succs, is_terminator_interface, no_terminator_interface}
use Rattle.ir_model.specs.Names.{IsBlockName}
use Rattle.ir_model.specs.Edits.{The, StoredType}

-- what verification may find
pub data Fault : Type 0 where
  NoParent : Text → Fault
  MissingTerminator : Text → Fault
  TerminatorNotLast : Text → Fault
  EntryHasPred : Text → Fault
  OperandNotUseOfDef : Fault
  Verifier : ℕ → Fault

-- the fault carries the name of a block
abbrev pub NamesBlock : Fault → Type 0
NamesBlock (NoParent name) = Unit {0}
NamesBlock (MissingTerminator name) = Unit {0}
NamesBlock (TerminatorNotLast name) = Unit {0}
NamesBlock (EntryHasPred name) = Unit {0}
NamesBlock OperandNotUseOfDef = ⊥
NamesBlock (Verifier code) = ⊥

module _ (W : Dialect) where
  -- what is verified
  pub data Root : Type 0 where
    the_entity : Entity context_ids → Root
    the_value : Value context_ids → Root
    -- a type, or the handle of one
    the_type : W.Key → Root
    -- a handle of a type of one kind
    the_typed : W.Key → Root
    the_attribute : W.Attr → Root

  -- a check that is handed in: number n of the list for the kind, or the own check
  pub data Check : Type 0 where
    op_list : ℕ → ArenaIndex → Check
    op_own : ArenaIndex → Check
    attr_list : ℕ → W.Attr → Check
    attr_own : W.Attr → Check
    type_list : ℕ → W.Key → Check
    type_own : W.Key → Check

  -- the checks handed in, and what they say of one state
  pub record Checks : Type 1 where
    -- the numbers listed for an operation's kind, an attribute and a type
    pub op_numbers : ℕ → List ℕ
    pub attr_numbers : W.Attr → List ℕ
    pub type_numbers : W.Key → List ℕ
    -- the code stands
    pub Stands : Check → ℕ → Type 0
    -- the check may answer that memory ran out
    pub MayRunOut : Check → Type 0

module _ {W : Dialect} (B : Behaviour W) (f : Forest context_ids W) (store : List (StoredType W)) where
  -- the operation of the region that the block stands in
  abbrev pub IsParentOp : ArenaIndex → ArenaIndex → Type 0
  IsParentOp b o = (g : ArenaIndex) × In b (blocks_of f g) × In g (regions_of f o)

  -- an operation of the whole forest names the block
  abbrev pub IsNamed : ArenaIndex → Type 0
  IsNamed b = (o : ArenaIndex) × In (the_block b) (names_of f o)

  -- the block is the first of a region
  abbrev pub IsEntry : ArenaIndex → Type 0
  IsEntry b = (g : ArenaIndex) × (first_of (blocks_of f g) ≡ Some b)

  -- the block has a parent operation that asks for terminators, and no terminator
  abbrev pub LacksTerminator : ArenaIndex → Type 0
  LacksTerminator b = (o : ArenaIndex) × IsParentOp b o × IsFalse (implements B f no_terminator_interface o) × (terminator B f b ≡ None)

  -- an operation names the block, and is unlinked, or the terminator of its block does not name it
  abbrev pub IsNamedAside : ArenaIndex → Type 0
  IsNamedAside b = (o : ArenaIndex) × In (the_block b) (names_of f o)
      × ((IsLinked f (an_op o) → ⊥) ⊎ ((a : ArenaIndex) × In o (ops_of f a) × (In b (succs B f a) → ⊥)))

  -- an operation that ends blocks has another one after it
  abbrev pub EndsTooEarly : ArenaIndex → Type 0
  EndsTooEarly o = IsTrue (implements B f is_terminator_interface o) × ((p : Entity context_ids) × ComesAfter f (an_op o) p)

  -- the operation or block has this attribute
  abbrev pub Carries : Entity context_ids → W.Attr → Type 0
  Carries (an_op o) a = (key : Text) × In (key, a) (list_of (λ r. r.attributes) (f.ops o))
  Carries (a_block b) a = (key : Text) × In (key, a) (list_of (λ r. r.attributes) (f.blocks b))
  Carries (a_region g) a = ⊥

  -- the type's key is this one
  abbrev pub HasKey : ℕ → W.Key → Type 0
  HasKey ty key = The (slice_get store ty) λ t. t.key ≡ key

  -- the block is in the subtree of what is verified
  abbrev pub CountsBlock : Root W → ArenaIndex → Type 0
  CountsBlock (the_entity e) b = Inside f e (a_block b)
  CountsBlock _ b = ⊥

  -- the operation is in the subtree of what is verified
  abbrev pub CountsOp : Root W → ArenaIndex → Type 0
  CountsOp (the_entity e) o = Inside f e (an_op o)
  CountsOp _ o = ⊥

  -- the attribute is what is verified, or an operation or block of the subtree has it
  abbrev pub CountsAttribute : Root W → W.Attr → Type 0
  CountsAttribute (the_entity e) a = (x : Entity context_ids) × Inside f e x × Carries x a
  CountsAttribute (the_attribute b) a = b ≡ a
  CountsAttribute _ a = ⊥

  -- the type is what is verified, or that of the value, or that of a result or argument in the subtree
  abbrev pub CountsType : Root W → W.Key → Type 0
  CountsType (the_entity e) key = (d : Definer context_ids) × (x : Definition context_ids W) × Inside f e (definer_entity context_ids d) × In x (definitions_of f d) × HasKey x.ty key
  CountsType (the_value v) key = (x : Definition context_ids W) × In x (definitions_of f v.definer) × (x.number ≡ v.number) × HasKey x.ty key
  CountsType (the_type k) key = k ≡ key
  CountsType _ key = ⊥

  -- a handle of a type of one kind runs the type's own check alone
  abbrev pub CountsTyped : Root W → W.Key → Type 0
  CountsTyped (the_typed k) key = k ≡ key
  CountsTyped _ key = ⊥

  module _ (checks : Checks W) (root : Root W) where
    -- verifying the root runs the check
    abbrev pub IsRun : Check W → Type 0
    IsRun (op_list n o) = CountsOp root o × The (f.ops o) λ r. In n (checks.op_numbers r.kind)
    IsRun (op_own o) = CountsOp root o
    IsRun (attr_list n a) = CountsAttribute root a × In n (checks.attr_numbers a)
    IsRun (attr_own a) = CountsAttribute root a
    IsRun (type_list n key) = CountsType root key × In n (checks.type_numbers key)
    IsRun (type_own key) = CountsType root key ⊎ CountsTyped root key

    -- the fault stands at the root
    abbrev pub FaultStands : Fault → Type 0
    FaultStands (NoParent name) = (b : ArenaIndex) × CountsBlock root b × IsBlockName f b name × (IsLinked f (a_block b) → ⊥)
    FaultStands (MissingTerminator name) = (b : ArenaIndex) × CountsBlock root b × IsBlockName f b name × LacksTerminator b
    FaultStands (EntryHasPred name) = (b : ArenaIndex) × CountsBlock root b × IsBlockName f b name × IsEntry b × IsNamed b
    FaultStands OperandNotUseOfDef = (b : ArenaIndex) × CountsBlock root b × IsNamedAside b
    FaultStands (TerminatorNotLast name) = (o b : ArenaIndex) × CountsOp root o × EndsTooEarly o × In o (ops_of f b) × IsBlockName f b name
    FaultStands (Verifier code) = (c : Check W) × IsRun c × checks.Stands c code

    -- verification may answer that memory ran out: a fault that names a block stands, or a check that is run may answer it
    abbrev pub MemoryMayRunOut : Type 0
    MemoryMayRunOut = ((x : Fault) × NamesBlock x × FaultStands x) ⊎ ((c : Check W) × IsRun c × checks.MayRunOut c)
