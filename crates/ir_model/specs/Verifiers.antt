-- What is handed in for verification, by kinds and numbers, and the checks that it makes.
use Rattle.std.specs.Prelude.{ℕ, List}
use Rattle.ir_model.specs.declared.ids.ArenaIndex.{ArenaIndex}
use Rattle.ir_model.specs.Forest.{Dialect}
use Rattle.ir_model.specs.Kinds.{Kinds}
use Rattle.ir_model.specs.Faults.{Check, op_list, op_own, attr_list, attr_own, type_list, type_own, Checks}

-- what one check may answer of what it is given, in a state
pub record Answers (X S : Type 0) : Type 1 where
  -- the code stands
  pub Code : X → S → ℕ → Type 0
  -- it may answer that memory ran out
  pub Memory : X → S → Type 0

-- the verifiers that are handed in
pub record Verifiers (W : Dialect) (S : Type 0) : Type 1 where
  -- the numbers listed for each kind of operations, attributes and types
  pub op_verifiers : ℕ → List ℕ
  pub attr_verifiers : ℕ → List ℕ
  pub type_verifiers : ℕ → List ℕ
  -- the check of each number
  pub op_interface : ℕ → Answers ArenaIndex S
  pub attr_interface : ℕ → Answers W.Attr S
  pub type_interface : ℕ → Answers W.Key S
  -- the own checks
  pub op_itself : Answers ArenaIndex S
  pub attr_itself : Answers W.Attr S
  pub type_itself : Answers W.Key S

module _ {W : Dialect} {S : Type 0} (kinds : Kinds W) (verifiers : Verifiers W S) (state : S) where
  -- the code stands by the check
  abbrev pub CodeStands : Check W → ℕ → Type 0
  CodeStands (op_list n o) = (verifiers.op_interface n).Code o state
  CodeStands (op_own o) = verifiers.op_itself.Code o state
  CodeStands (attr_list n a) = (verifiers.attr_interface n).Code a state
  CodeStands (attr_own a) = verifiers.attr_itself.Code a state
  CodeStands (type_list n key) = (verifiers.type_interface n).Code key state
  CodeStands (type_own key) = verifiers.type_itself.Code key state

  -- the check may answer that memory ran out
  abbrev pub MemoryStands : Check W → Type 0
  MemoryStands (op_list n o) = (verifiers.op_interface n).Memory o state
  MemoryStands (op_own o) = verifiers.op_itself.Memory o state
  MemoryStands (attr_list n a) = (verifiers.attr_interface n).Memory a state
  MemoryStands (attr_own a) = verifiers.attr_itself.Memory a state
  MemoryStands (type_list n key) = (verifiers.type_interface n).Memory key state
  MemoryStands (type_own key) = verifiers.type_itself.Memory key state

  -- the checks of the verifiers in this state: an attribute and a type have the numbers of their kinds
  abbrev pub checks_of : Checks W
  checks_of = record {
    op_numbers = verifiers.op_verifiers;
    attr_numbers = λ a. verifiers.attr_verifiers (kinds.attr_kind a);
    type_numbers = λ key. verifiers.type_verifiers (kinds.type_kind key);
    Stands = CodeStands;
    MayRunOut = MemoryStands;
  }
