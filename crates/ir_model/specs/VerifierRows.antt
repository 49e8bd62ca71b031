-- A worked example of verifiers: which codes may be answered at each root, and which checks may run out of memory.
use Rattle.std.specs.Prelude.{◌↔◌, ◌≡◌, ℕ, true, false, ◌+◌, ◌*◌, List, [], ◌∷◌, Some, None, slice_index_or, ◌==◌, codes}
use Rattle.ir_model.specs.declared.ids.ArenaIndex.{ArenaIndex}
use Rattle.ir_model.specs.ContextIds.{context_ids}
use Rattle.ir_model.specs.Forest.{Text, Dialect, Behaviour, Forest, an_op, a_block, Value, of_op, of_block, Definition, OpRecord, BlockRecord}
use Rattle.ir_model.specs.Nesting.{In}
use Rattle.ir_model.specs.Edits.{StoredType}
use Rattle.ir_model.specs.BlockGraph.{no_terminator_interface}
use Rattle.ir_model.specs.Faults.{Root, the_entity, the_value, the_type, the_typed, the_attribute}
use Rattle.ir_model.specs.VerifierLists.{joined}
use Rattle.ir_model.specs.Kinds.{Kinds}
use Rattle.ir_model.specs.Verifiers.{Answers, Verifiers, checks_of}
use Rattle.ir_model.specs.VerifyAnswers.{BlockFault, VerifyErr, block_fault, operand_not_use_of_def, verifier_fault, out_of_memory, MayAnswer}
use Rattle.ir_model.specs.IdForests.{first, second, third, three}

-- a dialect whose types and attributes are numbers
abbrev pub numbered : Dialect
numbered = record { Key = ℕ; Body = Unit {0}; Attr = ℕ; Saved = Unit {0}; Aux = Unit {0}; Loc = Unit {0} }

-- the blocks of operations of kind 5 need no terminator, and that is all that any kind implements
abbrev pub module_kinds : Behaviour numbered
module_kinds = record {
  same_key = λ a b. a == b;
  first_body = tt;
  unknown = tt;
  op_impls = λ kind interface. slice_index_or (0 ∷ 0 ∷ 0 ∷ 0 ∷ 0 ∷ no_terminator_interface ∷ []) kind 0 == interface;
}

-- types 1, 2 and 3, in this order
abbrev pub three_types : List (StoredType numbered)
three_types = record { key = 1; body = tt } ∷ record { key = 2; body = tt } ∷ record { key = 3; body = tt } ∷ []

-- a result or an argument with this number, of the type at this place
abbrev pub typed : ℕ → ℕ → Definition context_ids numbered
typed number ty = record { number = number; ty = ty; name = None }

-- an operation of a kind, with results, regions and one attribute
abbrev pub op_with : ℕ → List (Definition context_ids numbered) → List ArenaIndex → List (Text × ℕ) → OpRecord context_ids numbered
op_with kind results regions attributes = record { kind = kind; results = results; operands = []; successors = []; regions = regions; attributes = attributes; loc = tt }

-- a block with an argument of type 3, the attribute 2 and the second operation
abbrev pub its_block : BlockRecord context_ids numbered
its_block = record { label = None; arguments = typed 2 2 ∷ []; ops = second ∷ []; attributes = (codes "b", 2) ∷ []; loc = tt }

-- a module with the attribute 1 and this block, whose operation has results of the types 1 and 2; a third operation with the attribute 3 stands nowhere
abbrev pub checked : Forest context_ids numbered
checked = record {
  ops = three (Some (op_with 5 [] (first ∷ []) ((codes "a", 1) ∷ []))) (Some (op_with 4 (typed 0 0 ∷ typed 1 1 ∷ []) [] [])) (Some (op_with 4 [] [] ((codes "c", 3) ∷ [])));
  blocks = three (Some its_block) None None;
  regions = three (Some (first ∷ [])) None None;
}

-- a check that answers one code, and may answer that memory ran out where its code is this one
abbrev pub answers_code : {X : Type 0} → ℕ → (X → ℕ) → Answers X (Unit {0})
answers_code spent code_of = record { Code = λ x _ code. code ≡ code_of x; Memory = λ x _. spent ≡ code_of x }

-- each check answers a code of its own: that of number n has n in its tens; those of attributes begin at 100, those of types at 200
abbrev pub own_codes : ℕ → Verifiers numbered (Unit {0})
own_codes spent = record {
  op_verifiers = joined ((4, 1 ∷ []) ∷ (5, 2 ∷ []) ∷ []);
  attr_verifiers = joined ((7, 1 ∷ []) ∷ (8, 2 ∷ []) ∷ []);
  type_verifiers = joined ((7, 1 ∷ []) ∷ (8, 2 ∷ []) ∷ []);
  op_interface = λ n. answers_code spent (λ (o : ArenaIndex). n * 10 + o.slot);
  attr_interface = λ n. answers_code spent (λ a. 100 + n * 10 + a);
  type_interface = λ n. answers_code spent (λ key. 200 + n * 10 + key);
  op_itself = answers_code spent (λ (o : ArenaIndex). o.slot);
  attr_itself = answers_code spent (λ a. 100 + a);
  type_itself = answers_code spent (λ key. 200 + key);
}

-- attributes and types 1, 2 and 3 have the kinds 7, 8 and 9
abbrev pub by_number : Kinds numbered
by_number = record { attr_kind = λ a. a + 6; type_kind = λ key. key + 6; type_impls = λ _ _. false; saved_kind = λ _. 0; same_saved = λ _ _. true; dominates = λ _ _. true }

-- verification of the root of this forest may answer so, where the check with the code `spent` may run out of memory
abbrev pub May : ℕ → Root numbered → VerifyErr → Type 0
May spent root = MayAnswer module_kinds checked three_types (checks_of by_number (own_codes spent) tt) root

-- the codes that may be answered at the root are exactly these, memory may run out exactly where one of their checks may run out, and nothing else is at fault
pub record CodesAre (root : Root numbered) (these : List ℕ) : Type 0 where
  pub told : (spent code : ℕ) → May spent root (verifier_fault code) ↔ In code these
  pub memory : (spent : ℕ) → May spent root out_of_memory ↔ In spent these
  pub no_block_fault : (spent : ℕ) (fault : BlockFault) (name : Text) → May spent root (block_fault fault name) → ⊥
  pub no_stray_use : (spent : ℕ) → May spent root operand_not_use_of_def → ⊥

-- the value that the second operation gives under this number
abbrev pub its_result : ℕ → Value context_ids
its_result number = record { definer = of_op second; number = number }

-- the argument of the block
abbrev pub its_argument : Value context_ids
its_argument = record { definer = of_block first; number = 2 }

-- each root runs the listed and the own checks of all that counts there, and no others
pub record VerifierRows : Type 0 where
  -- the operations' checks, the attributes of the module and the block, the types of both results and of the argument
  pub whole : CodesAre (the_entity (an_op first)) (21 ∷ 1 ∷ 111 ∷ 101 ∷ 122 ∷ 102 ∷ 203 ∷ 12 ∷ 2 ∷ 211 ∷ 201 ∷ 222 ∷ 202 ∷ [])
  -- without the module and its attribute
  pub of_block : CodesAre (the_entity (a_block first)) (122 ∷ 102 ∷ 203 ∷ 12 ∷ 2 ∷ 211 ∷ 201 ∷ 222 ∷ 202 ∷ [])
  -- without the block's attribute and argument
  pub of_op : CodesAre (the_entity (an_op second)) (12 ∷ 2 ∷ 211 ∷ 201 ∷ 222 ∷ 202 ∷ [])
  -- what stands nowhere is verified for itself
  pub of_third : CodesAre (the_entity (an_op third)) (13 ∷ 3 ∷ 103 ∷ [])
  -- a value has its own type alone
  pub of_result : CodesAre (the_value (its_result 0)) (211 ∷ 201 ∷ [])
  pub of_other_result : CodesAre (the_value (its_result 1)) (222 ∷ 202 ∷ [])
  -- no number is listed for the kind of type 3
  pub of_argument : CodesAre (the_value its_argument) (203 ∷ [])
  pub of_type : CodesAre (the_type 1) (211 ∷ 201 ∷ [])
  pub of_other_type : CodesAre (the_type 2) (222 ∷ 202 ∷ [])
  -- a handle of one kind has the own check alone
  pub of_typed : CodesAre (the_typed 1) (201 ∷ [])
  pub of_attribute : CodesAre (the_attribute 2) (122 ∷ 102 ∷ [])
