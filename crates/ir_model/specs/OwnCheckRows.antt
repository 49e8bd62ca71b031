-- Worked examples of verification by own checks, of a type and of an operation, from the edits that make them.
use Rattle.std.specs.Prelude.{◌≡◌, ◌≢◌, ℕ, Bool, false, List, [], ◌∷◌, length, Option, None, nat_eq, bytes_eq}
use Rattle.ir_model.specs.declared.answer.Answer.TheVariants.{Made}
use Rattle.ir_model.specs.ContextIds.{context_ids, same_id}
use Rattle.ir_model.specs.Ids.{Fresh}
use Rattle.ir_model.specs.Forest.{Text, Dialect, Behaviour, Forest, Value, of_op, Operand, OpRecord, an_op, a_value}
use Rattle.ir_model.specs.Changes.{put}
use Rattle.ir_model.specs.Edits.{State, StoredType, Change, LiveOp, The, answer as reply, NewType, NewOp}
use Rattle.ir_model.specs.Uses.{AreUses}
use Rattle.ir_model.specs.Faults.{Fault, Check, Checks, op_own, type_own, the_entity, FaultStands, Verifier}
use Rattle.ir_model.specs.SmallForests.{behaviour}
use Rattle.ir_model.specs.IdForests.{first}

-- ## The dialect

-- an integer type of a width, or a type with a name
pub data WidthOrName : Type 0 where
  an_int : ℕ → WidthOrName
  a_name : Text → WidthOrName

-- whether the keys are one
abbrev pub same_width_or_name : WidthOrName → WidthOrName → Bool
same_width_or_name (an_int m) (an_int n) = nat_eq m n
same_width_or_name (a_name s) (a_name t) = bytes_eq s t
same_width_or_name _ _ = false

-- a dialect whose types are these; the body of a type is the handle of another, or nothing
abbrev pub with_types : Dialect
with_types = record { Key = WidthOrName; Body = Option ℕ; Attr = Unit {0}; Saved = Unit {0}; Aux = Unit {0}; Loc = Unit {0} }

-- a type has no body at first, and kinds are those of the small forests
abbrev pub types_behaviour : Behaviour with_types
types_behaviour = record { same_key = same_width_or_name; first_body = None; unknown = tt; op_impls = behaviour.op_impls }

-- an integer type has to have a width, or code 1 stands; an operation of kind 1 has to have two operands, or code 2 stands
abbrev pub own_code : Forest context_ids with_types → Check with_types → ℕ → Type 0
own_code f (type_own (an_int width)) code = (width ≡ 0) × (code ≡ 1)
own_code f (op_own o) code = The (f.ops o) λ r. (r.kind ≡ 1) × (length r.operands ≢ 2) × (code ≡ 2)
own_code f _ code = ⊥

-- own checks alone, none of which takes memory
abbrev pub own_checks : Forest context_ids with_types → Checks with_types
own_checks f = record { op_numbers = λ _. []; attr_numbers = λ _. []; type_numbers = λ _. []; Stands = own_code f; MayRunOut = λ _. ⊥ }

-- the fault stands at the first operation of the state
abbrev pub StandsAtFirst : State context_ids with_types → Fault → Type 0
StandsAtFirst s fault = FaultStands types_behaviour s.forest s.store (own_checks s.forest) (the_entity (an_op first)) fault

-- ## The states

-- nothing but types, which were made with these handles
abbrev pub types_alone : List (StoredType with_types) → List ℕ → State context_ids with_types
types_alone store types = record {
  forest = record { ops = λ _. None; blocks = λ _. None; regions = λ _. None };
  store = store;
  tables = record { types = types; ops = []; blocks = []; regions = []; values = [] };
}

-- the integer type of this width, without a body
abbrev pub width : ℕ → StoredType with_types
width n = record { key = an_int n; body = None }

-- the result of the first operation
abbrev pub its_result : Value context_ids
its_result = record { definer = of_op first; number = 0 }

-- an operation of a kind with a result of the first type and these operands
abbrev pub with_result : ℕ → List (Operand context_ids) → OpRecord context_ids with_types
with_result kind operands = record { kind = kind; results = record { number = 0; ty = 0; name = None } ∷ []; operands = operands; successors = []; regions = []; attributes = []; loc = tt }

-- beside the types that operation alone
abbrev pub one_op : List (StoredType with_types) → List ℕ → ℕ → List (Operand context_ids) → State context_ids with_types
one_op store types kind operands = record {
  forest = record { ops = put same_id first (with_result kind operands) (λ _. None); blocks = λ _. None; regions = λ _. None };
  store = store;
  tables = record { types = types; ops = first ∷ []; blocks = []; regions = []; values = its_result ∷ [] };
}

-- what making it makes
abbrev pub first_made : Fresh context_ids
first_made = record { ops = first ∷ []; blocks = []; regions = []; numbers = 0 ∷ []; uses = [] }

-- ## A type without a width

-- a type that is made twice is stored once, and a result of it is at fault by the type's own check
pub record TypeFault : Type 0 where
  pub type_made : (new : Fresh context_ids) → Change types_behaviour (types_alone [] []) (NewType (an_int 0)) new (types_alone (width 0 ∷ []) (0 ∷ []))
  pub type_answer : reply (types_alone [] []) (NewType (an_int 0)) ≡ Made 0
  pub again_made : (new : Fresh context_ids) → Change types_behaviour (types_alone (width 0 ∷ []) (0 ∷ [])) (NewType (an_int 0)) new (types_alone (width 0 ∷ []) (0 ∷ 0 ∷ []))
  pub again_answer : reply (types_alone (width 0 ∷ []) (0 ∷ [])) (NewType (an_int 0)) ≡ Made 1
  pub op_made : Change types_behaviour (types_alone (width 0 ∷ []) (0 ∷ 0 ∷ [])) (NewOp 0 (1 ∷ []) [] [] 0) first_made (one_op (width 0 ∷ []) (0 ∷ 0 ∷ []) 0 [])
  pub op_answer : reply (types_alone (width 0 ∷ []) (0 ∷ 0 ∷ [])) (NewOp 0 (1 ∷ []) [] [] 0) ≡ Made 0
  pub stands : StandsAtFirst (one_op (width 0 ∷ []) (0 ∷ 0 ∷ []) 0 []) (Verifier 1)
  pub alone : (fault : Fault) → StandsAtFirst (one_op (width 0 ∷ []) (0 ∷ 0 ∷ []) 0 []) fault → fault ≡ Verifier 1
  pub unused : AreUses (one_op (width 0 ∷ []) (0 ∷ 0 ∷ []) 0 []).forest (a_value its_result) []
  -- it is not stored twice
  pub not_stored_twice : (new : Fresh context_ids) → Change types_behaviour (types_alone (width 0 ∷ []) (0 ∷ [])) (NewType (an_int 0)) new (types_alone (width 0 ∷ width 0 ∷ []) (0 ∷ 1 ∷ [])) → ⊥
  -- a type of another width is stored beside it
  pub other_type : (new : Fresh context_ids) → Change types_behaviour (types_alone (width 0 ∷ []) (0 ∷ [])) (NewType (an_int 32)) new (types_alone (width 0 ∷ width 32 ∷ []) (0 ∷ 1 ∷ []))
  -- with a width nothing is at fault
  pub not_with_a_width : (fault : Fault) → StandsAtFirst (one_op (width 32 ∷ []) (0 ∷ 0 ∷ []) 0 []) fault → ⊥

-- ## A sum without operands

-- an operation that names its own result twice
abbrev pub of_itself : List (Operand context_ids)
of_itself = record { use_number = 0; value = its_result } ∷ record { use_number = 1; value = its_result } ∷ []

-- an operation whose kind asks for two operands and that has none is at fault by its own check
pub record OwnCheck : Type 0 where
  pub type_made : (new : Fresh context_ids) → Change types_behaviour (types_alone [] []) (NewType (an_int 32)) new (types_alone (width 32 ∷ []) (0 ∷ []))
  pub type_answer : reply (types_alone [] []) (NewType (an_int 32)) ≡ Made 0
  pub op_made : Change types_behaviour (types_alone (width 32 ∷ []) (0 ∷ [])) (NewOp 1 (0 ∷ []) [] [] 0) first_made (one_op (width 32 ∷ []) (0 ∷ []) 1 [])
  pub op_answer : reply (types_alone (width 32 ∷ []) (0 ∷ [])) (NewOp 1 (0 ∷ []) [] [] 0) ≡ Made 0
  pub stands : StandsAtFirst (one_op (width 32 ∷ []) (0 ∷ []) 1 []) (Verifier 2)
  pub alone : (fault : Fault) → StandsAtFirst (one_op (width 32 ∷ []) (0 ∷ []) 1 []) fault → fault ≡ Verifier 2
  pub unused : AreUses (one_op (width 32 ∷ []) (0 ∷ []) 1 []).forest (a_value its_result) []
  -- there is no tenth operation that could be verified
  pub no_tenth : LiveOp (one_op (width 32 ∷ []) (0 ∷ []) 1 []) 9 (λ o r. Unit {0}) → ⊥
  -- another kind asks for none, and with two the sum is not at fault
  pub not_of_another_kind : (fault : Fault) → StandsAtFirst (one_op (width 32 ∷ []) (0 ∷ []) 0 []) fault → ⊥
  pub not_with_two : (fault : Fault) → StandsAtFirst (one_op (width 32 ∷ []) (0 ∷ []) 1 of_itself) fault → ⊥
  -- with one it is
  pub stands_with_one : StandsAtFirst (one_op (width 32 ∷ []) (0 ∷ []) 1 (record { use_number = 0; value = its_result } ∷ [])) (Verifier 2)
