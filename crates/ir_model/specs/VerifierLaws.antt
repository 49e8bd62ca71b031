-- Laws on what verification answers and on the verifiers that are handed in.
use Rattle.std.specs.Prelude.{◌≡◌, ◌↔◌, ◌⊎◌, ℕ, Bool, List, [], Some, None, IsTrue}
use Rattle.ir_model.specs.ContextIds.{context_ids}
use Rattle.ir_model.specs.Forest.{Dialect, Behaviour, Forest}
use Rattle.ir_model.specs.Nesting.{In}
use Rattle.ir_model.specs.Edits.{StoredType}
use Rattle.ir_model.specs.Faults.{Fault, Root, the_type, the_typed, the_attribute, Check, op_list, op_own, attr_list, attr_own, type_list, type_own}
use Rattle.ir_model.specs.Kinds.{Kinds}
use Rattle.ir_model.specs.Verifiers.{Answers, Verifiers, CodeStands, MemoryStands, checks_of}
use Rattle.ir_model.specs.VerifyAnswers.{VerifyErr, verifier_fault, out_of_memory, fault_of, MayAnswer}

-- each fault is told by one answer, and want of memory alone tells none
pub record FaultsAreTold : Type 0 where
  pub one : (fault : Fault) → (err : VerifyErr) × (fault_of err ≡ Some fault) × ((other : VerifyErr) → fault_of other ≡ Some fault → other ≡ err)
  pub memory : (err : VerifyErr) → fault_of err ≡ None → err ≡ out_of_memory

-- verifiers whose checks are decided by tests
pub record Tests (W : Dialect) (S : Type 0) : Type 0 where
  pub op_verifiers : ℕ → List ℕ
  pub attr_verifiers : ℕ → List ℕ
  pub type_verifiers : ℕ → List ℕ
  -- whether the code stands by the check
  pub code : Check W → S → ℕ → Bool
  -- whether the check may answer that memory ran out
  pub memory : Check W → S → Bool

module _ {W : Dialect} {S : Type 0} (tests : Tests W S) where
  -- what a check of this form answers
  abbrev pub answers_by : {X : Type 0} → (X → Check W) → Answers X S
  answers_by check = record { Code = λ x state code. IsTrue (tests.code (check x) state code); Memory = λ x state. IsTrue (tests.memory (check x) state) }

  -- the verifiers of these tests
  abbrev pub tested : Verifiers W S
  tested = record {
    op_verifiers = tests.op_verifiers;
    attr_verifiers = tests.attr_verifiers;
    type_verifiers = tests.type_verifiers;
    op_interface = λ n. answers_by (op_list n);
    attr_interface = λ n. answers_by (attr_list n);
    type_interface = λ n. answers_by (type_list n);
    op_itself = answers_by op_own;
    attr_itself = answers_by attr_own;
    type_itself = answers_by type_own;
  }

  -- what verification takes a check to answer is what the check's own test says
  pub record TestsDecide (kinds : Kinds W) (state : S) : Type 0 where
    pub told : (check : Check W) (code : ℕ) → (checks_of kinds tested state).Stands check code ↔ IsTrue (tests.code check state code)
    pub memory : (check : Check W) → (checks_of kinds tested state).MayRunOut check ↔ IsTrue (tests.memory check state)

module _ {W : Dialect} {S : Type 0} (B : Behaviour W) (kinds : Kinds W) (verifiers : Verifiers W S) (state : S) where
  -- an own check, or that of a number that is listed, has P
  abbrev pub OwnOrListed : (Check W → Type 0) → Check W → List ℕ → (ℕ → Check W) → Type 0
  OwnOrListed P own numbers listed = P own ⊎ ((n : ℕ) × In n numbers × P (listed n))

  -- verification of the root tells the codes, and the want of memory, of the own check and of those that are listed
  pub record RunsOwnAndListed (f : Forest context_ids W) (store : List (StoredType W)) (root : Root W) (own : Check W) (numbers : List ℕ) (listed : ℕ → Check W) : Type 0 where
    pub told : (code : ℕ) → MayAnswer B f store (checks_of kinds verifiers state) root (verifier_fault code) ↔ OwnOrListed (λ c. CodeStands kinds verifiers state c code) own numbers listed
    pub memory : MayAnswer B f store (checks_of kinds verifiers state) root out_of_memory ↔ OwnOrListed (λ c. MemoryStands kinds verifiers state c) own numbers listed

  -- a type and an attribute are verified by the numbers that are listed for their kinds, and a handle of one kind by none
  pub record KindsSettle (f : Forest context_ids W) (store : List (StoredType W)) : Type 0 where
    pub of_type : (key : W.Key) → RunsOwnAndListed f store (the_type key) (type_own key) (verifiers.type_verifiers (kinds.type_kind key)) (λ n. type_list n key)
    pub of_typed : (key : W.Key) → RunsOwnAndListed f store (the_typed key) (type_own key) [] (λ n. type_list n key)
    pub of_attribute : (a : W.Attr) → RunsOwnAndListed f store (the_attribute a) (attr_own a) (verifiers.attr_verifiers (kinds.attr_kind a)) (λ n. attr_list n a)
