-- What verification tells, and what is run for handles and attributes.
use mathlib.Core.Path.{◌≡◌, refl, subst}
use Rattle.std.proofs.Common.{ℕ, inl, inr, Some, None, List, []}
use Rattle.std.specs.Prelude.{◌↔◌, IsTrue}
use Rattle.ir_model.specs.ContextIds.{context_ids}
use Rattle.ir_model.specs.Forest.{Dialect, Behaviour, Forest}
use Rattle.ir_model.specs.Nesting.{In}
use Rattle.ir_model.specs.Edits.{StoredType}
use Rattle.ir_model.specs.Faults.{Fault, NamesBlock, NoParent, MissingTerminator, TerminatorNotLast, EntryHasPred, OperandNotUseOfDef, Verifier, Root, the_type, the_typed, the_attribute, Check, op_list, op_own, attr_list, attr_own, type_list, type_own, FaultStands, IsRun}
use Rattle.ir_model.specs.Kinds.{Kinds}
use Rattle.ir_model.specs.Verifiers.{Verifiers, CodeStands, MemoryStands, checks_of}
use Rattle.ir_model.specs.VerifyAnswers.{VerifyErr, block_fault, missing_terminator, terminator_not_last, no_parent, entry_has_pred, operand_not_use_of_def, verifier_fault, out_of_memory, fault_of}
use Rattle.ir_model.specs.VerifierLaws.{FaultsAreTold, Tests, tested, TestsDecide, OwnOrListed, RunsOwnAndListed, KindsSettle}

-- the answer that tells the fault
abbrev pub told : Fault → VerifyErr
told (NoParent name) = block_fault no_parent name
told (MissingTerminator name) = block_fault missing_terminator name
told (TerminatorNotLast name) = block_fault terminator_not_last name
told (EntryHasPred name) = block_fault entry_has_pred name
told OperandNotUseOfDef = operand_not_use_of_def
told (Verifier code) = verifier_fault code

told_back : (fault : Fault) → fault_of (told fault) ≡ Some fault
told_back (NoParent name) = refl
told_back (MissingTerminator name) = refl
told_back (TerminatorNotLast name) = refl
told_back (EntryHasPred name) = refl
told_back OperandNotUseOfDef = refl
told_back (Verifier code) = refl

told_once : (fault : Fault) (other : VerifyErr) → fault_of other ≡ Some fault → other ≡ told fault
told_once fault (block_fault no_parent name) e = let q : NoParent name ≡ fault = cc in subst (λ x. block_fault no_parent name ≡ told x) q refl
told_once fault (block_fault missing_terminator name) e = let q : MissingTerminator name ≡ fault = cc in subst (λ x. block_fault missing_terminator name ≡ told x) q refl
told_once fault (block_fault terminator_not_last name) e = let q : TerminatorNotLast name ≡ fault = cc in subst (λ x. block_fault terminator_not_last name ≡ told x) q refl
told_once fault (block_fault entry_has_pred name) e = let q : EntryHasPred name ≡ fault = cc in subst (λ x. block_fault entry_has_pred name ≡ told x) q refl
told_once fault operand_not_use_of_def e = let q : OperandNotUseOfDef ≡ fault = cc in subst (λ x. operand_not_use_of_def ≡ told x) q refl
told_once fault (verifier_fault code) e = let q : Verifier code ≡ fault = cc in subst (λ x. verifier_fault code ≡ told x) q refl
told_once fault out_of_memory e = absurd cc

memory_alone : (err : VerifyErr) → fault_of err ≡ None → err ≡ out_of_memory
memory_alone (block_fault no_parent name) e = absurd cc
memory_alone (block_fault missing_terminator name) e = absurd cc
memory_alone (block_fault terminator_not_last name) e = absurd cc
memory_alone (block_fault entry_has_pred name) e = absurd cc
memory_alone operand_not_use_of_def e = absurd cc
memory_alone (verifier_fault code) e = absurd cc
memory_alone out_of_memory e = refl

pub faults_are_told : FaultsAreTold
faults_are_told = record { one = λ fault. (told fault, told_back fault, told_once fault); memory = memory_alone }

module _ {W : Dialect} {S : Type 0} (tests : Tests W S) (kinds : Kinds W) (state : S) where
  by_its_code : (check : Check W) (code : ℕ) → CodeStands kinds (tested tests) state check code ↔ IsTrue (tests.code check state code)
  by_its_code (op_list n o) code = (λ h. h, λ h. h)
  by_its_code (op_own o) code = (λ h. h, λ h. h)
  by_its_code (attr_list n a) code = (λ h. h, λ h. h)
  by_its_code (attr_own a) code = (λ h. h, λ h. h)
  by_its_code (type_list n key) code = (λ h. h, λ h. h)
  by_its_code (type_own key) code = (λ h. h, λ h. h)

  by_its_memory : (check : Check W) → MemoryStands kinds (tested tests) state check ↔ IsTrue (tests.memory check state)
  by_its_memory (op_list n o) = (λ h. h, λ h. h)
  by_its_memory (op_own o) = (λ h. h, λ h. h)
  by_its_memory (attr_list n a) = (λ h. h, λ h. h)
  by_its_memory (attr_own a) = (λ h. h, λ h. h)
  by_its_memory (type_list n key) = (λ h. h, λ h. h)
  by_its_memory (type_own key) = (λ h. h, λ h. h)

  pub tests_decide : TestsDecide tests kinds state
  tests_decide = record { told = by_its_code; memory = by_its_memory }

module _ {W : Dialect} {S : Type 0} (B : Behaviour W) (kinds : Kinds W) (verifiers : Verifiers W S) (state : S) (f : Forest context_ids W) (store : List (StoredType W)) where
  -- the checks that are run are the own one and those that are listed, and no fault names a block
  module _ (root : Root W) (own : Check W) (numbers : List ℕ) (listed : ℕ → Check W)
      (there : (c : Check W) → IsRun B f store (checks_of kinds verifiers state) root c → OwnOrListed B kinds verifiers state (λ d. c ≡ d) own numbers listed)
      (own_back : IsRun B f store (checks_of kinds verifiers state) root own)
      (back : (n : ℕ) → In n numbers → IsRun B f store (checks_of kinds verifiers state) root (listed n))
      (quiet : (x : Fault) → NamesBlock x → FaultStands B f store (checks_of kinds verifiers state) root x → ⊥) where
    -- a check that is run and has P
    split : (P : Check W → Type 0) → (c : Check W) × IsRun B f store (checks_of kinds verifiers state) root c × P c → OwnOrListed B kinds verifiers state P own numbers listed
    split P h = elim (there h.0 h.1) [
      | inl e ↦ inl (subst P e h.2)
      | inr at ↦ inr (at.0, at.1, subst P at.2 h.2)
    ]

    join : (P : Check W → Type 0) → OwnOrListed B kinds verifiers state P own numbers listed → (c : Check W) × IsRun B f store (checks_of kinds verifiers state) root c × P c
    join P (inl p) = (own, own_back, p)
    join P (inr h) = (listed h.0, back h.0 h.1, h.2)

    runs_own : RunsOwnAndListed B kinds verifiers state f store root own numbers listed
    runs_own = record {
      told = λ code. (split (λ c. CodeStands kinds verifiers state c code), join (λ c. CodeStands kinds verifiers state c code));
      memory = (λ h. elim h [ inl x ↦ absurd (quiet x.0 x.1 x.2) | inr x ↦ split (MemoryStands kinds verifiers state) x ], λ h. inr (join (MemoryStands kinds verifiers state) h));
    }

  quiet_type : (key : W.Key) (x : Fault) → NamesBlock x → FaultStands B f store (checks_of kinds verifiers state) (the_type key) x → ⊥
  quiet_type key (NoParent name) n h = h.1
  quiet_type key (MissingTerminator name) n h = h.1
  quiet_type key (TerminatorNotLast name) n h = h.2
  quiet_type key (EntryHasPred name) n h = h.1
  quiet_type key OperandNotUseOfDef n h = n
  quiet_type key (Verifier code) n h = n

  quiet_typed : (key : W.Key) (x : Fault) → NamesBlock x → FaultStands B f store (checks_of kinds verifiers state) (the_typed key) x → ⊥
  quiet_typed key (NoParent name) n h = h.1
  quiet_typed key (MissingTerminator name) n h = h.1
  quiet_typed key (TerminatorNotLast name) n h = h.2
  quiet_typed key (EntryHasPred name) n h = h.1
  quiet_typed key OperandNotUseOfDef n h = n
  quiet_typed key (Verifier code) n h = n

  quiet_attribute : (a : W.Attr) (x : Fault) → NamesBlock x → FaultStands B f store (checks_of kinds verifiers state) (the_attribute a) x → ⊥
  quiet_attribute a (NoParent name) n h = h.1
  quiet_attribute a (MissingTerminator name) n h = h.1
  quiet_attribute a (TerminatorNotLast name) n h = h.2
  quiet_attribute a (EntryHasPred name) n h = h.1
  quiet_attribute a OperandNotUseOfDef n h = n
  quiet_attribute a (Verifier code) n h = n

  of_type : (key : W.Key) → RunsOwnAndListed B kinds verifiers state f store (the_type key) (type_own key) (verifiers.type_verifiers (kinds.type_kind key)) (λ n. type_list n key)
  of_type key = runs_own (the_type key) (type_own key) (verifiers.type_verifiers (kinds.type_kind key)) (λ n. type_list n key) there (inl refl) (λ n h. (refl, h)) (quiet_type key)
    where
      there : (c : Check W) → IsRun B f store (checks_of kinds verifiers state) (the_type key) c → OwnOrListed B kinds verifiers state (λ d. c ≡ d) (type_own key) (verifiers.type_verifiers (kinds.type_kind key)) (λ n. type_list n key)
      there (op_list n o) h = absurd h.0
      there (op_own o) h = absurd h
      there (attr_list n a) h = absurd h.0
      there (attr_own a) h = absurd h
      there (type_list n k) h = subst (λ k. In n (verifiers.type_verifiers (kinds.type_kind k)) → OwnOrListed B kinds verifiers state (λ d. ◌≡◌ {A = Check W} (type_list n k) d) (type_own key) (verifiers.type_verifiers (kinds.type_kind key)) (λ m. type_list m key)) h.0 (λ i. inr (n, i, refl)) h.1
      there (type_own k) (inl h) = inl (subst (λ k. ◌≡◌ {A = Check W} (type_own k) (type_own key)) h refl)
      there (type_own k) (inr h) = absurd h

  of_typed : (key : W.Key) → RunsOwnAndListed B kinds verifiers state f store (the_typed key) (type_own key) [] (λ n. type_list n key)
  of_typed key = runs_own (the_typed key) (type_own key) [] (λ n. type_list n key) there (inr refl) (λ n h. elim h [ ]) (quiet_typed key)
    where
      there : (c : Check W) → IsRun B f store (checks_of kinds verifiers state) (the_typed key) c → OwnOrListed B kinds verifiers state (λ d. c ≡ d) (type_own key) [] (λ n. type_list n key)
      there (op_list n o) h = absurd h.0
      there (op_own o) h = absurd h
      there (attr_list n a) h = absurd h.0
      there (attr_own a) h = absurd h
      there (type_list n k) h = absurd h.0
      there (type_own k) (inl h) = absurd h
      there (type_own k) (inr h) = inl (subst (λ k. ◌≡◌ {A = Check W} (type_own k) (type_own key)) h refl)

  of_attribute : (a : W.Attr) → RunsOwnAndListed B kinds verifiers state f store (the_attribute a) (attr_own a) (verifiers.attr_verifiers (kinds.attr_kind a)) (λ n. attr_list n a)
  of_attribute a = runs_own (the_attribute a) (attr_own a) (verifiers.attr_verifiers (kinds.attr_kind a)) (λ n. attr_list n a) there refl (λ n h. (refl, h)) (quiet_attribute a)
    where
      there : (c : Check W) → IsRun B f store (checks_of kinds verifiers state) (the_attribute a) c → OwnOrListed B kinds verifiers state (λ d. c ≡ d) (attr_own a) (verifiers.attr_verifiers (kinds.attr_kind a)) (λ n. attr_list n a)
      there (op_list n o) h = absurd h.0
      there (op_own o) h = absurd h
      there (attr_list n b) h = subst (λ b. In n (verifiers.attr_verifiers (kinds.attr_kind b)) → OwnOrListed B kinds verifiers state (λ d. ◌≡◌ {A = Check W} (attr_list n b) d) (attr_own a) (verifiers.attr_verifiers (kinds.attr_kind a)) (λ m. attr_list m a)) h.0 (λ i. inr (n, i, refl)) h.1
      there (attr_own b) h = inl (subst (λ b. ◌≡◌ {A = Check W} (attr_own b) (attr_own a)) h refl)
      there (type_list n k) h = absurd h.0
      there (type_own k) (inl h) = absurd h
      there (type_own k) (inr h) = absurd h

  pub kinds_settle : KindsSettle B kinds verifiers state f store
  kinds_settle = record { of_type = of_type; of_typed = of_typed; of_attribute = of_attribute }
