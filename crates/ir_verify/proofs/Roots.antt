-- What a root's parts find, as the model says it of the root.
use Rattle.std.proofs.Common.{Option, Some, None, Result, Ok, Err, List, inl, inr, refl}
use Rattle.std.specs.Prelude.{IfErr, OnOk}
use Rattle.ir_model.specs.ContextIds.{context_ids}
use Rattle.ir_model.specs.Edits.{StoredType}
use Rattle.ir_model.specs.Faults.{Fault, NoParent, MissingTerminator, TerminatorNotLast, EntryHasPred, OperandNotUseOfDef, Verifier, Check, Checks, Root, the_attribute, the_type, the_value, IsRun, FaultStands}
use Rattle.ir_model.specs.Forest.{Dialect, Behaviour, Forest, Value}
use Rattle.ir_model.specs.VerifyAnswers.{AllIsWell, MayAnswer, Told, fault_of}
use Rattle.ir_verify.specs.declared.error.VerifyErr.{VerifyErr}
use Rattle.ir_verify.specs.Parts.{FindsAt, IsThere, MayTell, NoFault, RootFault}
use Rattle.ir_verify.specs.Told.{told}

module _ {W : Dialect} (B : Behaviour W) (f : Forest context_ids W) (store : List (StoredType W)) (checks : Checks W) where
  module _ (root : Root W) where
    abbrev There : Fault → Type 0
    There = IsThere checks (RootFault B f store checks root) (IsRun B f store checks root)

    stands-there : (x : Fault) → FaultStands B f store checks root x → There x
    stands-there (NoParent name) h = h
    stands-there (MissingTerminator name) h = h
    stands-there (TerminatorNotLast name) h = h
    stands-there (EntryHasPred name) h = h
    stands-there OperandNotUseOfDef h = h
    stands-there (Verifier code) h = h

    pub there-stands : (x : Fault) → There x → FaultStands B f store checks root x
    there-stands (NoParent name) h = h
    there-stands (MissingTerminator name) h = h
    there-stands (TerminatorNotLast name) h = h
    there-stands (EntryHasPred name) h = h
    there-stands OperandNotUseOfDef h = h
    there-stands (Verifier code) h = h

    tells : (o : Option Fault) → MayTell checks (RootFault B f store checks root) (IsRun B f store checks root) o → Told B f store checks root o
    tells (Some x) h = there-stands x h
    tells None (inl h) = inl (h.0, h.1, there-stands h.0 h.2)
    tells None (inr h) = inr h

    pub all-well : (r : Result Unit VerifyErr) → FindsAt B f store checks root r → OnOk r (AllIsWell B f store checks root)
    all-well (Ok u) h = λ x s. h x (stands-there x s)
    all-well (Err e) h = tt

    pub all-told : (r : Result Unit VerifyErr) → FindsAt B f store checks root r → IfErr r (λ e. MayAnswer B f store checks root (told e))
    all-told (Ok u) h = tt
    all-told (Err e) h = tells (fault_of (told e)) h

  -- at a type, an attribute and a value there are no faults but those of checks
  pub type-faultless : (key : W.Key) (x : Fault) → RootFault B f store checks (the_type key) x → NoFault x
  type-faultless key (NoParent name) h = h.1
  type-faultless key (MissingTerminator name) h = h.1
  type-faultless key (TerminatorNotLast name) h = h.2
  type-faultless key (EntryHasPred name) h = h.1
  type-faultless key OperandNotUseOfDef h = h.1
  type-faultless key (Verifier code) h = h

  pub attribute-faultless : (a : W.Attr) (x : Fault) → RootFault B f store checks (the_attribute a) x → NoFault x
  attribute-faultless a (NoParent name) h = h.1
  attribute-faultless a (MissingTerminator name) h = h.1
  attribute-faultless a (TerminatorNotLast name) h = h.2
  attribute-faultless a (EntryHasPred name) h = h.1
  attribute-faultless a OperandNotUseOfDef h = h.1
  attribute-faultless a (Verifier code) h = h

  pub value-faultless : (v : Value context_ids) (x : Fault) → RootFault B f store checks (the_value v) x → NoFault x
  value-faultless v (NoParent name) h = h.1
  value-faultless v (MissingTerminator name) h = h.1
  value-faultless v (TerminatorNotLast name) h = h.2
  value-faultless v (EntryHasPred name) h = h.1
  value-faultless v OperandNotUseOfDef h = h.1
  value-faultless v (Verifier code) h = h
