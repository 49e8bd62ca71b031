-- What the check of a number and an own check find, at an operation, an attribute and a type.
use Rattle.std.proofs.Common.{◌≡◌, ◌∙◌, ℕ, List, Some, Err, refl, sym, ap, subst, inl, inr}
use Rattle.std.specs.Option.{option_map}
use Rattle.std.proofs.lemmas.Option.{same_Some}
use Rattle.ir_model.specs.declared.ids.ArenaIndex.{ArenaIndex}
use Rattle.ir_model.specs.Calls.{kind_of}
use Rattle.ir_model.specs.ContextIds.{context_ids}
use Rattle.ir_model.specs.Edits.{StoredType, The}
use Rattle.ir_model.specs.Faults.{Fault, NoParent, MissingTerminator, TerminatorNotLast, EntryHasPred, OperandNotUseOfDef, Verifier, Check, op_list, op_own, attr_list, attr_own, type_list, type_own, Checks, the_attribute, the_type, IsRun}
use Rattle.ir_model.specs.Forest.{Dialect, Behaviour, Forest, OpRecord}
use Rattle.ir_model.specs.Kinds.{Kinds}
use Rattle.ir_model.specs.Nesting.{In}
use Rattle.ir_model.specs.Verifiers.{Verifiers, checks_of}
use Rattle.ir_core_records.specs.Found.{some_behind}
use Rattle.ir_verify.specs.declared.error.CheckErr.{CheckErr}
use Rattle.ir_verify.specs.declared.error.CheckErr.TheVariants.{Code, OutOfMemory}
use Rattle.ir_verify.specs.Parts.{Finds, FindsAt, IsThere, NoFault, RootFault, RunsOnOp}
use Rattle.ir_verify.specs.Told.{MayFail, MayPass, of_check}
use Rattle.ir_verify.proofs.Roots.{attribute-faultless, type-faultless}

module _ {W : Dialect} {S : Type 0} (f : Forest context_ids W) (v : Verifiers W S) (o : ArenaIndex) (n kind : ℕ) (is : kind_of f o ≡ Some kind) where
  -- the numbers that are listed for an operation are those of its kind
  pub kind-numbers : In n (v.op_verifiers kind) → The (f.ops o) λ r. In n (v.op_verifiers r.kind)
  kind-numbers h =
      let at = some_behind (λ (r : OpRecord context_ids W). r.kind) (f.ops o) kind is in
      record { value = at.0; found = at.1; holds = subst (λ k. In n (v.op_verifiers k)) (sym at.2) h }

  pub numbers-kind : (The (f.ops o) λ r. In n (v.op_verifiers r.kind)) → In n (v.op_verifiers kind)
  numbers-kind t =
      let e : Some t.value.kind ≡ Some kind = ap (option_map (λ (r : OpRecord context_ids W). r.kind)) (sym t.found) ∙ is in
      subst (λ k. In n (v.op_verifiers k)) (same_Some _ _ e) t.holds

module _ {W : Dialect} {S : Type 0} (B : Behaviour W) (f : Forest context_ids W) (store : List (StoredType W)) (K : Kinds W) (v : Verifiers W S) (state : S) where
  abbrev Given : Checks W
  Given = checks_of K v state

  -- ## A type
  module _ (key : W.Key) where
    type-passed : (code : ℕ) (c : Check W) → ((n : ℕ) → In n (v.type_verifiers (K.type_kind key)) → MayPass (v.type_interface n) key state) → MayPass v.type_itself key state
        → IsRun B f store Given (the_type key) c → Given.Stands c code → ⊥
    type-passed code (op_list n o) listed own run stands = run.0
    type-passed code (op_own o) listed own run stands = run
    type-passed code (attr_list n a) listed own run stands = run.0
    type-passed code (attr_own a) listed own run stands = run
    type-passed code (type_list n k) listed own run stands = listed n (subst (λ z. In n (v.type_verifiers (K.type_kind z))) (sym run.0) run.1) code (subst (λ z. (v.type_interface n).Code z state code) (sym run.0) stands)
    type-passed code (type_own k) listed own (inl e) stands = own code (subst (λ z. v.type_itself.Code z state code) (sym e) stands)
    type-passed code (type_own k) listed own (inr h) stands = h

    -- where all pass, nothing is there
    pub type-clean : ((n : ℕ) → In n (v.type_verifiers (K.type_kind key)) → MayPass (v.type_interface n) key state) → MayPass v.type_itself key state
        → (x : Fault) → IsThere Given (RootFault B f store Given (the_type key)) (IsRun B f store Given (the_type key)) x → ⊥
    type-clean listed own (NoParent name) h = type-faultless B f store Given key (NoParent name) h
    type-clean listed own (MissingTerminator name) h = type-faultless B f store Given key (MissingTerminator name) h
    type-clean listed own (TerminatorNotLast name) h = type-faultless B f store Given key (TerminatorNotLast name) h
    type-clean listed own (EntryHasPred name) h = type-faultless B f store Given key (EntryHasPred name) h
    type-clean listed own OperandNotUseOfDef h = type-faultless B f store Given key OperandNotUseOfDef h
    type-clean listed own (Verifier code) h = type-passed code h.0 listed own h.1 h.2

    pub type-listed : (n : ℕ) → In n (v.type_verifiers (K.type_kind key)) → (e : CheckErr) → MayFail (v.type_interface n) key state e → FindsAt B f store Given (the_type key) (Err (of_check e))
    type-listed n i (Code code) h = (type_list n key, (refl, i), h)
    type-listed n i OutOfMemory h = inr (type_list n key, (refl, i), h)

    pub type-itself : (e : CheckErr) → MayFail v.type_itself key state e → FindsAt B f store Given (the_type key) (Err (of_check e))
    type-itself (Code code) h = (type_own key, inl refl, h)
    type-itself OutOfMemory h = inr (type_own key, inl refl, h)

  -- ## An attribute
  module _ (a : W.Attr) where
    attr-passed : (code : ℕ) (c : Check W) → ((n : ℕ) → In n (v.attr_verifiers (K.attr_kind a)) → MayPass (v.attr_interface n) a state) → MayPass v.attr_itself a state
        → IsRun B f store Given (the_attribute a) c → Given.Stands c code → ⊥
    attr-passed code (op_list n o) listed own run stands = run.0
    attr-passed code (op_own o) listed own run stands = run
    attr-passed code (attr_list n k) listed own run stands = listed n (subst (λ z. In n (v.attr_verifiers (K.attr_kind z))) (sym run.0) run.1) code (subst (λ z. (v.attr_interface n).Code z state code) (sym run.0) stands)
    attr-passed code (attr_own k) listed own e stands = own code (subst (λ z. v.attr_itself.Code z state code) (sym e) stands)
    attr-passed code (type_list n k) listed own run stands = run.0
    attr-passed code (type_own k) listed own (inl h) stands = h
    attr-passed code (type_own k) listed own (inr h) stands = h

    pub attr-clean : ((n : ℕ) → In n (v.attr_verifiers (K.attr_kind a)) → MayPass (v.attr_interface n) a state) → MayPass v.attr_itself a state
        → (x : Fault) → IsThere Given (RootFault B f store Given (the_attribute a)) (IsRun B f store Given (the_attribute a)) x → ⊥
    attr-clean listed own (NoParent name) h = attribute-faultless B f store Given a (NoParent name) h
    attr-clean listed own (MissingTerminator name) h = attribute-faultless B f store Given a (MissingTerminator name) h
    attr-clean listed own (TerminatorNotLast name) h = attribute-faultless B f store Given a (TerminatorNotLast name) h
    attr-clean listed own (EntryHasPred name) h = attribute-faultless B f store Given a (EntryHasPred name) h
    attr-clean listed own OperandNotUseOfDef h = attribute-faultless B f store Given a OperandNotUseOfDef h
    attr-clean listed own (Verifier code) h = attr-passed code h.0 listed own h.1 h.2

    pub attr-listed : (n : ℕ) → In n (v.attr_verifiers (K.attr_kind a)) → (e : CheckErr) → MayFail (v.attr_interface n) a state e → FindsAt B f store Given (the_attribute a) (Err (of_check e))
    attr-listed n i (Code code) h = (attr_list n a, (refl, i), h)
    attr-listed n i OutOfMemory h = inr (attr_list n a, (refl, i), h)

    pub attr-itself : (e : CheckErr) → MayFail v.attr_itself a state e → FindsAt B f store Given (the_attribute a) (Err (of_check e))
    attr-itself (Code code) h = (attr_own a, refl, h)
    attr-itself OutOfMemory h = inr (attr_own a, refl, h)

  -- ## An operation
  module _ (o : ArenaIndex) where
    abbrev Numbers : ℕ → Type 0
    Numbers n = The (f.ops o) λ r. In n (v.op_verifiers r.kind)

    op-passed : (code : ℕ) (c : Check W) → ((n : ℕ) → Numbers n → MayPass (v.op_interface n) o state) → MayPass v.op_itself o state → RunsOnOp B f store Given o c → Given.Stands c code → ⊥
    op-passed code (op_list n p) listed own run stands = listed n run.1 code (subst (λ z. (v.op_interface n).Code z state code) (sym run.0) stands)
    op-passed code (op_own p) listed own e stands = own code (subst (λ z. v.op_itself.Code z state code) (sym e) stands)
    op-passed code (attr_list n a) listed own run stands = run
    op-passed code (attr_own a) listed own run stands = run
    op-passed code (type_list n k) listed own run stands = run
    op-passed code (type_own k) listed own run stands = run

    pub op-clean : ((n : ℕ) → Numbers n → MayPass (v.op_interface n) o state) → MayPass v.op_itself o state → (x : Fault) → IsThere Given NoFault (RunsOnOp B f store Given o) x → ⊥
    op-clean listed own (NoParent name) h = h
    op-clean listed own (MissingTerminator name) h = h
    op-clean listed own (TerminatorNotLast name) h = h
    op-clean listed own (EntryHasPred name) h = h
    op-clean listed own OperandNotUseOfDef h = h
    op-clean listed own (Verifier code) h = op-passed code h.0 listed own h.1 h.2

    pub op-listed : (n : ℕ) → Numbers n → (e : CheckErr) → MayFail (v.op_interface n) o state e → Finds Given NoFault (RunsOnOp B f store Given o) (Err (of_check e))
    op-listed n i (Code code) h = (op_list n o, (refl, i), h)
    op-listed n i OutOfMemory h = inr (op_list n o, (refl, i), h)

    pub op-itself : (e : CheckErr) → MayFail v.op_itself o state e → Finds Given NoFault (RunsOnOp B f store Given o) (Err (of_check e))
    op-itself (Code code) h = (op_own o, refl, h)
    op-itself OutOfMemory h = inr (op_own o, refl, h)
