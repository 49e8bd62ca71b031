-- What the own check of a type finds, which is all that is run for the handle of a type of one kind.
use Rattle.std.proofs.Common.{◌≡◌, ℕ, List, Err, inl, inr, refl, sym, subst}
use Rattle.ir_model.specs.ContextIds.{context_ids}
use Rattle.ir_model.specs.Edits.{StoredType}
use Rattle.ir_model.specs.Faults.{Fault, NoParent, MissingTerminator, TerminatorNotLast, EntryHasPred, OperandNotUseOfDef, Verifier, Check, op_list, op_own, attr_list, attr_own, type_list, type_own, Checks, the_typed, IsRun}
use Rattle.ir_model.specs.Forest.{Dialect, Behaviour, Forest}
use Rattle.ir_model.specs.Kinds.{Kinds}
use Rattle.ir_model.specs.Verifiers.{Verifiers, checks_of}
use Rattle.ir_verify.specs.declared.error.CheckErr.{CheckErr}
use Rattle.ir_verify.specs.declared.error.CheckErr.TheVariants.{Code, OutOfMemory}
use Rattle.ir_verify.specs.Parts.{FindsAt, IsThere, RootFault}
use Rattle.ir_verify.specs.Told.{MayFail, MayPass, of_check}

module _ {W : Dialect} {S : Type 0} (B : Behaviour W) (f : Forest context_ids W) (store : List (StoredType W)) (K : Kinds W) (v : Verifiers W S) (state : S) (key : W.Key) where
  abbrev Given : Checks W
  Given = checks_of K v state

  typed-passed : (code : ℕ) (c : Check W) → MayPass v.type_itself key state → IsRun B f store Given (the_typed key) c → Given.Stands c code → ⊥
  typed-passed code (op_list n o) own run stands = run.0
  typed-passed code (op_own o) own run stands = run
  typed-passed code (attr_list n a) own run stands = run.0
  typed-passed code (attr_own a) own run stands = run
  typed-passed code (type_list n k) own run stands = run.0
  typed-passed code (type_own k) own (inl h) stands = h
  typed-passed code (type_own k) own (inr e) stands = own code (subst (λ z. v.type_itself.Code z state code) (sym e) stands)

  -- where it passes, nothing is there
  pub typed-clean : MayPass v.type_itself key state → (x : Fault) → IsThere Given (RootFault B f store Given (the_typed key)) (IsRun B f store Given (the_typed key)) x → ⊥
  typed-clean own (NoParent name) h = h.1
  typed-clean own (MissingTerminator name) h = h.1
  typed-clean own (TerminatorNotLast name) h = h.2
  typed-clean own (EntryHasPred name) h = h.1
  typed-clean own OperandNotUseOfDef h = h.1
  typed-clean own (Verifier code) h = typed-passed code h.0 own h.1 h.2

  pub typed-itself : (e : CheckErr) → MayFail v.type_itself key state e → FindsAt B f store Given (the_typed key) (Err (of_check e))
  typed-itself (Code code) h = (type_own key, inr refl, h)
  typed-itself OutOfMemory h = inr (type_own key, inr refl, h)
