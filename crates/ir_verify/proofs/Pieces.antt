-- What a part of a verification finds, put together from what smaller parts find.
use Rattle.std.proofs.Common.{◌⊎◌, ℕ, Option, Some, None, MatchOption, Result, Ok, Err, inl, inr}
use Rattle.ir_model.specs.Faults.{Fault, NoParent, MissingTerminator, TerminatorNotLast, EntryHasPred, OperandNotUseOfDef, Verifier, NamesBlock, Check, Checks}
use Rattle.ir_model.specs.Forest.{Dialect}
use Rattle.ir_model.specs.VerifyAnswers.{fault_of}
use Rattle.ir_verify.specs.declared.error.VerifyErr.{VerifyErr}
use Rattle.ir_verify.specs.Parts.{Finds, IsThere, MayTell, NoCheck, Tells}
use Rattle.ir_verify.specs.Told.{told}

module _ {W : Dialect} (checks : Checks W) where
  -- a fault that is there for a part is there for a larger one
  pub there-more : (F G : Fault → Type 0) (R S : Check W → Type 0) → ((x : Fault) → F x → G x) → ((c : Check W) → R c → S c) → (x : Fault) → IsThere checks F R x → IsThere checks G S x
  there-more F G R S faults runs (NoParent name) h = faults (NoParent name) h
  there-more F G R S faults runs (MissingTerminator name) h = faults (MissingTerminator name) h
  there-more F G R S faults runs (TerminatorNotLast name) h = faults (TerminatorNotLast name) h
  there-more F G R S faults runs (EntryHasPred name) h = faults (EntryHasPred name) h
  there-more F G R S faults runs OperandNotUseOfDef h = faults OperandNotUseOfDef h
  there-more F G R S faults runs (Verifier code) h = (h.0, runs h.0 h.1, h.2)

  -- what may be told of a part may be told of a larger one
  pub tell-more : (F G : Fault → Type 0) (R S : Check W → Type 0) → ((x : Fault) → F x → G x) → ((c : Check W) → R c → S c) → (o : Option Fault) → MayTell checks F R o → MayTell checks G S o
  tell-more F G R S faults runs (Some x) h = there-more F G R S faults runs x h
  tell-more F G R S faults runs None (inl h) = inl (h.0, h.1, there-more F G R S faults runs h.0 h.2)
  tell-more F G R S faults runs None (inr h) = inr (h.0, runs h.0 h.1, h.2)

  -- nothing is there for a part that two others make up, where nothing is there for these
  pub none-both : (F G H : Fault → Type 0) (R S T : Check W → Type 0) → ((x : Fault) → F x → G x ⊎ H x) → ((c : Check W) → R c → S c ⊎ T c)
      → ((x : Fault) → IsThere checks G S x → ⊥) → ((x : Fault) → IsThere checks H T x → ⊥) → (x : Fault) → IsThere checks F R x → ⊥
  none-both F G H R S T faults runs first second (NoParent name) h = elim (faults (NoParent name) h) [ inl k ↦ first (NoParent name) k | inr k ↦ second (NoParent name) k ]
  none-both F G H R S T faults runs first second (MissingTerminator name) h = elim (faults (MissingTerminator name) h) [ inl k ↦ first (MissingTerminator name) k | inr k ↦ second (MissingTerminator name) k ]
  none-both F G H R S T faults runs first second (TerminatorNotLast name) h = elim (faults (TerminatorNotLast name) h) [ inl k ↦ first (TerminatorNotLast name) k | inr k ↦ second (TerminatorNotLast name) k ]
  none-both F G H R S T faults runs first second (EntryHasPred name) h = elim (faults (EntryHasPred name) h) [ inl k ↦ first (EntryHasPred name) k | inr k ↦ second (EntryHasPred name) k ]
  none-both F G H R S T faults runs first second OperandNotUseOfDef h = elim (faults OperandNotUseOfDef h) [ inl k ↦ first OperandNotUseOfDef k | inr k ↦ second OperandNotUseOfDef k ]
  none-both F G H R S T faults runs first second (Verifier code) h = elim (runs h.0 h.1) [ inl k ↦ first (Verifier code) (h.0, k, h.2) | inr k ↦ second (Verifier code) (h.0, k, h.2) ]

  module _ (F : Fault → Type 0) (not : (code : ℕ) → F (Verifier code) → ⊥) where
    faulty-there : (x : Fault) → F x → IsThere checks F NoCheck x
    faulty-there (NoParent name) k = k
    faulty-there (MissingTerminator name) k = k
    faulty-there (TerminatorNotLast name) k = k
    faulty-there (EntryHasPred name) k = k
    faulty-there OperandNotUseOfDef k = k
    faulty-there (Verifier code) k = absurd (not code k)

    there-faulty : (x : Fault) → IsThere checks F NoCheck x → F x
    there-faulty (NoParent name) k = k
    there-faulty (MissingTerminator name) k = k
    there-faulty (TerminatorNotLast name) k = k
    there-faulty (EntryHasPred name) k = k
    there-faulty OperandNotUseOfDef k = k
    there-faulty (Verifier code) k = absurd k.1

    told-there : (o : Option Fault) → MatchOption o ((x : Fault) × NamesBlock x × F x) F → MayTell checks F NoCheck o
    told-there None k = inl (k.0, k.1, faulty-there k.0 k.2)
    told-there (Some x) k = faulty-there x k

    -- where only faults are looked for
    pub from-tells : (r : Result Unit VerifyErr) → Tells F r → Finds checks F NoCheck r
    from-tells (Ok u) clean = λ x h. clean x (there-faulty x h)
    from-tells (Err e) h = told-there (fault_of (told e)) h

  module _ (F G H : Fault → Type 0) (R S T : Check W → Type 0) (second_faults : (x : Fault) → H x → F x) (second_runs : (c : Check W) → T c → R c) where
    -- what a smaller part tells, a larger one may tell
    pub tells-whole : (e : VerifyErr) → Finds checks H T (Err e) → Finds checks F R (Err e)
    tells-whole e h = tell-more H F T R second_faults second_runs (fault_of (told e)) h

    -- a part ends with one of its two parts, where nothing is there for the other
    pub ends-with : ((x : Fault) → F x → G x ⊎ H x) → ((c : Check W) → R c → S c ⊎ T c) → ((x : Fault) → IsThere checks G S x → ⊥) → (r : Result Unit VerifyErr) → Finds checks H T r → Finds checks F R r
    ends-with faults runs first (Ok u) h = none-both F G H R S T faults runs first h
    ends-with faults runs first (Err e) h = tells-whole e h
