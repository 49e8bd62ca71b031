-- What the checks of a type find under its handle, and of the types of results and arguments.
use Rattle.std.proofs.Common.{◌≡◌, ◌∙◌, ℕ, List, [], ◌∷◌, Some, Result, Ok, Err, map, refl, sym, ap, subst, inl, inr, slice_get}
use Rattle.std.specs.Prelude.{IfErr, OnOk}
use Rattle.std.specs.Option.{option_map}
use Rattle.std.proofs.lemmas.Option.{same_Some}
use Rattle.ir_model.specs.ContextIds.{context_ids}
use Rattle.ir_model.specs.Edits.{StoredType}
use Rattle.ir_model.specs.Faults.{Fault, NoParent, MissingTerminator, TerminatorNotLast, EntryHasPred, OperandNotUseOfDef, Verifier, Check, op_list, op_own, attr_list, attr_own, type_list, type_own, Checks, the_attribute, the_type, the_value, CountsType, HasKey, IsRun}
use Rattle.ir_model.specs.Forest.{Dialect, Behaviour, Forest, Definition, Value}
use Rattle.ir_model.specs.Ids.{Distinct}
use Rattle.ir_model.specs.Nesting.{In, WellFormed, definitions_of}
use Rattle.ir_model.proofs.Nests.{In-map, not_in-Absent}
use Rattle.ir_core_records.specs.Found.{some_behind}
use Rattle.ir_view_parts.specs.Values.{IsOfType}
use Rattle.ir_verify.specs.declared.error.VerifyErr.{VerifyErr}
use Rattle.ir_verify.specs.Parts.{Finds, FindsAt, IsThere, NoFault, RootFault, RunsOnAttributes, RunsOnHandle, RunsOnTypes}
use Rattle.ir_verify.proofs.Pieces.{tells-whole, there-more}
use Rattle.ir_verify.proofs.Roots.{attribute-faultless, type-faultless, value-faultless}

-- of an answer, where it is Ok or an error
pub on-ok : {X E : Type 0} (r : Result X E) (P Q : Type 0) → (P → Q) → OnOk r P → OnOk r Q
on-ok (Ok x) P Q by h = by h
on-ok (Err e) P Q by h = tt

pub if-err : {X E : Type 0} (r : Result X E) (P Q : E → Type 0) → ((e : E) → P e → Q e) → IfErr r P → IfErr r Q
if-err (Ok x) P Q by h = tt
if-err (Err e) P Q by h = by e h

module _ {W : Dialect} (B : Behaviour W) (f : Forest context_ids W) (store : List (StoredType W)) (checks : Checks W) where
  module _ (ty : ℕ) (key : W.Key) (is : option_map (λ (t : StoredType W). t.key) (slice_get store ty) ≡ Some key) where
    pub has-key : HasKey B f store ty key
    has-key = let at = some_behind (λ (t : StoredType W). t.key) (slice_get store ty) key is in record { value = at.0; found = at.1; holds = at.2 }

    -- a handle has one key
    pub one-key : (other : W.Key) → HasKey B f store ty other → other ≡ key
    one-key other h = sym h.holds ∙ same_Some _ _ (ap (option_map (λ (t : StoredType W). t.key)) (sym h.found) ∙ is)

    run-key : (c : Check W) → RunsOnHandle B f store checks ty c → IsRun B f store checks (the_type key) c
    run-key c h = subst (λ k. IsRun B f store checks (the_type k) c) (one-key h.0 h.1) h.2

    pub handle-finds : (r : Result Unit VerifyErr) → FindsAt B f store checks (the_type key) r → Finds checks NoFault (RunsOnHandle B f store checks ty) r
    handle-finds (Ok u) h = λ x k. h x (there-more checks NoFault (RootFault B f store checks (the_type key)) (RunsOnHandle B f store checks ty) (IsRun B f store checks (the_type key)) (λ y n. absurd n) run-key x k)
    handle-finds (Err e) h = tells-whole checks NoFault NoFault (RootFault B f store checks (the_type key)) (RunsOnHandle B f store checks ty) (IsRun B f store checks (the_type key)) (IsRun B f store checks (the_type key)) (type-faultless B f store checks key) (λ c run. (key, has-key, run)) e h

  -- the checks of nothing but items of a list: an error is one of theirs, and nothing is there where nothing is for each
  module _ {A : Type 0} (xs : List A) (Runs : A → Check W → Type 0) where
    abbrev pub RunsOnSome : Check W → Type 0
    RunsOnSome c = (x : A) × In x xs × Runs x c

    pub some-err : (x : A) → In x xs → (e : VerifyErr) → Finds checks NoFault (Runs x) (Err e) → Finds checks NoFault RunsOnSome (Err e)
    some-err x i e h = tells-whole checks NoFault NoFault NoFault RunsOnSome (Runs x) (Runs x) (λ y n. n) (λ c run. (x, i, run)) e h

    pub none-of : ((x : A) → In x xs → (y : Fault) → IsThere checks NoFault (Runs x) y → ⊥) → (y : Fault) → IsThere checks NoFault RunsOnSome y → ⊥
    none-of each (NoParent name) h = h
    none-of each (MissingTerminator name) h = h
    none-of each (TerminatorNotLast name) h = h
    none-of each (EntryHasPred name) h = h
    none-of each OperandNotUseOfDef h = h
    none-of each (Verifier code) h = each h.1.0 h.1.1 (Verifier code) (h.0, h.1.2, h.2)

  -- the checks of an attribute look for no fault of their own
  pub attribute-finds : (a : W.Attr) (r : Result Unit VerifyErr) → FindsAt B f store checks (the_attribute a) r → Finds checks NoFault (IsRun B f store checks (the_attribute a)) r
  attribute-finds a (Ok u) h = λ x k. h x (there-more checks NoFault (RootFault B f store checks (the_attribute a)) (IsRun B f store checks (the_attribute a)) (IsRun B f store checks (the_attribute a)) (λ y n. absurd n) (λ c run. run) x k)
  attribute-finds a (Err e) h = tells-whole checks NoFault NoFault (RootFault B f store checks (the_attribute a)) (IsRun B f store checks (the_attribute a)) (IsRun B f store checks (the_attribute a)) (IsRun B f store checks (the_attribute a)) (attribute-faultless B f store checks a) (λ c run. run) e h

-- of two definitions in a list whose numbers stand once, one number tells one
one-of : {W : Dialect} (xs : List (Definition context_ids W)) → Distinct (map (λ (x : Definition context_ids W). x.number) xs) → (x y : Definition context_ids W) → In x xs → In y xs → x.number ≡ y.number → x ≡ y
one-of [] d x y i j e = absurd i
one-of (z ∷ zs) d x y (inl i) (inl j) e = i ∙ sym j
one-of {W} (z ∷ zs) d x y (inl i) (inr j) e =
    absurd (not_in-Absent z.number (map (λ (q : Definition context_ids W). q.number) zs) d.0 (subst (λ n. In n (map (λ (q : Definition context_ids W). q.number) zs)) (sym e ∙ ap (λ (q : Definition context_ids W). q.number) i) (In-map (λ (q : Definition context_ids W). q.number) y zs j)))
one-of {W} (z ∷ zs) d x y (inr i) (inl j) e =
    absurd (not_in-Absent z.number (map (λ (q : Definition context_ids W). q.number) zs) d.0 (subst (λ n. In n (map (λ (q : Definition context_ids W). q.number) zs)) (e ∙ ap (λ (q : Definition context_ids W). q.number) j) (In-map (λ (q : Definition context_ids W). q.number) x zs i)))
one-of (z ∷ zs) d x y (inr i) (inr j) e = one-of zs d.1 x y i j e

module _ {W : Dialect} (B : Behaviour W) (f : Forest context_ids W) (store : List (StoredType W)) (checks : Checks W) (keys : ℕ) (formed : WellFormed f keys) (v : Value context_ids) (ty : ℕ) (has : IsOfType f v ty) (key : W.Key) (is : option_map (λ (t : StoredType W). t.key) (slice_get store ty) ≡ Some key) where
  value-key : (k : W.Key) → CountsType B f store (the_value v) k → key ≡ k
  value-key k h =
      let s : h.0 ≡ has.definition = one-of (definitions_of f v.definer) (formed.numbers_once v.definer) h.0 has.definition h.1 has.defined (h.2 ∙ sym has.number) in
      sym (one-key B f store checks ty key is k (subst (λ n. HasKey B f store n k) (ap (λ (x : Definition context_ids W). x.ty) s ∙ has.is) h.3))

  key-value : (k : W.Key) → key ≡ k → CountsType B f store (the_value v) k
  key-value k e = (has.definition, has.defined, has.number, subst (λ n. HasKey B f store n k) (sym has.is) (subst (HasKey B f store ty) e (has-key B f store checks ty key is)))

  value-run : (c : Check W) → IsRun B f store checks (the_value v) c → IsRun B f store checks (the_type key) c
  value-run (op_list n o) h = h
  value-run (op_own o) h = h
  value-run (attr_list n a) h = h
  value-run (attr_own a) h = h
  value-run (type_list n k) h = (value-key k h.0, h.1)
  value-run (type_own k) (inl h) = inl (value-key k h)
  value-run (type_own k) (inr h) = inr h

  run-value : (c : Check W) → IsRun B f store checks (the_type key) c → IsRun B f store checks (the_value v) c
  run-value (op_list n o) h = h
  run-value (op_own o) h = h
  run-value (attr_list n a) h = h
  run-value (attr_own a) h = h
  run-value (type_list n k) h = (key-value k h.0, h.1)
  run-value (type_own k) (inl h) = inl (key-value k h)
  run-value (type_own k) (inr h) = inr h

  -- what is found of the type of a value is found of the value
  pub value-finds : (r : Result Unit VerifyErr) → FindsAt B f store checks (the_type key) r → FindsAt B f store checks (the_value v) r
  value-finds (Ok u) h = λ x k. h x (there-more checks (RootFault B f store checks (the_value v)) (RootFault B f store checks (the_type key)) (IsRun B f store checks (the_value v)) (IsRun B f store checks (the_type key)) (λ y n. absurd (value-faultless B f store checks v y n)) value-run x k)
  value-finds (Err e) h = tells-whole checks (RootFault B f store checks (the_value v)) NoFault (RootFault B f store checks (the_type key)) (IsRun B f store checks (the_value v)) (IsRun B f store checks (the_type key)) (IsRun B f store checks (the_type key)) (λ y n. absurd (type-faultless B f store checks key y n)) run-value e h
