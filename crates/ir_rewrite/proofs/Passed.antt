-- What is said of an answer that is the fault that a check told.
use Rattle.std.proofs.Common.{◌≡◌, ◌⊎◌, refl, sym, ap, ◌∙◌, subst, inl, inr, true, false, List}
use Rattle.std.specs.Prelude.{Result, Ok, Err, IfErr, IsOk, OnErr}
use Rattle.ir_model.specs.declared.error.CoreError.{CoreError}
use Rattle.ir_model.specs.declared.error.CoreError.TheVariants.{OutOfMemory}
use Rattle.ir_model.specs.declared.ids.ArenaIndex.{ArenaIndex}
use Rattle.ir_model.specs.ContextIds.{context_ids}
use Rattle.ir_model.specs.Forest.{Dialect, Forest}
use Rattle.ir_checked_core.specs.declared.error.Call.{Call}
use Rattle.ir_checked_core.specs.declared.error.Call.TheVariants.{OperationErase}
use Rattle.ir_checked_core.specs.declared.error.CheckedErr.{CheckedErr}
use Rattle.ir_checked_core.specs.declared.error.CheckedErr.TheVariants.{Core, Unmet}
use Rattle.ir_checked_core.specs.declared.error.Unmet.{Unmet as Fault}
use Rattle.ir_checked_core.specs.Answers.{Made, OnRefused, OnUnmet, out_of_memory, own_answer, own_value}
use Rattle.ir_core_records.specs.declared.handles.Value.{Value}
use Rattle.ir_rewrite.specs.declared.point.InsertionPoint.{InsertionPoint}
use Rattle.ir_rewrite.specs.declared.point.InsertionPoint.TheVariants.{AfterOperation, AtBlockEnd, AtBlockStart, BeforeOperation}
use Rattle.ir_rewrite.specs.Answers.{EraseAnswers, InsertAnswers, InsertBesideAnswers, InsertIntoAnswers, MoveAnswers, ReplaceAnswers}

-- the same fault, or what is said last
kept : {A B X Y : Type 0} → (X → Y) → A ⊎ (B × X) → A ⊎ (B × Y)
kept k (inl h) = inl h
kept k (inr h) = inr (h.0, k h.1)

module _ (T : Type 0) {W : Dialect} (f : Forest context_ids W) (o : ArenaIndex) {D A K B S X L : Type 0} where
  -- a fault that a check of putting in tells is one of the call, which may be refused otherwise too
  pub insert_kept : (point : InsertionPoint D A K B S X L) (e : CheckedErr) → InsertAnswers {T = T} f point o own_value (Err e) → InsertAnswers {T = T} f point o own_answer (Err e)
  insert_kept (AtBlockStart b) e h = kept (kept (kept (kept (λ z. absurd z)))) h
  insert_kept (AtBlockEnd b) e h = kept (kept (kept (kept (λ z. absurd z)))) h
  insert_kept (BeforeOperation m) e h = kept (kept (kept (kept (kept (λ z. absurd z))))) h
  insert_kept (AfterOperation m) e h = kept (kept (kept (kept (kept (λ z. absurd z))))) h

module _ {T : Type 0} where
  -- a fault was told, so the call wasn't made; or what is said of the rest
  told : {A B X : Type 0} {u : Fault} (r : Result T CheckedErr) → (X → Made r (IsOk r)) → (A × (r ≡ Err (Unmet u))) ⊎ (B × X) → Made r (IsOk r)
  told r k (inl h) = subst (λ z. Made z (IsOk z)) (sym h.1) tt
  told r k (inr h) = k h.1

  last : (call : Call) (r : Result T CheckedErr) → own_value call r → Made r (IsOk r)
  last call (Ok x) h = refl
  last call (Err e) h = absurd h

  module _ {W : Dialect} (f : Forest context_ids W) (o : ArenaIndex) where
    -- each check tells a condition that doesn't hold, or that all hold
    pub into_told : (call : Call) (b : ArenaIndex) (r : Result T CheckedErr) → InsertIntoAnswers call f o b own_value r → Made r (IsOk r)
    into_told call b r h = told r (told r (told r (told r (last call r)))) h

    pub beside_told : (call : Call) (mark : ArenaIndex) (r : Result T CheckedErr) → InsertBesideAnswers call f o mark own_value r → Made r (IsOk r)
    beside_told call mark r h = told r (told r (told r (told r (told r (last call r))))) h

    pub move_told : (call : Call) (mark : ArenaIndex) (r : Result T CheckedErr) → MoveAnswers call f o mark own_value r → Made r (IsOk r)
    move_told call mark r h = told r (told r (told r (told r (told r (last call r))))) h

    pub erase_told : (r : Result T CheckedErr) → EraseAnswers f o own_value r → Made r (IsOk r)
    erase_told r h = told r (told r (last OperationErase r)) h

    pub replace_told : {D A K B S X L : Type 0} (values : List (Value D A K B S X L)) (r : Result T CheckedErr) → ReplaceAnswers f o values own_value r → Made r (IsOk r)
    replace_told values r h = told r (told r (told r (told r (told r (last OperationErase r))))) h

no_wonder : {A : Type 0} → false ≡ true → A
no_wonder e = absurd cc

-- what holds in any case, said of an answer
module _ {T : Type 0} {P : Type 0} where
  pub on_err : (r : Result T CheckedErr) → P → OnErr r P
  on_err (Ok x) p = tt
  on_err (Err e) p = p

  pub on_unmet : (r : Result T CheckedErr) → P → OnUnmet r P
  on_unmet (Ok x) p = tt
  on_unmet (Err (Core c)) p = tt
  on_unmet (Err (Unmet u)) p = p

  pub on_refused : (r : Result T CheckedErr) → P → OnRefused r P
  on_refused (Ok x) p = tt
  on_refused (Err (Core c)) p = p
  on_refused (Err (Unmet u)) p = tt

  pub on_made : (r : Result T CheckedErr) → P → Made r P
  on_made (Ok x) p = p
  on_made (Err (Core c)) p = p
  on_made (Err (Unmet u)) p = tt

-- what is said of the fault that is told
pub at_error : {T : Type 0} (X : CheckedErr → Type 0) (r : Result T CheckedErr) (e : CheckedErr) → r ≡ Err e → X e → IfErr r X
at_error X r e is x = subst (λ z. IfErr z X) (sym is) x

-- where the check of a call told the fault, the call wasn't refused for anything
pub passed_on : (T : Type 0) {U : Type 0} (e : CheckedErr) (r : Result U CheckedErr) → r ≡ Err e → Made {T = T} (Err e) (IsOk {T = T} {E = CheckedErr} (Err e)) → Made r (IfErr r (λ x. x ≡ out_of_memory))
passed_on T (Unmet u) r is h = subst (λ z. Made z (IfErr z (λ x. x ≡ out_of_memory))) (sym is) tt
passed_on T (Core c) r is h = no_wonder h

-- memory lacked, as a call of another error told
module _ {T : Type 0} (r : Result T CheckedErr) where
  pub lacked_as : (x : CoreError) → r ≡ Err (Core x) → x ≡ OutOfMemory → r ≡ Err out_of_memory
  lacked_as x is why = is ∙ ap (λ y. Err (Core y)) why

  pub lacked : r ≡ Err out_of_memory → IfErr r (λ x. x ≡ out_of_memory)
  lacked is = subst (λ z. IfErr z (λ x. x ≡ out_of_memory)) (sym is) refl

  pub made_lacked : r ≡ Err out_of_memory → Made r (IfErr r (λ x. x ≡ out_of_memory))
  made_lacked is = subst (λ z. Made z (IfErr z (λ x. x ≡ out_of_memory))) (sym is) refl

  pub not_unmet : (P : Type 0) → r ≡ Err out_of_memory → OnUnmet r P
  not_unmet P is = subst (λ z. OnUnmet z P) (sym is) tt
