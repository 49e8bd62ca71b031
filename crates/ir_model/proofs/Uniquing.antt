-- The stored types are apart, and each handle means one for good.
use mathlib.Core.Path.{◌≡◌, refl, sym, ap, ◌∙◌, subst}
use Rattle.std.proofs.Common.{ℕ, zero, suc, ◌<◌, ◌⊎◌, inl, inr, Bool, true, false, ◌||◌, Some, None, List, [], ◌∷◌, ◌++◌, cond, arith}
use Rattle.std.specs.List.{list_any}
use Rattle.std.specs.Prelude.{slice_get}
use Rattle.std.proofs.lemmas.Bool.{cases_eq, cases_lt}
use Rattle.ir_model.specs.Ids.{Ids, Fresh}
use Rattle.ir_model.specs.Forest.{Dialect, Behaviour, Forest}
use Rattle.ir_model.specs.Changes.{move_region}
use Rattle.ir_model.specs.Edits.{Edit, State, StoredType, Change, over, with_type, NewType, NewOp, NewBlock, AddRegion, PushResult, PushArgument, InsertResult, InsertArgument, RemoveResult, RemoveArgument, PushOperand, PushSuccessor, InsertOperand, InsertSuccessor, RemoveOperand, RemoveSuccessor, ReplaceOperand, ReplaceSuccessor, ReplaceAllUses, RetargetAll, OpFront, OpBack, OpBefore, OpAfter, UnlinkOp, UnlinkBlock, BlockFront, BlockBack, BlockBefore, BlockAfter, AppendOps, AppendBlocks, MoveRegion, DropOpUses, DropBlockUses, DropRegionUses, EraseOp, EraseBlock, EraseRegion}
use Rattle.ir_model.specs.declared.answer.Answer.{Answer}
use Rattle.ir_model.specs.Sessions.{Session, Step, condition, counter, slots, memory, made}
use Rattle.ir_model.specs.Uniquing.{Uniqued, RunsKeepUniqued, HandlesStay, OneHandle}

none_some : {A : Type 0} (x : A) → None ≡ Some x → ⊥
none_some x e = cc

less_or_not : (i j : ℕ) → (i < j) ⊎ ((i ≡ j) ⊎ (j < i))
less_or_not i j = elim (cases_eq i j) [ inl e ↦ inr (inl e) | inr n ↦ elim (cases_lt i j) [ inl h ↦ inl h | inr h ↦ inr (inr (omega arith)) ] ]

module _ {A : Type 0} where
  pub still_at : (xs ys : List A) (k : ℕ) (x : A) → slice_get xs k ≡ Some x → slice_get (xs ++ ys) k ≡ Some x
  still_at [] ys k x e = absurd cc
  still_at (y ∷ xs) ys zero x e = e
  still_at (y ∷ xs) ys (suc k) x e = still_at xs ys k x e

  -- an element of a list with one more is the last, or was there
  pub last_or_was : (xs : List A) (y : A) (k : ℕ) (x : A) → slice_get (xs ++ y ∷ []) k ≡ Some x → (x ≡ y) ⊎ (slice_get xs k ≡ Some x)
  last_or_was [] y zero x e = inl (let f : Some y ≡ Some x = e in let g : y ≡ x = cc in sym g)
  last_or_was [] y (suc k) x e = inr e
  last_or_was (z ∷ xs) y zero x e = inr e
  last_or_was (z ∷ xs) y (suc k) x e = last_or_was xs y k x e

  -- what stands before a place of a list with one more was there
  pub earlier : (xs : List A) (y : A) (i j : ℕ) (x z : A) → i < j → slice_get (xs ++ y ∷ []) i ≡ Some x → slice_get (xs ++ y ∷ []) j ≡ Some z → slice_get xs i ≡ Some x
  earlier [] y i zero x z h e f = absurd (omega arith)
  earlier [] y i (suc j) x z h e f = absurd (none_some z f)
  earlier (w ∷ xs) y zero j x z h e f = e
  earlier (w ∷ xs) y (suc i) zero x z h e f = absurd (omega arith)
  earlier (w ∷ xs) y (suc i) (suc j) x z h e f = earlier xs y i j x z (omega arith) e f

  pub none_passes : (p : A → Bool) (xs : List A) → list_any p xs ≡ false → (k : ℕ) (x : A) → slice_get xs k ≡ Some x → p x ≡ false
  none_passes p [] n k x e = absurd cc
  none_passes p (y ∷ xs) n k x e = by (λ m j. none_passes p xs m j x) (p y) refl n k e
    where
      by : (list_any p xs ≡ false → (j : ℕ) → slice_get xs j ≡ Some x → p x ≡ false) → (b : Bool) → p y ≡ b → (b || list_any p xs) ≡ false → (k : ℕ) → slice_get (y ∷ xs) k ≡ Some x → p x ≡ false
      by more true s m k e = absurd cc
      by more false s m zero e = (let f : Some y ≡ Some x = e in let g : y ≡ x = cc in subst (λ z. p z ≡ false) g s)
      by more false s m (suc k) e = more m k e

module _ {N : Ids} {W : Dialect} (B : Behaviour W) where
  same_store : (s : State N W) (f : Forest N W) (b : Bool) → (cond b s (over s f)).store ≡ s.store
  same_store s f true = refl
  same_store s f false = refl

  -- an edit leaves the stored types, or adds one where its key is new
  change_store : (edit : Edit W) (s t : State N W) (new : Fresh N) → Change B s edit new t → (t.store ≡ s.store) ⊎ ((key : W.Key) × (t.store ≡ with_type B s.store key))
  change_store (NewType key) s t new c = inr (key, ap (λ (x : State N W). x.store) c)
  change_store (NewOp kind types operands successors regions) s t new c = inl (ap (λ (x : State N W). x.store) c.holds)
  change_store (NewBlock label types) s t new c = inl (ap (λ (x : State N W). x.store) c.holds)
  change_store (AddRegion n) s t new c = inl (ap (λ (x : State N W). x.store) c.holds.holds)
  change_store (PushResult n ty) s t new c = inl (ap (λ (x : State N W). x.store) c.holds.holds.holds)
  change_store (PushArgument n ty) s t new c = inl (ap (λ (x : State N W). x.store) c.holds.holds.holds)
  change_store (InsertResult n at ty) s t new c = inl (ap (λ (x : State N W). x.store) c.holds.holds.holds)
  change_store (InsertArgument n at ty) s t new c = inl (ap (λ (x : State N W). x.store) c.holds.holds.holds)
  change_store (RemoveResult n at) s t new c = inl (ap (λ (x : State N W). x.store) c.holds)
  change_store (RemoveArgument n at) s t new c = inl (ap (λ (x : State N W). x.store) c.holds)
  change_store (PushOperand n v) s t new c = inl (ap (λ (x : State N W). x.store) c.holds.holds.holds)
  change_store (PushSuccessor n m) s t new c = inl (ap (λ (x : State N W). x.store) c.holds.holds.holds)
  change_store (InsertOperand n at v) s t new c = inl (ap (λ (x : State N W). x.store) c.holds.holds.holds)
  change_store (InsertSuccessor n at m) s t new c = inl (ap (λ (x : State N W). x.store) c.holds.holds.holds)
  change_store (RemoveOperand n at) s t new c = inl (ap (λ (x : State N W). x.store) c.holds)
  change_store (RemoveSuccessor n at) s t new c = inl (ap (λ (x : State N W). x.store) c.holds)
  change_store (ReplaceOperand n at v) s t new c = inl (ap (λ (x : State N W). x.store) c.holds.holds.holds)
  change_store (ReplaceSuccessor n at m) s t new c = inl (ap (λ (x : State N W). x.store) c.holds.holds.holds)
  change_store (ReplaceAllUses v w) s t new c = inl (ap (λ (x : State N W). x.store) c.holds.holds)
  change_store (RetargetAll n m) s t new c = inl (ap (λ (x : State N W). x.store) c.holds.holds)
  change_store (OpFront n m) s t new c = inl (ap (λ (x : State N W). x.store) c.holds.holds)
  change_store (OpBack n m) s t new c = inl (ap (λ (x : State N W). x.store) c.holds.holds)
  change_store (OpBefore n m) s t new c = inl (ap (λ (x : State N W). x.store) c.holds.holds)
  change_store (OpAfter n m) s t new c = inl (ap (λ (x : State N W). x.store) c.holds.holds)
  change_store (UnlinkOp n) s t new c = inl (ap (λ (x : State N W). x.store) c.holds)
  change_store (UnlinkBlock n) s t new c = inl (ap (λ (x : State N W). x.store) c.holds)
  change_store (BlockFront n m) s t new c = inl (ap (λ (x : State N W). x.store) c.holds.holds)
  change_store (BlockBack n m) s t new c = inl (ap (λ (x : State N W). x.store) c.holds.holds)
  change_store (BlockBefore n m) s t new c = inl (ap (λ (x : State N W). x.store) c.holds.holds)
  change_store (BlockAfter n m) s t new c = inl (ap (λ (x : State N W). x.store) c.holds.holds)
  change_store (AppendOps n m) s t new c = inl (ap (λ (x : State N W). x.store) c.holds.holds.holds)
  change_store (AppendBlocks n m) s t new c = inl (ap (λ (x : State N W). x.store) c.holds.holds.holds)
  change_store (MoveRegion n m) s t new c = inl (ap (λ (x : State N W). x.store) c.holds.holds.holds ∙ same_store s (move_region s.forest c.value c.holds.value) _)
  change_store (DropOpUses n) s t new c = inl (ap (λ (x : State N W). x.store) c.holds.1)
  change_store (DropBlockUses n) s t new c = inl (ap (λ (x : State N W). x.store) c.holds.1)
  change_store (DropRegionUses n) s t new c = inl (ap (λ (x : State N W). x.store) c.holds.1)
  change_store (EraseOp n) s t new c = inl (ap (λ (x : State N W). x.store) c.holds.1)
  change_store (EraseBlock n) s t new c = inl (ap (λ (x : State N W). x.store) c.holds.1)
  change_store (EraseRegion n at) s t new c = inl (ap (λ (x : State N W). x.store) c.holds.holds.holds.1)

module _ {W : Dialect} (B : Behaviour W) where
  abbrev Apart : List (StoredType W) → Type 0
  Apart store = (i j : ℕ) (x y : StoredType W) → i < j → slice_get store i ≡ Some x → slice_get store j ≡ Some y → B.same_key x.key y.key ≡ false

  -- a stored type with a new key is apart from the others
  with_apart : (store : List (StoredType W)) (key : W.Key) → Apart store → Apart (with_type B store key)
  with_apart store key apart = by (list_any (λ t. B.same_key t.key key) store) refl
    where
      by : (b : Bool) → list_any (λ t. B.same_key t.key key) store ≡ b → Apart (cond b store (store ++ record { key = key; body = B.first_body } ∷ []))
      by true n = apart
      by false n = λ i j x y h e f.
          let was = earlier store (record { key = key; body = B.first_body }) i j x y h e f in
          elim (last_or_was store (record { key = key; body = B.first_body }) j y f) [
            | inl s ↦ subst (λ (z : StoredType W). B.same_key x.key z.key ≡ false) (sym s) (none_passes (λ t. B.same_key t.key key) store n i x was)
            | inr g ↦ apart i j x y h was g
          ]

  with_still : (store : List (StoredType W)) (key : W.Key) (k : ℕ) (x : StoredType W) → slice_get store k ≡ Some x → slice_get (with_type B store key) k ≡ Some x
  with_still store key k x e = by (list_any (λ t. B.same_key t.key key) store)
    where
      by : (b : Bool) → slice_get (cond b store (store ++ record { key = key; body = B.first_body } ∷ [])) k ≡ Some x
      by true = e
      by false = still_at store (record { key = key; body = B.first_body } ∷ []) k x e

  -- what a step does to the stored types
  step_store : (edit : Edit W) (s t : Session W) (a : Answer) → Step B s edit a t → (t.state.store ≡ s.state.store) ⊎ ((key : W.Key) × (t.state.store ≡ with_type B s.state.store key))
  step_store edit s t a (condition c e f) = inl (ap (λ (x : Session W). x.state.store) f)
  step_store edit s t a (counter c n e k) = inl (ap (λ (x : State _ W). x.store) k.state)
  step_store edit s t a (slots c n m e k) = inl (ap (λ (x : State _ W). x.store) k.state)
  step_store edit s t a (memory c n m x e k) = inl (ap (λ (x : State _ W). x.store) k.state)
  step_store edit s t a (made c n m e k) = change_store B edit s.state t.state k.new k.change

  pub runs_keep_uniqued : RunsKeepUniqued W B
  runs_keep_uniqued [] s t answers u r = rw r.1 u
  runs_keep_uniqued (edit ∷ rest) s t answers u r = runs_keep_uniqued rest r.2 t r.1 (record {
    keys = elim (step_store edit s r.2 r.0 r.4) [
      | inl e ↦ subst Apart (sym e) u.keys
      | inr e ↦ subst Apart (sym e.1) (with_apart s.state.store e.0 u.keys)
    ];
  }) r.5

  pub handles_stay : HandlesStay W B
  handles_stay [] s t answers r k x e = rw r.1 e
  handles_stay (edit ∷ rest) s t answers r k x e = handles_stay rest r.2 t r.1 r.5 k x (elim (step_store edit s r.2 r.0 r.4) [
    | inl f ↦ subst (λ l. slice_get l k ≡ Some x) (sym f) e
    | inr f ↦ subst (λ l. slice_get l k ≡ Some x) (sym f.1) (with_still s.state.store f.0 k x e)
  ])

  pub one_handle : OneHandle W B
  one_handle symmetric edits s t answers n r i j x y e f same =
      let start : Uniqued B s = record { keys = λ i j x y h e f. absurd (none_some x (subst (λ l. slice_get l i ≡ Some x) n.store e)) } in
      let u = runs_keep_uniqued edits s t answers start r in
      by (less_or_not i j) u
    where
      by : (i < j) ⊎ ((i ≡ j) ⊎ (j < i)) → Uniqued B t → i ≡ j
      by (inl h) u = absurd (let g : B.same_key x.key y.key ≡ false = u.keys i j x y h e f in cc)
      by (inr (inl h)) u = h
      by (inr (inr h)) u = absurd (let g : B.same_key y.key x.key ≡ false = u.keys j i y x h f e in let k : B.same_key y.key x.key ≡ true = symmetric x.key y.key same in cc)
