-- Runs, joined step by step, and what they keep.
use Rattle.std.proofs.Common.{◌≡◌, refl, ap, subst, ◌∙◌, cond, Bool, true, false, ℕ, List, [], ◌∷◌, ◌++◌, map, Some, Ok, Err, IfOk, Result}
use Rattle.std.specs.Prelude.{slice_get}
use Rattle.std.specs.List.{list_any}
use Rattle.ir_model.specs.declared.answer.Answer.{Answer}
use Rattle.ir_model.specs.ContextIds.{context_ids}
use Rattle.ir_model.specs.Forest.{Behaviour, Dialect, Forest}
use Rattle.ir_model.specs.Changes.{move_region}
use Rattle.ir_model.specs.Edits.{Edit as PlainEdit, over, with_type}
use Rattle.ir_model.specs.Sessions.{Session, Step, Run, condition, counter, slots, memory, made}
use Rattle.ir_model.specs.Soundness.{Sound}
use Rattle.ir_model.proofs.RefusedForGood.{erased_are_gone, gone_for_good}
use Rattle.ir_model.proofs.StepSound.{runs_sound}
use Rattle.ir_model.proofs.Uniquing.{still_at}
use Rattle.ir_run_edits.specs.declared.edit.Edit.{Edit}
use Rattle.ir_run_edits.specs.declared.edit.Edit.TheVariants.{AddRegion, AppendBlocks, AppendOps, BlockAfter, BlockBack, BlockBefore, BlockFront, DropBlockUses, DropOpUses, DropRegionUses, EraseBlock, EraseOp, EraseRegion, InsertArgument, InsertOperand, InsertResult, InsertSuccessor, MoveRegion, NewBlock, NewOp, NewType, OpAfter, OpBack, OpBefore, OpFront, PushArgument, PushOperand, PushResult, PushSuccessor, RemoveArgument, RemoveOperand, RemoveResult, RemoveSuccessor, ReplaceAllUses, ReplaceOperand, ReplaceSuccessor, RetargetAll, UnlinkBlock, UnlinkOp}
use Rattle.ir_core_records.specs.Meaning.{closed}
use Rattle.ir_run_sessions.specs.SessionEdits.{edit_of}
use Rattle.ir_run_sessions.specs.Headline.{GoneAtCuts, KeepsKeys}

module _ {W : Dialect} (B : Behaviour W) where
  pub run-more : (edits : List (PlainEdit W)) (s : Session W) (answers : List Answer) (t : Session W) (edit : PlainEdit W) (a : Answer) (u : Session W)
      → Run B s edits answers t → Step B t edit a u → Run B s (edits ++ edit ∷ []) (answers ++ a ∷ []) u
  run-more [] s answers t edit a u r st = (
    a,
    [],
    u,
    ap (λ xs. xs ++ a ∷ []) r.0,
    (let P : Session W → Type 0 = λ x. Step B x edit a u in subst P r.1 st),
    (refl, refl),
  )
  run-more (e ∷ edits) s answers t edit a u r st = (
    r.0,
    r.1 ++ a ∷ [],
    r.2,
    ap (λ xs. xs ++ a ∷ []) r.3,
    r.4,
    run-more edits r.2 r.1 t edit a u r.5 st,
  )

module _ {W : Dialect} (B : Behaviour W) where
  -- at each cut of a run of a sound session
  pub gone_at_cuts : (old : Session W) (edits : List (PlainEdit W)) (answers : List Answer) (new : Session W) → Sound old → Run B old edits answers new → GoneAtCuts B old edits answers new
  gone_at_cuts old edits answers new k run before between behind first middle last cut later e f p q r =
      let sound = runs_sound B before old cut first k p in
      (gone_for_good B between cut later middle sound q, erased_are_gone B between cut later middle sound q)

  -- and so where the answers were given
  pub answered_at_cuts : {V E : Type 0} (old : Session W) (edits : List (PlainEdit W)) (new : Session W) (answered : Result V E) (answers : V → List Answer)
      → IfOk answered (λ _. Sound old) → IfOk answered (λ a. Run B old edits (answers a) new) → IfOk answered (λ a. GoneAtCuts B old edits (answers a) new)
  answered_at_cuts old edits new (Ok a) answers k run = gone_at_cuts old edits (answers a) new k run
  answered_at_cuts old edits new (Err e) answers k run = tt

module _ {W : Dialect} where
  same_store : (s t : Session W) → t.state.store ≡ s.state.store → KeepsKeys s t
  same_store s t e = record { keys = λ k a h. (a, ap (λ xs. slice_get xs k) e ∙ h, refl) }

  same_either : (s t : Session W) (g : Forest context_ids W) (b : Bool) → t.state ≡ cond b s.state (over s.state g) → KeepsKeys s t
  same_either s t g true e = same_store s t (ap (λ x. x.store) e)
  same_either s t g false e = same_store s t (ap (λ x. x.store) e)

  more_store : (B : Behaviour W) (s t : Session W) (key : W.Key) → t.state.store ≡ with_type B s.state.store key → KeepsKeys s t
  more_store B s t key e = by (list_any (λ x. B.same_key x.key key) s.state.store) refl
    where
      by : (b : Bool) → list_any (λ x. B.same_key x.key key) s.state.store ≡ b → KeepsKeys s t
      by true is = same_store s t (e ∙ ap (λ b. cond b s.state.store (s.state.store ++ record { key = key; body = B.first_body } ∷ [])) is)
      by false is =
          let grown : t.state.store ≡ s.state.store ++ record { key = key; body = B.first_body } ∷ [] = e ∙ ap (λ b. cond b s.state.store (s.state.store ++ record { key = key; body = B.first_body } ∷ [])) is in
          record { keys = λ k a h. (a, ap (λ xs. slice_get xs k) grown ∙ still_at s.state.store (record { key = key; body = B.first_body } ∷ []) k a h, refl) }

  then_keys : (s t u : Session W) → KeepsKeys s t → KeepsKeys t u → KeepsKeys s u
  then_keys s t u a b = record { keys = λ k x h. (let y = a.keys k x h in let z = b.keys k y.0 y.1 in (z.0, z.1, z.2 ∙ y.2)) }

module _ {D A K B S X L : Type 0} (behave : Behaviour (closed A K B S X L)) where
  step_keys : (edit : Edit D A K B S X L) (s t : Session (closed A K B S X L)) (a : Answer) → Step behave s (edit_of edit) a t → KeepsKeys s t
  step_keys edit s t a (condition c e f) = same_store s t (ap (λ x. x.state.store) f)
  step_keys edit s t a (counter c n e k) = same_store s t (ap (λ x. x.store) k.state)
  step_keys edit s t a (slots c n m e k) = same_store s t (ap (λ x. x.store) k.state)
  step_keys edit s t a (memory c n m x e k) = same_store s t (ap (λ x. x.store) k.state)
  step_keys (NewType key) s t a (made c n m e k) = more_store behave s t key (ap (λ x. x.store) k.change)
  step_keys (NewOp kind types operands successors regions) s t a (made c n m e k) = same_store s t (ap (λ x. x.store) k.change.holds)
  step_keys (NewBlock label types) s t a (made c n m e k) = same_store s t (ap (λ x. x.store) k.change.holds)
  step_keys (AddRegion op) s t a (made c n m e k) = same_store s t (ap (λ x. x.store) k.change.holds.holds)
  step_keys (OpFront op block) s t a (made c n m e k) = same_store s t (ap (λ x. x.store) k.change.holds.holds)
  step_keys (OpBack op block) s t a (made c n m e k) = same_store s t (ap (λ x. x.store) k.change.holds.holds)
  step_keys (OpBefore op mark) s t a (made c n m e k) = same_store s t (ap (λ x. x.store) k.change.holds.holds)
  step_keys (OpAfter op mark) s t a (made c n m e k) = same_store s t (ap (λ x. x.store) k.change.holds.holds)
  step_keys (UnlinkOp op) s t a (made c n m e k) = same_store s t (ap (λ x. x.store) k.change.holds)
  step_keys (BlockFront block region) s t a (made c n m e k) = same_store s t (ap (λ x. x.store) k.change.holds.holds)
  step_keys (BlockBack block region) s t a (made c n m e k) = same_store s t (ap (λ x. x.store) k.change.holds.holds)
  step_keys (BlockBefore block mark) s t a (made c n m e k) = same_store s t (ap (λ x. x.store) k.change.holds.holds)
  step_keys (BlockAfter block mark) s t a (made c n m e k) = same_store s t (ap (λ x. x.store) k.change.holds.holds)
  step_keys (UnlinkBlock block) s t a (made c n m e k) = same_store s t (ap (λ x. x.store) k.change.holds)
  step_keys (AppendOps donee donor) s t a (made c n m e k) = same_store s t (ap (λ x. x.store) k.change.holds.holds.holds)
  step_keys (AppendBlocks donee donor) s t a (made c n m e k) = same_store s t (ap (λ x. x.store) k.change.holds.holds.holds)
  step_keys (MoveRegion region op) s t a (made c n m e k) = same_either s t (move_region s.state.forest k.change.value k.change.holds.value) _ k.change.holds.holds.holds
  step_keys (PushResult op ty) s t a (made c n m e k) = same_store s t (ap (λ x. x.store) k.change.holds.holds.holds)
  step_keys (InsertResult op at ty) s t a (made c n m e k) = same_store s t (ap (λ x. x.store) k.change.holds.holds.holds)
  step_keys (RemoveResult op at) s t a (made c n m e k) = same_store s t (ap (λ x. x.store) k.change.holds)
  step_keys (PushArgument block ty) s t a (made c n m e k) = same_store s t (ap (λ x. x.store) k.change.holds.holds.holds)
  step_keys (InsertArgument block at ty) s t a (made c n m e k) = same_store s t (ap (λ x. x.store) k.change.holds.holds.holds)
  step_keys (RemoveArgument block at) s t a (made c n m e k) = same_store s t (ap (λ x. x.store) k.change.holds)
  step_keys (PushOperand op value) s t a (made c n m e k) = same_store s t (ap (λ x. x.store) k.change.holds.holds.holds)
  step_keys (InsertOperand op at value) s t a (made c n m e k) = same_store s t (ap (λ x. x.store) k.change.holds.holds.holds)
  step_keys (RemoveOperand op at) s t a (made c n m e k) = same_store s t (ap (λ x. x.store) k.change.holds)
  step_keys (ReplaceOperand op at value) s t a (made c n m e k) = same_store s t (ap (λ x. x.store) k.change.holds.holds.holds)
  step_keys (PushSuccessor op block) s t a (made c n m e k) = same_store s t (ap (λ x. x.store) k.change.holds.holds.holds)
  step_keys (InsertSuccessor op at block) s t a (made c n m e k) = same_store s t (ap (λ x. x.store) k.change.holds.holds.holds)
  step_keys (RemoveSuccessor op at) s t a (made c n m e k) = same_store s t (ap (λ x. x.store) k.change.holds)
  step_keys (ReplaceSuccessor op at block) s t a (made c n m e k) = same_store s t (ap (λ x. x.store) k.change.holds.holds.holds)
  step_keys (ReplaceAllUses old new) s t a (made c n m e k) = same_store s t (ap (λ x. x.store) k.change.holds.holds)
  step_keys (RetargetAll old new) s t a (made c n m e k) = same_store s t (ap (λ x. x.store) k.change.holds.holds)
  step_keys (DropOpUses op) s t a (made c n m e k) = same_store s t (ap (λ x. x.store) k.change.holds.1)
  step_keys (DropBlockUses block) s t a (made c n m e k) = same_store s t (ap (λ x. x.store) k.change.holds.1)
  step_keys (DropRegionUses region) s t a (made c n m e k) = same_store s t (ap (λ x. x.store) k.change.holds.1)
  step_keys (EraseOp op) s t a (made c n m e k) = same_store s t (ap (λ x. x.store) k.change.holds.1)
  step_keys (EraseBlock block) s t a (made c n m e k) = same_store s t (ap (λ x. x.store) k.change.holds.1)
  step_keys (EraseRegion op at) s t a (made c n m e k) = same_store s t (ap (λ x. x.store) k.change.holds.holds.holds.1)

  pub run_keys : (edits : List (Edit D A K B S X L)) (s t : Session (closed A K B S X L)) (answers : List Answer) → Run behave s (map edit_of edits) answers t → KeepsKeys s t
  run_keys [] s t answers r = same_store s t (ap (λ x. x.state.store) r.1)
  run_keys (edit ∷ edits) s t answers r = then_keys s r.2 t (step_keys edit s r.2 r.0 r.4) (run_keys edits r.2 t r.1 r.5)
