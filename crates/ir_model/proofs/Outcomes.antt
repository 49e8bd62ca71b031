-- What an edit leaves is there, where its condition holds and its ids and numbers are there.
use mathlib.Core.Path.{◌≡◌, refl, ap}
use Rattle.std.proofs.Common.{◌⊎◌, inl, inr, Option, Some, None, List, [], ◌∷◌, length, IsSome, arith}
use Rattle.std.specs.Prelude.{slice_get}
use Rattle.std.specs.Option.{option_map}
use Rattle.ir_model.specs.Ids.{Fresh, Counts, counts}
use Rattle.ir_model.specs.ContextIds.{context_ids}
use Rattle.ir_model.specs.Forest.{Dialect, Behaviour, Entity, an_op, a_block, a_region, Forest}
use Rattle.ir_model.specs.Changes.{DropsUses, Removes, no_uses, unlist}
use Rattle.ir_model.specs.Edits.{Edit, State, The, Condition, Change, needs, over, NewType, NewOp, NewBlock, AddRegion, PushResult, PushArgument, InsertResult, InsertArgument, RemoveResult, RemoveArgument, PushOperand, PushSuccessor, InsertOperand, InsertSuccessor, RemoveOperand, RemoveSuccessor, ReplaceOperand, ReplaceSuccessor, ReplaceAllUses, RetargetAll, OpFront, OpBack, OpBefore, OpAfter, UnlinkOp, UnlinkBlock, BlockFront, BlockBack, BlockBefore, BlockAfter, AppendOps, AppendBlocks, MoveRegion, DropOpUses, DropBlockUses, DropRegionUses, EraseOp, EraseBlock, EraseRegion}
use Rattle.ir_model.specs.Sessions.{Session}
use Rattle.ir_model.specs.Soundness.{Sound}
use Rattle.ir_model.proofs.Conditions.{inside_so}
use Rattle.ir_model.proofs.Decided.{Decided}

-- the first where it is so, else the second
pick : {P A : Type 0} → Decided P → A → A → A
pick (inl h) a b = a
pick (inr h) a b = b

pick-yes : {P A : Type 0} (d : Decided P) (a b : A) → P → pick d a b ≡ a
unfolding pick
pick-yes (inl h) a b p = refl
pick-yes (inr h) a b p = absurd (h p)

pick-no : {P A : Type 0} (d : Decided P) (a b : A) → (P → ⊥) → pick d a b ≡ b
unfolding pick
pick-no (inl h) a b n = absurd (n h)
pick-no (inr h) a b n = refl

pick-either : {P A : Type 0} (d : Decided P) (a b : A) → (pick d a b ≡ b) ⊎ (pick d a b ≡ a)
unfolding pick
pick-either (inl h) a b = inr refl
pick-either (inr h) a b = inl refl

-- what is found for the condition is found for the change
now : {A S : Type 0} {m : Option A} {Q : A → Type 0} {P : A → S → Type 0} → The m Q → ((x : A) → Q x → (t : S) × P x t) → (t : S) × The m (λ x. P x t)
now c g = ((g c.value c.holds).0, record { value = c.value; found = c.found; holds = (g c.value c.holds).1 })

first_of : {A : Type 0} (xs : List A) → length xs ≡ 1 → The (slice_get xs 0) (λ _. Unit {0})
first_of [] e = absurd (omega (arith, e))
first_of (x ∷ xs) e = record { value = x; found = refl; holds = tt }

pub list_there : {A : Type 0} (m : Option A) → IsSome m → The m (λ _. Unit {0})
list_there None h = absurd cc
list_there (Some x) h = record { value = x; found = refl; holds = tt }

module _ {W : Dialect} (B : Behaviour W) (s : Session W) (k : Sound s) where
  abbrev f : Forest context_ids W
  f = s.state.forest

  abbrev Left : Entity context_ids → Forest context_ids W
  Left e = unlist e f

  -- the forest without what is inside e
  without_it : Entity context_ids → Forest context_ids W
  without_it e = record {
    ops = λ o. pick (inside_so s k e (an_op o)) None ((Left e).ops o);
    blocks = λ b. pick (inside_so s k e (a_block b)) None ((Left e).blocks b);
    regions = λ r. pick (inside_so s k e (a_region r)) None ((Left e).regions r);
  }

  pub removes_it : (e : Entity context_ids) → (g : Forest context_ids W) × Removes f e g
  unfolding without_it
  removes_it e = (
    without_it e,
    record {
      ops_inside = λ o h. pick-yes (inside_so s k e (an_op o)) None _ h;
      ops_outside = λ o h. pick-no (inside_so s k e (an_op o)) None _ h;
      blocks_inside = λ b h. pick-yes (inside_so s k e (a_block b)) None _ h;
      blocks_outside = λ b h. pick-no (inside_so s k e (a_block b)) None _ h;
      regions_inside = λ r h. pick-yes (inside_so s k e (a_region r)) None _ h;
      regions_outside = λ r h. pick-no (inside_so s k e (a_region r)) None _ h;
    },
  )

  drops_it : (e : Entity context_ids) → (g : Forest context_ids W) × DropsUses f e g
  drops_it e = (
    record f { ops = λ o. pick (inside_so s k e (an_op o)) (option_map no_uses (f.ops o)) (f.ops o) },
    record {
      inside = λ o h. pick-yes (inside_so s k e (an_op o)) _ _ h;
      outside = λ o h. pick-no (inside_so s k e (an_op o)) _ _ h;
      either = λ o. pick-either (inside_so s k e (an_op o)) _ _;
      blocks = refl;
      regions = refl;
    },
  )

  dropped : (e : Entity context_ids) → (t : State context_ids W) × (DropsUses f e t.forest × (t ≡ over s.state t.forest))
  dropped e = let d = drops_it e in (over s.state d.0, (d.1, refl))

  removed : (e : Entity context_ids) → (t : State context_ids W) × (Removes f e t.forest × (t ≡ over s.state t.forest))
  removed e = let d = removes_it e in (over s.state d.0, (d.1, refl))

  module _ (new : Fresh context_ids) where
    -- a state that the edit leaves
    pub change_is : (edit : Edit W) → Condition s.state edit → counts context_ids new ≡ needs edit → (t : State context_ids W) × Change B s.state edit new t
    change_is (NewType key) c n = (_, refl)
    change_is (NewOp kind types operands successors regions) c n = now (first_of new.ops (ap (λ (m : Counts). m.ops) n)) (λ o _. (_, refl))
    change_is (NewBlock label types) c n = now (first_of new.blocks (ap (λ (m : Counts). m.blocks) n)) (λ b _. (_, refl))
    change_is (AddRegion i) c n = now c (λ o _. now (first_of new.regions (ap (λ (m : Counts). m.regions) n)) (λ r _. (_, refl)))
    change_is (PushResult i ty) c n = now c.0 (λ o _. now c.1 (λ y _. now (first_of new.numbers (ap (λ (m : Counts). m.numbers) n)) (λ x _. (_, refl))))
    change_is (PushArgument i ty) c n = now c.0 (λ o _. now c.1 (λ y _. now (first_of new.numbers (ap (λ (m : Counts). m.numbers) n)) (λ x _. (_, refl))))
    change_is (InsertResult i at ty) c n = now c.0 (λ o _. now c.1 (λ y _. now (first_of new.numbers (ap (λ (m : Counts). m.numbers) n)) (λ x _. (_, refl))))
    change_is (InsertArgument i at ty) c n = now c.0 (λ o _. now c.1 (λ y _. now (first_of new.numbers (ap (λ (m : Counts). m.numbers) n)) (λ x _. (_, refl))))
    change_is (RemoveResult i at) c n = now c (λ o _. (_, refl))
    change_is (RemoveArgument i at) c n = now c (λ o _. (_, refl))
    change_is (PushOperand i v) c n = now c (λ o r. now r.holds (λ x _. now (first_of new.uses (ap (λ (m : Counts). m.uses) n)) (λ u _. (_, refl))))
    change_is (PushSuccessor i j) c n = now c (λ o r. now r.holds (λ x _. now (first_of new.uses (ap (λ (m : Counts). m.uses) n)) (λ u _. (_, refl))))
    change_is (InsertOperand i at v) c n = now c (λ o r. now r.holds (λ x _. now (first_of new.uses (ap (λ (m : Counts). m.uses) n)) (λ u _. (_, refl))))
    change_is (InsertSuccessor i at j) c n = now c (λ o r. now r.holds (λ x _. now (first_of new.uses (ap (λ (m : Counts). m.uses) n)) (λ u _. (_, refl))))
    change_is (RemoveOperand i at) c n = now c (λ o _. (_, refl))
    change_is (RemoveSuccessor i at) c n = now c (λ o _. (_, refl))
    change_is (ReplaceOperand i at v) c n = now c (λ o r. now r.holds (λ x _. now (first_of new.uses (ap (λ (m : Counts). m.uses) n)) (λ u _. (_, refl))))
    change_is (ReplaceSuccessor i at j) c n = now c (λ o r. now r.holds (λ x _. now (first_of new.uses (ap (λ (m : Counts). m.uses) n)) (λ u _. (_, refl))))
    change_is (ReplaceAllUses v w) c n = now c (λ x h. now h.1 (λ y _. (_, refl)))
    change_is (RetargetAll i j) c n = now c (λ b h. now h.holds (λ y _. (_, refl)))
    change_is (OpFront i j) c n = now c (λ o h. now h.holds (λ y _. (_, refl)))
    change_is (OpBack i j) c n = now c (λ o h. now h.holds (λ y _. (_, refl)))
    change_is (OpBefore i j) c n = now c (λ o h. now h.holds (λ y _. (_, refl)))
    change_is (OpAfter i j) c n = now c (λ o h. now h.holds (λ y _. (_, refl)))
    change_is (UnlinkOp i) c n = now c (λ o _. (_, refl))
    change_is (UnlinkBlock i) c n = now c (λ o _. (_, refl))
    change_is (BlockFront i j) c n = now c (λ o h. now h.holds (λ y _. (_, refl)))
    change_is (BlockBack i j) c n = now c (λ o h. now h.holds (λ y _. (_, refl)))
    change_is (BlockBefore i j) c n = now c (λ o h. now h.holds (λ y _. (_, refl)))
    change_is (BlockAfter i j) c n = now c (λ o h. now h.holds (λ y _. (_, refl)))
    change_is (AppendOps i j) c n = now c (λ b h. now h.holds (λ y g. now g (λ q _. (_, refl))))
    change_is (AppendBlocks i j) c n = now c (λ b h. now h.1 (λ y g. now (list_there (f.regions y) g.0) (λ q _. (_, refl))))
    change_is (MoveRegion i j) c n = now c (λ g h. now h.1 (λ o q. now q (λ r _. (_, refl))))
    change_is (DropOpUses i) c n = now c (λ o _. dropped (an_op o))
    change_is (DropBlockUses i) c n = now c (λ b _. dropped (a_block b))
    change_is (DropRegionUses i) c n = now c (λ r _. dropped (a_region r))
    change_is (EraseOp i) c n = now c (λ o _. removed (an_op o))
    change_is (EraseBlock i) c n = now c (λ b _. removed (a_block b))
    change_is (EraseRegion i at) c n = now c (λ o h. now h (λ r g. now g (λ x _. removed (a_region x))))
