-- Edits that name what is gone are refused for good.
use mathlib.Core.Path.{◌≡◌, refl, sym, ap, ◌∙◌, subst}
use Rattle.std.proofs.Common.{ℕ, inl, inr, Bool, true, false, Option, Some, List, [], ◌∷◌, ◌++◌, map, cond, is_some}
use Rattle.std.specs.Prelude.{slice_get}
use Rattle.ir_model.specs.Ids.{Ids, Fresh, Distinct}
use Rattle.ir_model.specs.ContextIds.{context_ids}
use Rattle.ir_model.specs.Forest.{Dialect, Behaviour, Definer, of_op, of_block, Value, Forest, a_value}
use Rattle.ir_model.specs.Nesting.{In, IsLiveNamed}
use Rattle.ir_model.specs.Changes.{move_region}
use Rattle.ir_model.specs.Edits.{Edit, State, Tables, The, Each, Condition, Change, over, numbered, NewType, NewOp, NewBlock, AddRegion, PushResult, PushArgument, InsertResult, InsertArgument, RemoveResult, RemoveArgument, PushOperand, PushSuccessor, InsertOperand, InsertSuccessor, RemoveOperand, RemoveSuccessor, ReplaceOperand, ReplaceSuccessor, ReplaceAllUses, RetargetAll, OpFront, OpBack, OpBefore, OpAfter, UnlinkOp, UnlinkBlock, BlockFront, BlockBack, BlockBefore, BlockAfter, AppendOps, AppendBlocks, MoveRegion, DropOpUses, DropBlockUses, DropRegionUses, EraseOp, EraseBlock, EraseRegion}
use Rattle.ir_model.specs.declared.answer.Answer.{Answer}
use Rattle.ir_model.specs.declared.ids.ArenaIndex.{ArenaIndex}
use Rattle.ir_model.specs.Sessions.{Session, Step, condition, counter, slots, memory, made, Run}
use Rattle.ir_model.specs.Soundness.{Sound}
use Rattle.ir_model.specs.NamesDead.{mentions, NamesDead, a_dead_op, a_dead_block, a_dead_region, a_dead_value, DeadAreRefused}
use Rattle.ir_model.proofs.Found.{holds_of}
use Rattle.ir_model.proofs.Nests.{In-map, not_in-Absent}
use Rattle.ir_model.proofs.GrowsNew.{append_none}
use Rattle.ir_model.proofs.Back.{slice_get-in}
use Rattle.ir_model.proofs.Uniquing.{still_at}
use Rattle.ir_model.proofs.RefusedForGood.{gone_for_good}

-- two elements of a list with one number are one, where no two have the same
same_numbered : {A B : Type 0} (f : A → B) (xs : List A) → Distinct (map f xs) → (x y : A) → In x xs → In y xs → f x ≡ f y → x ≡ y
same_numbered f [] d x y h k e = elim h [ ]
same_numbered f (z ∷ xs) d x y (inl h) (inl k) e = h ∙ sym k
same_numbered f (z ∷ xs) d x y (inl h) (inr k) e = absurd (not_in-Absent (f z) (map f xs) d.0 (subst (λ n. In n (map f xs)) (sym e ∙ ap f h) (In-map f y xs k)))
same_numbered f (z ∷ xs) d x y (inr h) (inl k) e = absurd (not_in-Absent (f z) (map f xs) d.0 (subst (λ n. In n (map f xs)) (e ∙ ap f k) (In-map f x xs h)))
same_numbered f (z ∷ xs) d x y (inr h) (inr k) e = same_numbered f xs d.1 x y h k e

-- each is found in the table, and P holds of it
each_found : {A : Type 0} (P : A → Type 0) (table : List A) (ns : List ℕ) (n : ℕ) → Each (λ k. The (slice_get table k) P) ns → In n ns → The (slice_get table n) P
each_found P table [] n c h = elim h [ ]
each_found P table (k ∷ ns) n c (inl e) = subst (λ j. The (slice_get table j) P) (sym e) c.0
each_found P table (k ∷ ns) n c (inr h) = each_found P table ns n c.1 h

weaker : {A : Type 0} {m : Option A} {P Q : A → Type 0} → ((x : A) → P x → Q x) → The m P → The m Q
weaker f t = record { value = t.value; found = t.found; holds = f t.value t.holds }

none_behind : {A : Type 0} (xs : List A) → xs ≡ xs ++ []
none_behind xs = append_none xs [] refl

module _ {N : Ids} where
  -- the tables with more behind
  pub record Extends (a b : Tables N) : Type 0 where
    pub more_ops : List N.Op
    pub more_blocks : List N.Block
    pub more_regions : List N.Region
    pub more_values : List (Value N)
    pub ops : b.ops ≡ a.ops ++ more_ops
    pub blocks : b.blocks ≡ a.blocks ++ more_blocks
    pub regions : b.regions ≡ a.regions ++ more_regions
    pub values : b.values ≡ a.values ++ more_values

  same_tables : (a : Tables N) → Extends a a
  same_tables a = record {
    more_ops = [];
    more_blocks = [];
    more_regions = [];
    more_values = [];
    ops = none_behind a.ops;
    blocks = none_behind a.blocks;
    regions = none_behind a.regions;
    values = none_behind a.values;
  }

module _ {N : Ids} {W : Dialect} (B : Behaviour W) where
  over_or_not : (s : State N W) (f : Forest N W) (b : Bool) → (cond b s (over s f)).tables ≡ s.tables
  over_or_not s f true = refl
  over_or_not s f false = refl

  unchanged : (s t : State N W) → t.tables ≡ s.tables → Extends s.tables t.tables
  unchanged s t e = subst (λ x. Extends s.tables x) (sym e) (same_tables s.tables)

  grown : (s t : State N W) (g : Tables N) → t.tables ≡ g → Extends s.tables g → Extends s.tables t.tables
  grown s t g e x = subst (λ y. Extends s.tables y) (sym e) x

  one_value : (s t : State N W) (d : Definer N) (n : N.ValueNumber) → t.tables ≡ record (s.tables) { values = s.tables.values ++ record { definer = d; number = n } ∷ [] } → Extends s.tables t.tables
  one_value s t d n e = grown s t _ e (record {
    more_ops = [];
    more_blocks = [];
    more_regions = [];
    more_values = record { definer = d; number = n } ∷ [];
    ops = none_behind s.tables.ops;
    blocks = none_behind s.tables.blocks;
    regions = none_behind s.tables.regions;
    values = refl;
  })

  unchanged_but_types : (s t : State N W) (types : List ℕ) → t.tables ≡ record (s.tables) { types = types } → Extends s.tables t.tables
  unchanged_but_types s t types e = grown s t _ e (record {
    more_ops = [];
    more_blocks = [];
    more_regions = [];
    more_values = [];
    ops = none_behind s.tables.ops;
    blocks = none_behind s.tables.blocks;
    regions = none_behind s.tables.regions;
    values = none_behind s.tables.values;
  })

  -- no edit takes anything out of the tables
  change_tables : (edit : Edit W) (s t : State N W) (new : Fresh N) → Change B s edit new t → Extends s.tables t.tables
  change_tables (NewType key) s t new c = unchanged_but_types s t _ (ap (λ (x : State N W). x.tables) c)
  change_tables (NewOp kind types operands successors regions) s t new c = grown s t _ (ap (λ (x : State N W). x.tables) c.holds) (record { more_ops = c.value ∷ []; more_blocks = []; more_regions = new.regions; more_values = numbered (of_op c.value) new.numbers; ops = refl; blocks = none_behind s.tables.blocks; regions = refl; values = refl })
  change_tables (NewBlock label types) s t new c = grown s t _ (ap (λ (x : State N W). x.tables) c.holds) (record { more_ops = []; more_blocks = c.value ∷ []; more_regions = []; more_values = numbered (of_block c.value) new.numbers; ops = none_behind s.tables.ops; blocks = refl; regions = none_behind s.tables.regions; values = refl })
  change_tables (AddRegion n) s t new c = grown s t _ (ap (λ (x : State N W). x.tables) c.holds.holds) (record { more_ops = []; more_blocks = []; more_regions = c.holds.value ∷ []; more_values = []; ops = none_behind s.tables.ops; blocks = none_behind s.tables.blocks; regions = refl; values = none_behind s.tables.values })
  change_tables (PushResult n ty) s t new c = one_value s t (of_op c.value) c.holds.holds.value (ap (λ (x : State N W). x.tables) c.holds.holds.holds)
  change_tables (PushArgument n ty) s t new c = one_value s t (of_block c.value) c.holds.holds.value (ap (λ (x : State N W). x.tables) c.holds.holds.holds)
  change_tables (InsertResult n at ty) s t new c = one_value s t (of_op c.value) c.holds.holds.value (ap (λ (x : State N W). x.tables) c.holds.holds.holds)
  change_tables (InsertArgument n at ty) s t new c = one_value s t (of_block c.value) c.holds.holds.value (ap (λ (x : State N W). x.tables) c.holds.holds.holds)
  change_tables (RemoveResult n at) s t new c = unchanged s t (ap (λ (x : State N W). x.tables) c.holds)
  change_tables (RemoveArgument n at) s t new c = unchanged s t (ap (λ (x : State N W). x.tables) c.holds)
  change_tables (PushOperand n v) s t new c = unchanged s t (ap (λ (x : State N W). x.tables) c.holds.holds.holds)
  change_tables (PushSuccessor n m) s t new c = unchanged s t (ap (λ (x : State N W). x.tables) c.holds.holds.holds)
  change_tables (InsertOperand n at v) s t new c = unchanged s t (ap (λ (x : State N W). x.tables) c.holds.holds.holds)
  change_tables (InsertSuccessor n at m) s t new c = unchanged s t (ap (λ (x : State N W). x.tables) c.holds.holds.holds)
  change_tables (RemoveOperand n at) s t new c = unchanged s t (ap (λ (x : State N W). x.tables) c.holds)
  change_tables (RemoveSuccessor n at) s t new c = unchanged s t (ap (λ (x : State N W). x.tables) c.holds)
  change_tables (ReplaceOperand n at v) s t new c = unchanged s t (ap (λ (x : State N W). x.tables) c.holds.holds.holds)
  change_tables (ReplaceSuccessor n at m) s t new c = unchanged s t (ap (λ (x : State N W). x.tables) c.holds.holds.holds)
  change_tables (ReplaceAllUses v w) s t new c = unchanged s t (ap (λ (x : State N W). x.tables) c.holds.holds)
  change_tables (RetargetAll n m) s t new c = unchanged s t (ap (λ (x : State N W). x.tables) c.holds.holds)
  change_tables (OpFront n m) s t new c = unchanged s t (ap (λ (x : State N W). x.tables) c.holds.holds)
  change_tables (OpBack n m) s t new c = unchanged s t (ap (λ (x : State N W). x.tables) c.holds.holds)
  change_tables (OpBefore n m) s t new c = unchanged s t (ap (λ (x : State N W). x.tables) c.holds.holds)
  change_tables (OpAfter n m) s t new c = unchanged s t (ap (λ (x : State N W). x.tables) c.holds.holds)
  change_tables (UnlinkOp n) s t new c = unchanged s t (ap (λ (x : State N W). x.tables) c.holds)
  change_tables (UnlinkBlock n) s t new c = unchanged s t (ap (λ (x : State N W). x.tables) c.holds)
  change_tables (BlockFront n m) s t new c = unchanged s t (ap (λ (x : State N W). x.tables) c.holds.holds)
  change_tables (BlockBack n m) s t new c = unchanged s t (ap (λ (x : State N W). x.tables) c.holds.holds)
  change_tables (BlockBefore n m) s t new c = unchanged s t (ap (λ (x : State N W). x.tables) c.holds.holds)
  change_tables (BlockAfter n m) s t new c = unchanged s t (ap (λ (x : State N W). x.tables) c.holds.holds)
  change_tables (AppendOps n m) s t new c = unchanged s t (ap (λ (x : State N W). x.tables) c.holds.holds.holds)
  change_tables (AppendBlocks n m) s t new c = unchanged s t (ap (λ (x : State N W). x.tables) c.holds.holds.holds)
  change_tables (MoveRegion n m) s t new c = unchanged s t (ap (λ (x : State N W). x.tables) c.holds.holds.holds ∙ over_or_not s (move_region s.forest c.value c.holds.value) _)
  change_tables (DropOpUses n) s t new c = unchanged s t (ap (λ (x : State N W). x.tables) c.holds.1)
  change_tables (DropBlockUses n) s t new c = unchanged s t (ap (λ (x : State N W). x.tables) c.holds.1)
  change_tables (DropRegionUses n) s t new c = unchanged s t (ap (λ (x : State N W). x.tables) c.holds.1)
  change_tables (EraseOp n) s t new c = unchanged s t (ap (λ (x : State N W). x.tables) c.holds.1)
  change_tables (EraseBlock n) s t new c = unchanged s t (ap (λ (x : State N W). x.tables) c.holds.1)
  change_tables (EraseRegion n at) s t new c = unchanged s t (ap (λ (x : State N W). x.tables) c.holds.holds.holds.1)

module _ {N : Ids} {W : Dialect} (s : State N W) where
  named_op : (edit : Edit W) → Condition s edit → (n : ℕ) → In n (mentions edit).ops → The (slice_get s.tables.ops n) (λ o. is_some (s.forest.ops o) ≡ true)
  named_op (AddRegion n) c k (inl e) = subst (λ j. The (slice_get s.tables.ops j) (λ o. is_some (s.forest.ops o) ≡ true)) (sym e) (weaker (λ _ y. ap is_some y.found) c)
  named_op (AddRegion n) c k (inr h) = elim h [ ]
  named_op (PushResult n ty) c k (inl e) = subst (λ j. The (slice_get s.tables.ops j) (λ o. is_some (s.forest.ops o) ≡ true)) (sym e) (weaker (λ _ y. ap is_some y.found) c.0)
  named_op (PushResult n ty) c k (inr h) = elim h [ ]
  named_op (InsertResult n at ty) c k (inl e) = subst (λ j. The (slice_get s.tables.ops j) (λ o. is_some (s.forest.ops o) ≡ true)) (sym e) (weaker (λ _ y. ap is_some y.found) c.0)
  named_op (InsertResult n at ty) c k (inr h) = elim h [ ]
  named_op (RemoveResult n at) c k (inl e) = subst (λ j. The (slice_get s.tables.ops j) (λ o. is_some (s.forest.ops o) ≡ true)) (sym e) (weaker (λ _ y. ap is_some y.found) c)
  named_op (RemoveResult n at) c k (inr h) = elim h [ ]
  named_op (PushOperand n v) c k (inl e) = subst (λ j. The (slice_get s.tables.ops j) (λ o. is_some (s.forest.ops o) ≡ true)) (sym e) (weaker (λ _ y. ap is_some y.found) c)
  named_op (PushOperand n v) c k (inr h) = elim h [ ]
  named_op (PushSuccessor n m) c k (inl e) = subst (λ j. The (slice_get s.tables.ops j) (λ o. is_some (s.forest.ops o) ≡ true)) (sym e) (weaker (λ _ y. ap is_some y.found) c)
  named_op (PushSuccessor n m) c k (inr h) = elim h [ ]
  named_op (InsertOperand n at v) c k (inl e) = subst (λ j. The (slice_get s.tables.ops j) (λ o. is_some (s.forest.ops o) ≡ true)) (sym e) (weaker (λ _ y. ap is_some y.found) c)
  named_op (InsertOperand n at v) c k (inr h) = elim h [ ]
  named_op (InsertSuccessor n at m) c k (inl e) = subst (λ j. The (slice_get s.tables.ops j) (λ o. is_some (s.forest.ops o) ≡ true)) (sym e) (weaker (λ _ y. ap is_some y.found) c)
  named_op (InsertSuccessor n at m) c k (inr h) = elim h [ ]
  named_op (RemoveOperand n at) c k (inl e) = subst (λ j. The (slice_get s.tables.ops j) (λ o. is_some (s.forest.ops o) ≡ true)) (sym e) (weaker (λ _ y. ap is_some y.found) c)
  named_op (RemoveOperand n at) c k (inr h) = elim h [ ]
  named_op (RemoveSuccessor n at) c k (inl e) = subst (λ j. The (slice_get s.tables.ops j) (λ o. is_some (s.forest.ops o) ≡ true)) (sym e) (weaker (λ _ y. ap is_some y.found) c)
  named_op (RemoveSuccessor n at) c k (inr h) = elim h [ ]
  named_op (ReplaceOperand n at v) c k (inl e) = subst (λ j. The (slice_get s.tables.ops j) (λ o. is_some (s.forest.ops o) ≡ true)) (sym e) (weaker (λ _ y. ap is_some y.found) c)
  named_op (ReplaceOperand n at v) c k (inr h) = elim h [ ]
  named_op (ReplaceSuccessor n at m) c k (inl e) = subst (λ j. The (slice_get s.tables.ops j) (λ o. is_some (s.forest.ops o) ≡ true)) (sym e) (weaker (λ _ y. ap is_some y.found) c)
  named_op (ReplaceSuccessor n at m) c k (inr h) = elim h [ ]
  named_op (OpFront n m) c k (inl e) = subst (λ j. The (slice_get s.tables.ops j) (λ o. is_some (s.forest.ops o) ≡ true)) (sym e) (weaker (λ _ y. ap is_some y.found) c)
  named_op (OpFront n m) c k (inr h) = elim h [ ]
  named_op (OpBack n m) c k (inl e) = subst (λ j. The (slice_get s.tables.ops j) (λ o. is_some (s.forest.ops o) ≡ true)) (sym e) (weaker (λ _ y. ap is_some y.found) c)
  named_op (OpBack n m) c k (inr h) = elim h [ ]
  named_op (OpBefore n m) c k (inl e) = subst (λ j. The (slice_get s.tables.ops j) (λ o. is_some (s.forest.ops o) ≡ true)) (sym e) (weaker (λ _ y. ap is_some y.found) c)
  named_op (OpBefore n m) c k (inr (inl e)) = subst (λ j. The (slice_get s.tables.ops j) (λ o. is_some (s.forest.ops o) ≡ true)) (sym e) (weaker (λ _ y. ap is_some y.found) c.holds.holds)
  named_op (OpBefore n m) c k (inr (inr h)) = elim h [ ]
  named_op (OpAfter n m) c k (inl e) = subst (λ j. The (slice_get s.tables.ops j) (λ o. is_some (s.forest.ops o) ≡ true)) (sym e) (weaker (λ _ y. ap is_some y.found) c)
  named_op (OpAfter n m) c k (inr (inl e)) = subst (λ j. The (slice_get s.tables.ops j) (λ o. is_some (s.forest.ops o) ≡ true)) (sym e) (weaker (λ _ y. ap is_some y.found) c.holds.holds)
  named_op (OpAfter n m) c k (inr (inr h)) = elim h [ ]
  named_op (UnlinkOp n) c k (inl e) = subst (λ j. The (slice_get s.tables.ops j) (λ o. is_some (s.forest.ops o) ≡ true)) (sym e) (weaker (λ _ y. ap is_some y.found) c)
  named_op (UnlinkOp n) c k (inr h) = elim h [ ]
  named_op (MoveRegion n m) c k (inl e) = subst (λ j. The (slice_get s.tables.ops j) (λ o. is_some (s.forest.ops o) ≡ true)) (sym e) (weaker (λ _ y. ap is_some y.found) c.holds.1)
  named_op (MoveRegion n m) c k (inr h) = elim h [ ]
  named_op (DropOpUses n) c k (inl e) = subst (λ j. The (slice_get s.tables.ops j) (λ o. is_some (s.forest.ops o) ≡ true)) (sym e) (weaker (λ _ y. ap is_some y.found) c)
  named_op (DropOpUses n) c k (inr h) = elim h [ ]
  named_op (EraseOp n) c k (inl e) = subst (λ j. The (slice_get s.tables.ops j) (λ o. is_some (s.forest.ops o) ≡ true)) (sym e) (weaker (λ _ y. ap is_some y.found) c)
  named_op (EraseOp n) c k (inr h) = elim h [ ]
  named_op (EraseRegion n at) c k (inl e) = subst (λ j. The (slice_get s.tables.ops j) (λ o. is_some (s.forest.ops o) ≡ true)) (sym e) (weaker (λ _ y. ap is_some y.found) c)
  named_op (EraseRegion n at) c k (inr h) = elim h [ ]
  named_op _ c k h = elim h [ ]

  named_block : (edit : Edit W) → Condition s edit → (n : ℕ) → In n (mentions edit).blocks → The (slice_get s.tables.blocks n) (λ b. is_some (s.forest.blocks b) ≡ true)
  named_block (NewOp kind types operands successors regions) c k h = weaker (λ _ y. ap is_some y.found) (each_found (λ b. The (s.forest.blocks b) λ r. Unit {0}) s.tables.blocks successors k c.2 h)
  named_block (PushArgument n ty) c k (inl e) = subst (λ j. The (slice_get s.tables.blocks j) (λ b. is_some (s.forest.blocks b) ≡ true)) (sym e) (weaker (λ _ y. ap is_some y.found) c.0)
  named_block (PushArgument n ty) c k (inr h) = elim h [ ]
  named_block (InsertArgument n at ty) c k (inl e) = subst (λ j. The (slice_get s.tables.blocks j) (λ b. is_some (s.forest.blocks b) ≡ true)) (sym e) (weaker (λ _ y. ap is_some y.found) c.0)
  named_block (InsertArgument n at ty) c k (inr h) = elim h [ ]
  named_block (RemoveArgument n at) c k (inl e) = subst (λ j. The (slice_get s.tables.blocks j) (λ b. is_some (s.forest.blocks b) ≡ true)) (sym e) (weaker (λ _ y. ap is_some y.found) c)
  named_block (RemoveArgument n at) c k (inr h) = elim h [ ]
  named_block (PushSuccessor n m) c k (inl e) = subst (λ j. The (slice_get s.tables.blocks j) (λ b. is_some (s.forest.blocks b) ≡ true)) (sym e) (weaker (λ _ y. ap is_some y.found) c.holds.holds)
  named_block (PushSuccessor n m) c k (inr h) = elim h [ ]
  named_block (InsertSuccessor n at m) c k (inl e) = subst (λ j. The (slice_get s.tables.blocks j) (λ b. is_some (s.forest.blocks b) ≡ true)) (sym e) (weaker (λ _ y. ap is_some y.found) c.holds.holds)
  named_block (InsertSuccessor n at m) c k (inr h) = elim h [ ]
  named_block (ReplaceSuccessor n at m) c k (inl e) = subst (λ j. The (slice_get s.tables.blocks j) (λ b. is_some (s.forest.blocks b) ≡ true)) (sym e) (weaker (λ _ y. ap is_some y.found) c.holds.holds)
  named_block (ReplaceSuccessor n at m) c k (inr h) = elim h [ ]
  named_block (RetargetAll n m) c k (inl e) = subst (λ j. The (slice_get s.tables.blocks j) (λ b. is_some (s.forest.blocks b) ≡ true)) (sym e) (weaker (λ _ y. ap is_some y.found) c)
  named_block (RetargetAll n m) c k (inr (inl e)) = subst (λ j. The (slice_get s.tables.blocks j) (λ b. is_some (s.forest.blocks b) ≡ true)) (sym e) (weaker (λ _ y. ap is_some y.found) c.holds.holds)
  named_block (RetargetAll n m) c k (inr (inr h)) = elim h [ ]
  named_block (OpFront n m) c k (inl e) = subst (λ j. The (slice_get s.tables.blocks j) (λ b. is_some (s.forest.blocks b) ≡ true)) (sym e) (weaker (λ _ y. ap is_some y.found) c.holds.holds)
  named_block (OpFront n m) c k (inr h) = elim h [ ]
  named_block (OpBack n m) c k (inl e) = subst (λ j. The (slice_get s.tables.blocks j) (λ b. is_some (s.forest.blocks b) ≡ true)) (sym e) (weaker (λ _ y. ap is_some y.found) c.holds.holds)
  named_block (OpBack n m) c k (inr h) = elim h [ ]
  named_block (UnlinkBlock n) c k (inl e) = subst (λ j. The (slice_get s.tables.blocks j) (λ b. is_some (s.forest.blocks b) ≡ true)) (sym e) (weaker (λ _ y. ap is_some y.found) c)
  named_block (UnlinkBlock n) c k (inr h) = elim h [ ]
  named_block (BlockFront n m) c k (inl e) = subst (λ j. The (slice_get s.tables.blocks j) (λ b. is_some (s.forest.blocks b) ≡ true)) (sym e) (weaker (λ _ y. ap is_some y.found) c)
  named_block (BlockFront n m) c k (inr h) = elim h [ ]
  named_block (BlockBack n m) c k (inl e) = subst (λ j. The (slice_get s.tables.blocks j) (λ b. is_some (s.forest.blocks b) ≡ true)) (sym e) (weaker (λ _ y. ap is_some y.found) c)
  named_block (BlockBack n m) c k (inr h) = elim h [ ]
  named_block (BlockBefore n m) c k (inl e) = subst (λ j. The (slice_get s.tables.blocks j) (λ b. is_some (s.forest.blocks b) ≡ true)) (sym e) (weaker (λ _ y. ap is_some y.found) c)
  named_block (BlockBefore n m) c k (inr (inl e)) = subst (λ j. The (slice_get s.tables.blocks j) (λ b. is_some (s.forest.blocks b) ≡ true)) (sym e) (weaker (λ _ y. ap is_some y.found) c.holds.holds)
  named_block (BlockBefore n m) c k (inr (inr h)) = elim h [ ]
  named_block (BlockAfter n m) c k (inl e) = subst (λ j. The (slice_get s.tables.blocks j) (λ b. is_some (s.forest.blocks b) ≡ true)) (sym e) (weaker (λ _ y. ap is_some y.found) c)
  named_block (BlockAfter n m) c k (inr (inl e)) = subst (λ j. The (slice_get s.tables.blocks j) (λ b. is_some (s.forest.blocks b) ≡ true)) (sym e) (weaker (λ _ y. ap is_some y.found) c.holds.holds)
  named_block (BlockAfter n m) c k (inr (inr h)) = elim h [ ]
  named_block (AppendOps n m) c k (inl e) = subst (λ j. The (slice_get s.tables.blocks j) (λ b. is_some (s.forest.blocks b) ≡ true)) (sym e) (weaker (λ _ y. ap is_some y.found) c)
  named_block (AppendOps n m) c k (inr (inl e)) = subst (λ j. The (slice_get s.tables.blocks j) (λ b. is_some (s.forest.blocks b) ≡ true)) (sym e) (weaker (λ _ y. ap is_some y.found) c.holds.holds)
  named_block (AppendOps n m) c k (inr (inr h)) = elim h [ ]
  named_block (DropBlockUses n) c k (inl e) = subst (λ j. The (slice_get s.tables.blocks j) (λ b. is_some (s.forest.blocks b) ≡ true)) (sym e) (weaker (λ _ y. ap is_some y.found) c)
  named_block (DropBlockUses n) c k (inr h) = elim h [ ]
  named_block (EraseBlock n) c k (inl e) = subst (λ j. The (slice_get s.tables.blocks j) (λ b. is_some (s.forest.blocks b) ≡ true)) (sym e) (weaker (λ _ y. ap is_some y.found) c)
  named_block (EraseBlock n) c k (inr h) = elim h [ ]
  named_block _ c k h = elim h [ ]

  named_region : (edit : Edit W) → Condition s edit → (n : ℕ) → In n (mentions edit).regions → The (slice_get s.tables.regions n) (λ r. is_some (s.forest.regions r) ≡ true)
  named_region (BlockFront n m) c k (inl e) = subst (λ j. The (slice_get s.tables.regions j) (λ r. is_some (s.forest.regions r) ≡ true)) (sym e) (weaker (λ _ y. y.0) c.holds.holds)
  named_region (BlockFront n m) c k (inr h) = elim h [ ]
  named_region (BlockBack n m) c k (inl e) = subst (λ j. The (slice_get s.tables.regions j) (λ r. is_some (s.forest.regions r) ≡ true)) (sym e) (weaker (λ _ y. y.0) c.holds.holds)
  named_region (BlockBack n m) c k (inr h) = elim h [ ]
  named_region (AppendBlocks n m) c k (inl e) = subst (λ j. The (slice_get s.tables.regions j) (λ r. is_some (s.forest.regions r) ≡ true)) (sym e) (weaker (λ _ y. y.0) c)
  named_region (AppendBlocks n m) c k (inr (inl e)) = subst (λ j. The (slice_get s.tables.regions j) (λ r. is_some (s.forest.regions r) ≡ true)) (sym e) (weaker (λ _ y. y.0) c.holds.1)
  named_region (AppendBlocks n m) c k (inr (inr h)) = elim h [ ]
  named_region (MoveRegion n m) c k (inl e) = subst (λ j. The (slice_get s.tables.regions j) (λ r. is_some (s.forest.regions r) ≡ true)) (sym e) (weaker (λ _ y. y.0) c)
  named_region (MoveRegion n m) c k (inr h) = elim h [ ]
  named_region (DropRegionUses n) c k (inl e) = subst (λ j. The (slice_get s.tables.regions j) (λ r. is_some (s.forest.regions r) ≡ true)) (sym e) (weaker (λ _ y. y.0) c)
  named_region (DropRegionUses n) c k (inr h) = elim h [ ]
  named_region _ c k h = elim h [ ]

  named_value : (edit : Edit W) → Condition s edit → (n : ℕ) → In n (mentions edit).values → The (slice_get s.tables.values n) (λ v. IsLiveNamed s.forest (a_value v))
  named_value (NewOp kind types operands successors regions) c k h = weaker (λ _ y. y.0) (each_found (λ v. IsLiveNamed s.forest (a_value v) × Unit {0}) s.tables.values operands k c.1 h)
  named_value (PushOperand n v) c k (inl e) = subst (λ j. The (slice_get s.tables.values j) (λ v. IsLiveNamed s.forest (a_value v))) (sym e) (weaker (λ _ y. y.0) c.holds.holds)
  named_value (PushOperand n v) c k (inr h) = elim h [ ]
  named_value (InsertOperand n at v) c k (inl e) = subst (λ j. The (slice_get s.tables.values j) (λ v. IsLiveNamed s.forest (a_value v))) (sym e) (weaker (λ _ y. y.0) c.holds.holds)
  named_value (InsertOperand n at v) c k (inr h) = elim h [ ]
  named_value (ReplaceOperand n at v) c k (inl e) = subst (λ j. The (slice_get s.tables.values j) (λ v. IsLiveNamed s.forest (a_value v))) (sym e) (weaker (λ _ y. y.0) c.holds.holds)
  named_value (ReplaceOperand n at v) c k (inr h) = elim h [ ]
  named_value (ReplaceAllUses v w) c k (inl e) = subst (λ j. The (slice_get s.tables.values j) (λ v. IsLiveNamed s.forest (a_value v))) (sym e) (weaker (λ _ y. y.0) c)
  named_value (ReplaceAllUses v w) c k (inr (inl e)) = subst (λ j. The (slice_get s.tables.values j) (λ v. IsLiveNamed s.forest (a_value v))) (sym e) (weaker (λ _ y. y.0) c.holds.1)
  named_value (ReplaceAllUses v w) c k (inr (inr h)) = elim h [ ]
  named_value _ c k h = elim h [ ]

module _ {W : Dialect} (B : Behaviour W) where
  step_tables : (edit : Edit W) (s t : Session W) (a : Answer) → Step B s edit a t → Extends s.state.tables t.state.tables
  step_tables edit s t a (condition c e f) = rw f (same_tables s.state.tables)
  step_tables edit s t a (counter c n e k) = rw k.state (same_tables s.state.tables)
  step_tables edit s t a (slots c n m e k) = rw k.state (same_tables s.state.tables)
  step_tables edit s t a (memory c n m x e k) = rw k.state (same_tables s.state.tables)
  step_tables edit s t a (made c n m e k) = change_tables B edit s.state t.state k.new k.change

  -- each place of a table keeps what it has
  record Keeps (a b : Tables context_ids) : Type 0 where
    ops : (n : ℕ) (x : ArenaIndex) → slice_get a.ops n ≡ Some x → slice_get b.ops n ≡ Some x
    blocks : (n : ℕ) (x : ArenaIndex) → slice_get a.blocks n ≡ Some x → slice_get b.blocks n ≡ Some x
    regions : (n : ℕ) (x : ArenaIndex) → slice_get a.regions n ≡ Some x → slice_get b.regions n ≡ Some x
    values : (n : ℕ) (x : Value context_ids) → slice_get a.values n ≡ Some x → slice_get b.values n ≡ Some x

  extends_keeps : (a b : Tables context_ids) → Extends a b → Keeps a b
  extends_keeps a b e = record {
    ops = λ n x h. subst (λ l. slice_get l n ≡ Some x) (sym e.ops) (still_at a.ops e.more_ops n x h);
    blocks = λ n x h. subst (λ l. slice_get l n ≡ Some x) (sym e.blocks) (still_at a.blocks e.more_blocks n x h);
    regions = λ n x h. subst (λ l. slice_get l n ≡ Some x) (sym e.regions) (still_at a.regions e.more_regions n x h);
    values = λ n x h. subst (λ l. slice_get l n ≡ Some x) (sym e.values) (still_at a.values e.more_values n x h);
  }

  then_keeps : (a b c : Tables context_ids) → Keeps a b → Keeps b c → Keeps a c
  then_keeps a b c p q = record {
    ops = λ n x h. q.ops n x (p.ops n x h);
    blocks = λ n x h. q.blocks n x (p.blocks n x h);
    regions = λ n x h. q.regions n x (p.regions n x h);
    values = λ n x h. q.values n x (p.values n x h);
  }

  run_keeps : (edits : List (Edit W)) (s t : Session W) (answers : List Answer) → Run B s edits answers t → Keeps s.state.tables t.state.tables
  run_keeps [] s t answers r = rw r.1 (record { ops = λ n x h. h; blocks = λ n x h. h; regions = λ n x h. h; values = λ n x h. h })
  run_keeps (edit ∷ rest) s t answers r = then_keeps s.state.tables (r.2).state.tables t.state.tables (extends_keeps _ _ (step_tables edit s r.2 r.0 r.4)) (run_keeps rest r.2 t r.1 r.5)

  -- the condition of an edit that names what was dead does not hold
  dead_fails : (edits : List (Edit W)) (s t : Session W) (answers : List Answer) (edit : Edit W) → Sound s → Run B s edits answers t → NamesDead s edit → Condition t.state edit → ⊥
  dead_fails edits s t answers edit k r (a_dead_op n o h e dead) c =
      ((gone_for_good B edits s t answers k r).ops o (k.passed.ops o (slice_get-in s.state.tables.ops n o e), dead)).1
      (holds_of _ o ((run_keeps edits s t answers r).ops n o e) (named_op t.state edit c n h))
  dead_fails edits s t answers edit k r (a_dead_block n o h e dead) c =
      ((gone_for_good B edits s t answers k r).blocks o (k.passed.blocks o (slice_get-in s.state.tables.blocks n o e), dead)).1
      (holds_of _ o ((run_keeps edits s t answers r).blocks n o e) (named_block t.state edit c n h))
  dead_fails edits s t answers edit k r (a_dead_region n o h e dead) c =
      ((gone_for_good B edits s t answers k r).regions o (k.passed.regions o (slice_get-in s.state.tables.regions n o e), dead)).1
      (holds_of _ o ((run_keeps edits s t answers r).regions n o e) (named_region t.state edit c n h))
  dead_fails edits s t answers edit k r (a_dead_value n v h e dead) c =
      let there = slice_get-in s.state.tables.values n v e in
      let number = λ (x : Value context_ids). x.number in
      ((gone_for_good B edits s t answers k r).numbers v.number (
        k.passed.numbers v.number (In-map number v s.state.tables.values there),
        λ at.
            let other : Value context_ids = record { definer = at.0; number = v.number } in
            let same : other ≡ v = same_numbered number s.state.tables.values k.once.numbers other v (k.listed.values other at.1) there refl in
            dead (subst (λ (x : Value context_ids). IsLiveNamed s.state.forest (a_value x)) same at.1),
      )).1
      (v.definer, holds_of _ v ((run_keeps edits s t answers r).values n v e) (named_value t.state edit c n h))

  pub dead_are_refused : DeadAreRefused W B
  dead_are_refused edits s t u answers edit a k r (condition c e f) dead = e
  dead_are_refused edits s t u answers edit a k r (counter c n e p) dead = absurd (dead_fails edits s t answers edit k r dead c)
  dead_are_refused edits s t u answers edit a k r (slots c n m e p) dead = absurd (dead_fails edits s t answers edit k r dead c)
  dead_are_refused edits s t u answers edit a k r (memory c n m x e p) dead = absurd (dead_fails edits s t answers edit k r dead c)
  dead_are_refused edits s t u answers edit a k r (made c n m e p) dead = absurd (dead_fails edits s t answers edit k r dead c)
