-- What is live after an edit was live before, or is new.
use mathlib.Core.Path.{◌≡◌, refl, sym, ap, ◌∙◌, subst}
use Rattle.std.proofs.Common.{ℕ, zero, suc, ◌⊎◌, inl, inr, Bool, true, false, Option, Some, None, List, [], ◌∷◌, ◌++◌, cond, is_some, IsSome}
use Rattle.std.specs.List.{list_any}
use Rattle.std.specs.Prelude.{slice_get}
use Rattle.std.specs.Option.{option_map}
use Rattle.ir_model.specs.Ids.{Ids, Fresh}
use Rattle.ir_model.specs.Forest.{Dialect, Behaviour, OpRecord, BlockRecord, Forest, Entity, an_op, a_block, a_region}
use Rattle.ir_model.specs.Nesting.{In}
use Rattle.ir_model.specs.Changes.{rewrite, put, on_op, on_block, on_region, on_ops, on_regions, append_ops, append_blocks, move_region, without, Removes, DropsUses, no_uses, but}
use Rattle.ir_model.specs.Edits.{Edit, State, over, Change, NewType, NewOp, NewBlock, AddRegion, PushResult, PushArgument, InsertResult, InsertArgument, RemoveResult, RemoveArgument, PushOperand, PushSuccessor, InsertOperand, InsertSuccessor, RemoveOperand, RemoveSuccessor, ReplaceOperand, ReplaceSuccessor, ReplaceAllUses, RetargetAll, OpFront, OpBack, OpBefore, OpAfter, UnlinkOp, UnlinkBlock, BlockFront, BlockBack, BlockBefore, BlockAfter, AppendOps, AppendBlocks, MoveRegion, DropOpUses, DropBlockUses, DropRegionUses, EraseOp, EraseBlock, EraseRegion}
use Rattle.ir_model.proofs.Keeps.{is_some-map}
use Rattle.ir_model.proofs.KeepsNew.{put_at, any_in}
use Rattle.ir_model.proofs.Renaming.{Tells}
use Rattle.ir_model.proofs.Loops.{Lawful}

rewrite_some : {A B : Type 0} (same : A → A → Bool) (key : A) (g : B → B) (m : A → Option B) (x : A) → is_some (rewrite same key g m x) ≡ is_some (m x)
rewrite_some {B = B} same key g m x = by (same x key) (m x)
  where
    by : (b : Bool) (o : Option B) → is_some (cond b (option_map g o) o) ≡ is_some o
    by true None = refl
    by true (Some r) = refl
    by false o = refl

pub slice_get-in : {A : Type 0} (xs : List A) (k : ℕ) (x : A) → slice_get xs k ≡ Some x → In x xs
slice_get-in [] k x e = absurd cc
slice_get-in (y ∷ xs) zero x e = inl (let f : Some y ≡ Some x = e in cc)
slice_get-in (y ∷ xs) (suc k) x e = inr (slice_get-in xs k x e)

left_some : {B : Type 0} (Ins : Type 0) (now was : Option B) (kept : Option B) → is_some kept ≡ is_some was → (Ins → now ≡ None) → ((Ins → ⊥) → now ≡ kept) → IsSome now → IsSome was
left_some Ins None was kept s gone out h = absurd cc
left_some Ins (Some r) was kept s gone out h =
    let not_in : Ins → ⊥ = λ i. (let e : Some r ≡ None = gone i in cc) in
    sym s ∙ ap is_some (sym (out not_in)) ∙ refl

put_some : {A B : Type 0} (same : A → A → Bool) → Tells same → (key : A) (v : B) (m : A → Option B) (new : List A) → In key new → (x : A) → IsSome (put same key v m x) → IsSome (m x) ⊎ In x new
put_some same tells key v m new there x h = elim (put_at same tells key v m x) [
  | inl e ↦ inr (subst (λ k. In k new) (sym e.0) there)
  | inr e ↦ inl (ap is_some (sym e.1) ∙ h)
]

module _ {N : Ids} {W : Dialect} where
  -- what is live in g is live in f, or one of these
  pub record Back (f g : Forest N W) (new : Fresh N) : Type 0 where
    pub ops : (o : N.Op) → IsSome (g.ops o) → IsSome (f.ops o) ⊎ In o new.ops
    pub blocks : (b : N.Block) → IsSome (g.blocks b) → IsSome (f.blocks b) ⊎ In b new.blocks
    pub regions : (r : N.Region) → IsSome (g.regions r) → IsSome (f.regions r) ⊎ In r new.regions

  module _ (f : Forest N W) (new : Fresh N) where
    same : Back f f new
    same = record { ops = λ o h. inl h; blocks = λ b h. inl h; regions = λ r h. inl h }

    ops_back : (m : N.Op → Option (OpRecord N W)) → ((o : N.Op) → is_some (m o) ≡ is_some (f.ops o)) → Back f (record f { ops = m }) new
    ops_back m e = record { ops = λ o h. inl (sym (e o) ∙ h); blocks = λ b h. inl h; regions = λ r h. inl h }

    blocks_back : (m : N.Block → Option (BlockRecord N W)) → ((b : N.Block) → is_some (m b) ≡ is_some (f.blocks b)) → Back f (record f { blocks = m }) new
    blocks_back m e = record { ops = λ o h. inl h; blocks = λ b h. inl (sym (e b) ∙ h); regions = λ r h. inl h }

    regions_back : (m : N.Region → Option (List N.Block)) → ((r : N.Region) → is_some (m r) ≡ is_some (f.regions r)) → Back f (record f { regions = m }) new
    regions_back m e = record { ops = λ o h. inl h; blocks = λ b h. inl h; regions = λ r h. inl (sym (e r) ∙ h) }

    on_op_back : (o : N.Op) (g : OpRecord N W → OpRecord N W) → Back f (on_op f o g) new
    on_op_back o g = ops_back _ (rewrite_some N.same_op o g f.ops)

    on_block_back : (b : N.Block) (g : BlockRecord N W → BlockRecord N W) → Back f (on_block f b g) new
    on_block_back b g = blocks_back _ (rewrite_some N.same_block b g f.blocks)

    on_region_back : (r : N.Region) (g : List N.Block → List N.Block) → Back f (on_region f r g) new
    on_region_back r g = regions_back _ (rewrite_some N.same_region r g f.regions)

    all_ops_back : (g : OpRecord N W → OpRecord N W) → Back f (record f { ops = λ o. option_map g (f.ops o) }) new
    all_ops_back g = ops_back _ (λ o. is_some-map g (f.ops o))

    all_blocks_back : (g : BlockRecord N W → BlockRecord N W) → Back f (record f { blocks = λ b. option_map g (f.blocks b) }) new
    all_blocks_back g = blocks_back _ (λ b. is_some-map g (f.blocks b))

    all_regions_back : (g : List N.Block → List N.Block) → Back f (record f { regions = λ r. option_map g (f.regions r) }) new
    all_regions_back g = regions_back _ (λ r. is_some-map g (f.regions r))

  then_back : (f g h : Forest N W) (new : Fresh N) → Back f g new → Back g h new → Back f h new
  then_back f g h new a b = record {
    ops = λ o k. elim (b.ops o k) [ inl i ↦ a.ops o i | inr i ↦ inr i ];
    blocks = λ o k. elim (b.blocks o k) [ inl i ↦ a.blocks o i | inr i ↦ inr i ];
    regions = λ o k. elim (b.regions o k) [ inl i ↦ a.regions o i | inr i ↦ inr i ];
  }

  removes_back : (f g : Forest N W) (e : Entity N) (new : Fresh N) → Removes f e g → Back f g new
  removes_back f g e new r = record {
    ops = λ o h. inl (left_some _ (g.ops o) (f.ops o) _ (is_some-map (on_regions (but e a_region)) (f.ops o)) (r.ops_inside o) (r.ops_outside o) h);
    blocks = λ o h. inl (left_some _ (g.blocks o) (f.blocks o) _ (is_some-map (on_ops (but e an_op)) (f.blocks o)) (r.blocks_inside o) (r.blocks_outside o) h);
    regions = λ o h. inl (left_some _ (g.regions o) (f.regions o) _ (is_some-map (but e a_block) (f.regions o)) (r.regions_inside o) (r.regions_outside o) h);
  }

  drops_back : (f g : Forest N W) (e : Entity N) (new : Fresh N) → DropsUses f e g → Back f g new
  drops_back f g e new d = record {
    ops = λ o h. inl (elim (d.either o) [ inl k ↦ ap is_some (sym k) ∙ h | inr k ↦ sym (is_some-map no_uses (f.ops o)) ∙ ap is_some (sym k) ∙ h ]);
    blocks = λ b h. inl (ap (λ m. is_some (m b)) (sym d.blocks) ∙ h);
    regions = λ b h. inl (ap (λ m. is_some (m b)) (sym d.regions) ∙ h);
  }

  to : (f g h : Forest N W) (new : Fresh N) → g ≡ h → Back f h new → Back f g new
  to f g h new e b = subst (λ x. Back f x new) (sym e) b

  several : (L : Lawful N) (f : Forest N W) (rs : List N.Region) (r : N.Region) → IsSome (cond (list_any (λ s. N.same_region s r) rs) (Some []) (f.regions r)) → IsSome (f.regions r) ⊎ In r rs
  several L f rs r h = elim (any_in N.same_region L.regions r rs) [ inl e ↦ inr e.1 | inr e ↦ inl (rw e.0 at h) ]

  appended : (f : Forest N W) (new : Fresh N) (b c : N.Block) (os : List N.Op) → Back f (append_ops f b c os) new
  appended f new b c os = then_back f (on_block f b (on_ops (λ xs. xs ++ os))) _ new (on_block_back f new b _) (on_block_back (on_block f b (on_ops (λ xs. xs ++ os))) new c (on_ops (λ _. [])))

  appended_blocks : (f : Forest N W) (new : Fresh N) (b c : N.Region) (os : List N.Block) → Back f (append_blocks f b c os) new
  appended_blocks f new b c os = then_back f (on_region f b (λ xs. xs ++ os)) _ new (on_region_back f new b _) (on_region_back (on_region f b (λ xs. xs ++ os)) new c (λ _. []))

  moved : (f : Forest N W) (new : Fresh N) (r : N.Region) (o : N.Op) → Back f (move_region f r o) new
  moved f new r o = then_back f (record f { ops = λ x. option_map (on_regions (without N.same_region r)) (f.ops x) }) _ new (all_ops_back f new _) (on_op_back (record f { ops = λ x. option_map (on_regions (without N.same_region r)) (f.ops x) }) new o (on_regions (λ rs. rs ++ r ∷ [])))

  moved_or_not : (b : Bool) (s t : State N W) (g : Forest N W) (new : Fresh N) → Back s.forest g new → t ≡ (cond b s (over s g)) → Back s.forest t.forest new
  moved_or_not true s t g new back e = to s.forest t.forest _ new (ap (λ (x : State N W). x.forest) e) (same s.forest new)
  moved_or_not false s t g new back e = to s.forest t.forest _ new (ap (λ (x : State N W). x.forest) e) back

  pub Change-back : (B : Behaviour W) → Lawful N → (edit : Edit W) (s t : State N W) (new : Fresh N) → Change B s edit new t → Back s.forest t.forest new
  Change-back B L (NewType key) s t new c = to s.forest t.forest _ new (ap (λ (x : State N W). x.forest) c) (same s.forest new)
  Change-back B L (NewOp kind types operands successors regions) s t new c = to s.forest t.forest _ new (ap (λ (x : State N W). x.forest) c.holds) (record { ops = put_some N.same_op L.ops c.value _ s.forest.ops new.ops (slice_get-in new.ops 0 c.value c.found); blocks = λ b h. inl h; regions = several L s.forest new.regions })
  Change-back B L (NewBlock label types) s t new c = to s.forest t.forest _ new (ap (λ (x : State N W). x.forest) c.holds) (record { ops = λ o h. inl h; blocks = put_some N.same_block L.blocks c.value _ s.forest.blocks new.blocks (slice_get-in new.blocks 0 c.value c.found); regions = λ r h. inl h })
  Change-back B L (AddRegion n) s t new c = to s.forest t.forest _ new (ap (λ (x : State N W). x.forest) c.holds.holds) (record { ops = λ o h. inl (sym (rewrite_some N.same_op c.value _ s.forest.ops o) ∙ h); blocks = λ b h. inl h; regions = put_some N.same_region L.regions c.holds.value _ s.forest.regions new.regions (slice_get-in new.regions 0 c.holds.value c.holds.found) })
  Change-back B L (PushResult n ty) s t new c = to s.forest t.forest _ new (ap (λ (x : State N W). x.forest) c.holds.holds.holds) (on_op_back s.forest new _ _)
  Change-back B L (PushArgument n ty) s t new c = to s.forest t.forest _ new (ap (λ (x : State N W). x.forest) c.holds.holds.holds) (on_block_back s.forest new _ _)
  Change-back B L (InsertResult n at ty) s t new c = to s.forest t.forest _ new (ap (λ (x : State N W). x.forest) c.holds.holds.holds) (on_op_back s.forest new _ _)
  Change-back B L (InsertArgument n at ty) s t new c = to s.forest t.forest _ new (ap (λ (x : State N W). x.forest) c.holds.holds.holds) (on_block_back s.forest new _ _)
  Change-back B L (RemoveResult n at) s t new c = to s.forest t.forest _ new (ap (λ (x : State N W). x.forest) c.holds) (on_op_back s.forest new _ _)
  Change-back B L (RemoveArgument n at) s t new c = to s.forest t.forest _ new (ap (λ (x : State N W). x.forest) c.holds) (on_block_back s.forest new _ _)
  Change-back B L (PushOperand n v) s t new c = to s.forest t.forest _ new (ap (λ (x : State N W). x.forest) c.holds.holds.holds) (on_op_back s.forest new _ _)
  Change-back B L (PushSuccessor n m) s t new c = to s.forest t.forest _ new (ap (λ (x : State N W). x.forest) c.holds.holds.holds) (on_op_back s.forest new _ _)
  Change-back B L (InsertOperand n at v) s t new c = to s.forest t.forest _ new (ap (λ (x : State N W). x.forest) c.holds.holds.holds) (on_op_back s.forest new _ _)
  Change-back B L (InsertSuccessor n at m) s t new c = to s.forest t.forest _ new (ap (λ (x : State N W). x.forest) c.holds.holds.holds) (on_op_back s.forest new _ _)
  Change-back B L (RemoveOperand n at) s t new c = to s.forest t.forest _ new (ap (λ (x : State N W). x.forest) c.holds) (on_op_back s.forest new _ _)
  Change-back B L (RemoveSuccessor n at) s t new c = to s.forest t.forest _ new (ap (λ (x : State N W). x.forest) c.holds) (on_op_back s.forest new _ _)
  Change-back B L (ReplaceOperand n at v) s t new c = to s.forest t.forest _ new (ap (λ (x : State N W). x.forest) c.holds.holds.holds) (on_op_back s.forest new _ _)
  Change-back B L (ReplaceSuccessor n at m) s t new c = to s.forest t.forest _ new (ap (λ (x : State N W). x.forest) c.holds.holds.holds) (on_op_back s.forest new _ _)
  Change-back B L (ReplaceAllUses v w) s t new c = to s.forest t.forest _ new (ap (λ (x : State N W). x.forest) c.holds.holds) (all_ops_back s.forest new _)
  Change-back B L (RetargetAll n m) s t new c = to s.forest t.forest _ new (ap (λ (x : State N W). x.forest) c.holds.holds) (all_ops_back s.forest new _)
  Change-back B L (OpFront n m) s t new c = to s.forest t.forest _ new (ap (λ (x : State N W). x.forest) c.holds.holds) (on_block_back s.forest new _ _)
  Change-back B L (OpBack n m) s t new c = to s.forest t.forest _ new (ap (λ (x : State N W). x.forest) c.holds.holds) (on_block_back s.forest new _ _)
  Change-back B L (OpBefore n m) s t new c = to s.forest t.forest _ new (ap (λ (x : State N W). x.forest) c.holds.holds) (all_blocks_back s.forest new _)
  Change-back B L (OpAfter n m) s t new c = to s.forest t.forest _ new (ap (λ (x : State N W). x.forest) c.holds.holds) (all_blocks_back s.forest new _)
  Change-back B L (UnlinkOp n) s t new c = to s.forest t.forest _ new (ap (λ (x : State N W). x.forest) c.holds) (all_blocks_back s.forest new _)
  Change-back B L (UnlinkBlock n) s t new c = to s.forest t.forest _ new (ap (λ (x : State N W). x.forest) c.holds) (all_regions_back s.forest new _)
  Change-back B L (BlockFront n m) s t new c = to s.forest t.forest _ new (ap (λ (x : State N W). x.forest) c.holds.holds) (on_region_back s.forest new _ _)
  Change-back B L (BlockBack n m) s t new c = to s.forest t.forest _ new (ap (λ (x : State N W). x.forest) c.holds.holds) (on_region_back s.forest new _ _)
  Change-back B L (BlockBefore n m) s t new c = to s.forest t.forest _ new (ap (λ (x : State N W). x.forest) c.holds.holds) (all_regions_back s.forest new _)
  Change-back B L (BlockAfter n m) s t new c = to s.forest t.forest _ new (ap (λ (x : State N W). x.forest) c.holds.holds) (all_regions_back s.forest new _)
  Change-back B L (AppendOps n m) s t new c = to s.forest t.forest _ new (ap (λ (x : State N W). x.forest) c.holds.holds.holds) (appended s.forest new _ _ _)
  Change-back B L (AppendBlocks n m) s t new c = to s.forest t.forest _ new (ap (λ (x : State N W). x.forest) c.holds.holds.holds) (appended_blocks s.forest new _ _ _)
  Change-back B L (MoveRegion n m) s t new c = moved_or_not _ s t _ new (moved s.forest new _ _) c.holds.holds.holds
  Change-back B L (DropOpUses n) s t new c = drops_back s.forest t.forest _ new c.holds.0
  Change-back B L (DropBlockUses n) s t new c = drops_back s.forest t.forest _ new c.holds.0
  Change-back B L (DropRegionUses n) s t new c = drops_back s.forest t.forest _ new c.holds.0
  Change-back B L (EraseOp n) s t new c = removes_back s.forest t.forest _ new c.holds.0
  Change-back B L (EraseBlock n) s t new c = removes_back s.forest t.forest _ new c.holds.0
  Change-back B L (EraseRegion n at) s t new c = removes_back s.forest t.forest _ new c.holds.holds.holds.0
