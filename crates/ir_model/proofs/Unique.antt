-- A change is the only one of its edit with its new names.
use mathlib.Core.Path.{◌≡◌, refl, sym, ap, ◌∙◌, fun_ext, subst}
use Rattle.std.proofs.Common.{◌⊎◌, inl, inr, Option, Some, None, List, [], ◌∷◌}
use Rattle.std.specs.Option.{option_map}
use Rattle.ir_model.specs.Ids.{Ids, Fresh}
use Rattle.ir_model.specs.Forest.{Dialect, Behaviour, OpRecord, Forest, Entity}
use Rattle.ir_model.specs.Changes.{DropsUses, Removes, no_uses}
use Rattle.ir_model.specs.Edits.{Edit, State, over, Change, The, NewType, NewOp, NewBlock, AddRegion, PushResult, PushArgument, InsertResult, InsertArgument, RemoveResult, RemoveArgument, PushOperand, PushSuccessor, InsertOperand, InsertSuccessor, RemoveOperand, RemoveSuccessor, ReplaceOperand, ReplaceSuccessor, ReplaceAllUses, RetargetAll, OpFront, OpBack, OpBefore, OpAfter, UnlinkOp, UnlinkBlock, BlockFront, BlockBack, BlockBefore, BlockAfter, AppendOps, AppendBlocks, MoveRegion, DropOpUses, DropBlockUses, DropRegionUses, EraseOp, EraseBlock, EraseRegion}

the : {A S : Type 0} {m : Option A} {P Q : A → Type 0} {a b : S} → ((x : A) → P x → Q x → a ≡ b) → The m P → The m Q → a ≡ b
the {A} {S} {m} {P} {Q} same p q =
    let e : Some p.value ≡ Some q.value = sym p.found ∙ q.found in
    let f : p.value ≡ q.value = cc in
    same q.value (subst P f p.holds) q.holds

-- what is outside is known of each, and what is inside is gone
gone_or_kept : {A : Type 0} (Ins : Type 0) (g h kept : Option A) → (Ins → g ≡ None) → (Ins → h ≡ None) → ((Ins → ⊥) → g ≡ kept) → ((Ins → ⊥) → h ≡ kept) → g ≡ h
gone_or_kept Ins None None kept a b c d = refl
gone_or_kept Ins (Some x) h kept a b c d = let out : Ins → ⊥ = λ i. (let e : Some x ≡ None = a i in cc) in c out ∙ sym (d out)
gone_or_kept Ins None (Some y) kept a b c d = let out : Ins → ⊥ = λ i. (let e : Some y ≡ None = b i in cc) in c out ∙ sym (d out)

-- the list is empty, unless that leads to a contradiction
empty_stable : {A : Type 0} (xs : List A) → (((xs ≡ []) → ⊥) → ⊥) → xs ≡ []
empty_stable [] h = refl
empty_stable (x ∷ xs) h = absurd (h (λ e. cc))

module _ {N : Ids} {W : Dialect} where
  Removes-unique : (f g h : Forest N W) (e : Entity N) → Removes f e g → Removes f e h → g ≡ h
  Removes-unique f g h e p q = λ i. record {
    ops = fun_ext (λ o. gone_or_kept _ (g.ops o) (h.ops o) _ (p.ops_inside o) (q.ops_inside o) (p.ops_outside o) (q.ops_outside o)) i;
    blocks = fun_ext (λ o. gone_or_kept _ (g.blocks o) (h.blocks o) _ (p.blocks_inside o) (q.blocks_inside o) (p.blocks_outside o) (q.blocks_outside o)) i;
    regions = fun_ext (λ o. gone_or_kept _ (g.regions o) (h.regions o) _ (p.regions_inside o) (q.regions_inside o) (p.regions_outside o) (q.regions_outside o)) i;
  }

  no_uses_stable : (r : OpRecord N W) → (((r ≡ no_uses r) → ⊥) → ⊥) → r ≡ no_uses r
  no_uses_stable r h = λ i. record r {
    operands = empty_stable r.operands (λ n. h (λ e. n (ap (λ (q : OpRecord N W). q.operands) e))) i;
    successors = empty_stable r.successors (λ n. h (λ e. n (ap (λ (q : OpRecord N W). q.successors) e))) i;
  }

  same_emptied : (f : Option (OpRecord N W)) → (((f ≡ option_map no_uses f) → ⊥) → ⊥) → f ≡ option_map no_uses f
  same_emptied None h = refl
  same_emptied (Some r) h = ap Some (no_uses_stable r (λ n. h (λ e. n (let e' : Some r ≡ Some (no_uses r) = e in cc))))

  kept_and_emptied : (Ins : Type 0) (g h f : Option (OpRecord N W)) → (Ins → g ≡ option_map no_uses f) → ((Ins → ⊥) → h ≡ f)
      → g ≡ f → h ≡ option_map no_uses f → g ≡ h
  kept_and_emptied Ins g h f a d p q = p ∙ same_emptied f (λ n. let out : Ins → ⊥ = λ i. n (sym p ∙ a i) in n (sym (d out) ∙ q)) ∙ sym q

  kept_or_emptied : (Ins : Type 0) (g h f : Option (OpRecord N W)) → (Ins → g ≡ option_map no_uses f) → (Ins → h ≡ option_map no_uses f)
      → ((Ins → ⊥) → g ≡ f) → ((Ins → ⊥) → h ≡ f) → (g ≡ f) ⊎ (g ≡ option_map no_uses f) → (h ≡ f) ⊎ (h ≡ option_map no_uses f) → g ≡ h
  kept_or_emptied Ins g h f a b c d (inl p) (inl q) = p ∙ sym q
  kept_or_emptied Ins g h f a b c d (inr p) (inr q) = p ∙ sym q
  kept_or_emptied Ins g h f a b c d (inl p) (inr q) = kept_and_emptied Ins g h f a d p q
  kept_or_emptied Ins g h f a b c d (inr p) (inl q) = sym (kept_and_emptied Ins h g f b c q p)

  DropsUses-unique : (f g h : Forest N W) (e : Entity N) → DropsUses f e g → DropsUses f e h → g ≡ h
  DropsUses-unique f g h e p q = λ i. record {
    ops = fun_ext (λ o. kept_or_emptied _ (g.ops o) (h.ops o) (f.ops o) (p.inside o) (q.inside o) (p.outside o) (q.outside o) (p.either o) (q.either o)) i;
    blocks = (p.blocks ∙ sym q.blocks) i;
    regions = (p.regions ∙ sym q.regions) i;
  }

  by_forest : (s a b : State N W) → a.forest ≡ b.forest → a ≡ over s a.forest → b ≡ over s b.forest → a ≡ b
  by_forest s a b e p q = p ∙ ap (over s) e ∙ sym q

  removed : (s a b : State N W) (e : Entity N) → Removes s.forest e a.forest × (a ≡ over s a.forest) → Removes s.forest e b.forest × (b ≡ over s b.forest) → a ≡ b
  removed s a b e p q = by_forest s a b (Removes-unique s.forest a.forest b.forest e p.0 q.0) p.1 q.1

  dropped : (s a b : State N W) (e : Entity N) → DropsUses s.forest e a.forest × (a ≡ over s a.forest) → DropsUses s.forest e b.forest × (b ≡ over s b.forest) → a ≡ b
  dropped s a b e p q = by_forest s a b (DropsUses-unique s.forest a.forest b.forest e p.0 q.0) p.1 q.1

  pub Change-unique : (B : Behaviour W) (edit : Edit W) (s a b : State N W) (new : Fresh N) → Change B s edit new a → Change B s edit new b → a ≡ b
  Change-unique B (NewType key) s a b new p q = p ∙ sym q
  Change-unique B (NewOp kind types operands successors regions) s a b new p q = the (λ _. λ p q. p ∙ sym q) p q
  Change-unique B (NewBlock label types) s a b new p q = the (λ _. λ p q. p ∙ sym q) p q
  Change-unique B (AddRegion n) s a b new p q = the (λ _. the (λ _. λ p q. p ∙ sym q)) p q
  Change-unique B (PushResult n ty) s a b new p q = the (λ _. the (λ _. the (λ _. λ p q. p ∙ sym q))) p q
  Change-unique B (PushArgument n ty) s a b new p q = the (λ _. the (λ _. the (λ _. λ p q. p ∙ sym q))) p q
  Change-unique B (InsertResult n at ty) s a b new p q = the (λ _. the (λ _. the (λ _. λ p q. p ∙ sym q))) p q
  Change-unique B (InsertArgument n at ty) s a b new p q = the (λ _. the (λ _. the (λ _. λ p q. p ∙ sym q))) p q
  Change-unique B (RemoveResult n at) s a b new p q = the (λ _. λ p q. p ∙ sym q) p q
  Change-unique B (RemoveArgument n at) s a b new p q = the (λ _. λ p q. p ∙ sym q) p q
  Change-unique B (PushOperand n v) s a b new p q = the (λ _. the (λ _. the (λ _. λ p q. p ∙ sym q))) p q
  Change-unique B (PushSuccessor n m) s a b new p q = the (λ _. the (λ _. the (λ _. λ p q. p ∙ sym q))) p q
  Change-unique B (InsertOperand n at v) s a b new p q = the (λ _. the (λ _. the (λ _. λ p q. p ∙ sym q))) p q
  Change-unique B (InsertSuccessor n at m) s a b new p q = the (λ _. the (λ _. the (λ _. λ p q. p ∙ sym q))) p q
  Change-unique B (RemoveOperand n at) s a b new p q = the (λ _. λ p q. p ∙ sym q) p q
  Change-unique B (RemoveSuccessor n at) s a b new p q = the (λ _. λ p q. p ∙ sym q) p q
  Change-unique B (ReplaceOperand n at v) s a b new p q = the (λ _. the (λ _. the (λ _. λ p q. p ∙ sym q))) p q
  Change-unique B (ReplaceSuccessor n at m) s a b new p q = the (λ _. the (λ _. the (λ _. λ p q. p ∙ sym q))) p q
  Change-unique B (ReplaceAllUses v w) s a b new p q = the (λ _. the (λ _. λ p q. p ∙ sym q)) p q
  Change-unique B (RetargetAll n m) s a b new p q = the (λ _. the (λ _. λ p q. p ∙ sym q)) p q
  Change-unique B (OpFront n m) s a b new p q = the (λ _. the (λ _. λ p q. p ∙ sym q)) p q
  Change-unique B (OpBack n m) s a b new p q = the (λ _. the (λ _. λ p q. p ∙ sym q)) p q
  Change-unique B (OpBefore n m) s a b new p q = the (λ _. the (λ _. λ p q. p ∙ sym q)) p q
  Change-unique B (OpAfter n m) s a b new p q = the (λ _. the (λ _. λ p q. p ∙ sym q)) p q
  Change-unique B (UnlinkOp n) s a b new p q = the (λ _. λ p q. p ∙ sym q) p q
  Change-unique B (UnlinkBlock n) s a b new p q = the (λ _. λ p q. p ∙ sym q) p q
  Change-unique B (BlockFront n m) s a b new p q = the (λ _. the (λ _. λ p q. p ∙ sym q)) p q
  Change-unique B (BlockBack n m) s a b new p q = the (λ _. the (λ _. λ p q. p ∙ sym q)) p q
  Change-unique B (BlockBefore n m) s a b new p q = the (λ _. the (λ _. λ p q. p ∙ sym q)) p q
  Change-unique B (BlockAfter n m) s a b new p q = the (λ _. the (λ _. λ p q. p ∙ sym q)) p q
  Change-unique B (AppendOps n m) s a b new p q = the (λ _. the (λ _. the (λ _. λ p q. p ∙ sym q))) p q
  Change-unique B (AppendBlocks n m) s a b new p q = the (λ _. the (λ _. the (λ _. λ p q. p ∙ sym q))) p q
  Change-unique B (MoveRegion n m) s a b new p q = the (λ _. the (λ _. the (λ _. λ p q. p ∙ sym q))) p q
  Change-unique B (DropOpUses n) s a b new p q = the (λ _. λ p q. dropped s a b _ p q) p q
  Change-unique B (DropBlockUses n) s a b new p q = the (λ _. λ p q. dropped s a b _ p q) p q
  Change-unique B (DropRegionUses n) s a b new p q = the (λ _. λ p q. dropped s a b _ p q) p q
  Change-unique B (EraseOp n) s a b new p q = the (λ _. λ p q. removed s a b _ p q) p q
  Change-unique B (EraseBlock n) s a b new p q = the (λ _. λ p q. removed s a b _ p q) p q
  Change-unique B (EraseRegion n at) s a b new p q = the (λ _. the (λ _. the (λ _. λ p q. removed s a b _ p q))) p q
