-- What operands and successors an edit leaves: each use number stood at the same operation, among the same ones, or is new.
use mathlib.Core.Path.{◌≡◌, refl, sym, ap, ◌∙◌, subst}
use Rattle.std.proofs.Common.{ℕ, ◌⊎◌, inl, inr, Bool, true, false, Option, Some, None, List, [], ◌∷◌, ◌++◌, map, cond, take, drop}
use Rattle.std.specs.List.{remove, zip}
use Rattle.std.specs.Option.{option_map}
use Rattle.ir_model.specs.Ids.{Ids, Fresh}
use Rattle.ir_model.specs.Forest.{Dialect, Behaviour, Value, OpRecord, Forest, Entity, a_region, Operand, Successor, same_value}
use Rattle.ir_model.specs.Nesting.{In, list_of}
use Rattle.ir_model.specs.Changes.{rewrite, put, operand, successor, on_operands, on_successors, on_regions, redirected, retargeted, no_uses, but, move_region, without, Removes, DropsUses}
use Rattle.ir_model.specs.Edits.{Edit, State, over, Change, NewType, NewOp, NewBlock, AddRegion, PushResult, PushArgument, InsertResult, InsertArgument, RemoveResult, RemoveArgument, PushOperand, PushSuccessor, InsertOperand, InsertSuccessor, RemoveOperand, RemoveSuccessor, ReplaceOperand, ReplaceSuccessor, ReplaceAllUses, RetargetAll, OpFront, OpBack, OpBefore, OpAfter, UnlinkOp, UnlinkBlock, BlockFront, BlockBack, BlockBefore, BlockAfter, AppendOps, AppendBlocks, MoveRegion, DropOpUses, DropBlockUses, DropRegionUses, EraseOp, EraseBlock, EraseRegion}
use Rattle.ir_model.proofs.Nests.{In-map_back, In-map}
use Rattle.ir_model.proofs.Back.{slice_get-in}
use Rattle.ir_model.proofs.Fresh.{take-in, drop-in, zip-firsts}
use Rattle.ir_model.proofs.Trees.{Sub-remove, Sub-map, Sub-in}
use Rattle.ir_model.proofs.KeepsEntries.{Puts, push-puts, insert-puts, replace-puts}
use Rattle.ir_model.proofs.Entries.{AddsOne-in}
use Rattle.ir_model.proofs.Keeps.{list_of-map}
use Rattle.ir_model.proofs.Removal.{read_off}

put_among : {A U : Type 0} (f : A → U) (new : List U) (x : A) (xs ys : List A) → Puts x xs ys → In (f x) new → (u : U) → In u (map f ys) → In u (map f xs) ⊎ In u new
put_among f new x xs ys p made u h =
    let at = In-map_back f u ys h in
    elim (AddsOne-in at.0 p.one at.1) [
      | inl e ↦ inr (subst (λ z. In z new) (sym (at.2 ∙ ap f e)) made)
      | inr k ↦ inl (subst (λ z. In z (map f xs)) (sym at.2) (In-map f at.0 xs (Sub-in at.0 p.fewer k)))
    ]

-- the numbers are as they were where each element keeps its own
mapped : {A U : Type 0} (f : A → U) (g : A → A) → ((x : A) → f (g x) ≡ f x) → (xs : List A) → map f (map g xs) ≡ map f xs
mapped f g same [] = refl
mapped f g same (x ∷ xs) = ap (λ y. y ∷ map f (map g xs)) (same x) ∙ ap (λ ys. f x ∷ ys) (mapped f g same xs)

module _ {N : Ids} where
  redirected_same : (old new : Value N) (p : Operand N) → (redirected old new p).use_number ≡ p.use_number
  redirected_same old new p = by (same_value N p.value old)
    where
      by : (b : Bool) → (cond b (record p { value = new }) p).use_number ≡ p.use_number
      by true = refl
      by false = refl

  retargeted_same : (old new : N.Block) (p : Successor N) → (retargeted old new p).use_number ≡ p.use_number
  retargeted_same old new p = by (N.same_block p.block old)
    where
      by : (b : Bool) → (cond b (record p { block = new }) p).use_number ≡ p.use_number
      by true = refl
      by false = refl

  -- the uses of a new operation have the first and the next of the new numbers
  made_operands : (uses : List N.UseNumber) (k : ℕ) (vs : List (Value N)) (u : N.UseNumber) → In u (map (λ (p : Operand N). p.use_number) (map operand (zip (take k uses) vs))) → In u uses
  made_operands uses k vs u h = take-in k uses u (zip-firsts operand (λ (p : Operand N). p.use_number) (λ p. refl) (take k uses) vs u h)

made_successors : (N : Ids) (uses : List N.UseNumber) (k : ℕ) (bs : List N.Block) (u : N.UseNumber) → In u (map (λ (p : Successor N). p.use_number) (map successor (zip (drop k uses) bs))) → In u uses
made_successors N uses k bs u h = drop-in k uses u (zip-firsts successor (λ (p : Successor N). p.use_number) (λ p. refl) (drop k uses) bs u h)

module _ {N : Ids} {W : Dialect} where
  abbrev pub operand_numbers : OpRecord N W → List N.UseNumber
  operand_numbers r = map (λ (p : Operand N). p.use_number) r.operands

  abbrev pub successor_numbers : OpRecord N W → List N.UseNumber
  successor_numbers r = map (λ (p : Successor N). p.use_number) r.successors

  -- each use number of g stood at the same operation, or is one of these
  pub record Places (m g : N.Op → Option (OpRecord N W)) (new : List N.UseNumber) : Type 0 where
    pub operands : (o : N.Op) (u : N.UseNumber) → In u (list_of operand_numbers (g o)) → In u (list_of operand_numbers (m o)) ⊎ In u new
    pub successors : (o : N.Op) (u : N.UseNumber) → In u (list_of successor_numbers (g o)) → In u (list_of successor_numbers (m o)) ⊎ In u new

  -- the same of one record that is rewritten
  pub record PlacesOf (G : OpRecord N W → OpRecord N W) (new : List N.UseNumber) : Type 0 where
    pub operands : (r : OpRecord N W) (u : N.UseNumber) → In u (operand_numbers (G r)) → In u (operand_numbers r) ⊎ In u new
    pub successors : (r : OpRecord N W) (u : N.UseNumber) → In u (successor_numbers (G r)) → In u (successor_numbers r) ⊎ In u new

  to : {m g h : N.Op → Option (OpRecord N W)} {new : List N.UseNumber} → g ≡ h → Places m h new → Places m g new
  to {m = m} {new = new} e p = subst (λ k. Places m k new) (sym e) p

  same_places : (m : N.Op → Option (OpRecord N W)) (new : List N.UseNumber) → Places m m new
  same_places m new = record { operands = λ o u h. inl h; successors = λ o u h. inl h }

  then_places : (m g h : N.Op → Option (OpRecord N W)) (new : List N.UseNumber) → Places m g new → Places g h new → Places m h new
  then_places m g h new a b = record {
    operands = λ o u k. elim (b.operands o u k) [ inl i ↦ a.operands o u i | inr i ↦ inr i ];
    successors = λ o u k. elim (b.successors o u k) [ inl i ↦ a.successors o u i | inr i ↦ inr i ];
  }

  -- a list that is read off a rewritten record
  read : (of : OpRecord N W → List N.UseNumber) (G : OpRecord N W → OpRecord N W) (new : List N.UseNumber) → ((r : OpRecord N W) (u : N.UseNumber) → In u (of (G r)) → In u (of r) ⊎ In u new)
      → (b : Bool) (x : Option (OpRecord N W)) (u : N.UseNumber) → In u (list_of of (cond b (option_map G x) x)) → In u (list_of of x) ⊎ In u new
  read of G new step true None u h = elim h [ ]
  read of G new step true (Some r) u h = step r u h
  read of G new step false x u h = inl h

  rewritten : (m : N.Op → Option (OpRecord N W)) (new : List N.UseNumber) (o : N.Op) (G : OpRecord N W → OpRecord N W) → PlacesOf G new → Places m (rewrite N.same_op o G m) new
  rewritten m new o G p = record {
    operands = λ x u h. read operand_numbers G new p.operands (N.same_op x o) (m x) u h;
    successors = λ x u h. read successor_numbers G new p.successors (N.same_op x o) (m x) u h;
  }

  all_rewritten : (m : N.Op → Option (OpRecord N W)) (new : List N.UseNumber) (G : OpRecord N W → OpRecord N W) → PlacesOf G new → Places m (λ o. option_map G (m o)) new
  all_rewritten m new G p = record {
    operands = λ x u h. read operand_numbers G new p.operands true (m x) u h;
    successors = λ x u h. read successor_numbers G new p.successors true (m x) u h;
  }

  put_at : (of : OpRecord N W → List N.UseNumber) (r : OpRecord N W) (new : List N.UseNumber) → ((u : N.UseNumber) → In u (of r) → In u new)
      → (b : Bool) (x : Option (OpRecord N W)) (u : N.UseNumber) → In u (list_of of (cond b (Some r) x)) → In u (list_of of x) ⊎ In u new
  put_at of r new all true x u h = inr (all u h)
  put_at of r new all false x u h = inl h

  put_op : (m : N.Op → Option (OpRecord N W)) (new : List N.UseNumber) (o : N.Op) (r : OpRecord N W) → ((u : N.UseNumber) → In u (operand_numbers r) → In u new) → ((u : N.UseNumber) → In u (successor_numbers r) → In u new)
      → Places m (put N.same_op o r m) new
  put_op m new o r operands successors = record {
    operands = λ x u h. put_at operand_numbers r new operands (N.same_op x o) (m x) u h;
    successors = λ x u h. put_at successor_numbers r new successors (N.same_op x o) (m x) u h;
  }

  -- no list of uses is touched
  keeps : {new : List N.UseNumber} {G : OpRecord N W → OpRecord N W} → ((r : OpRecord N W) → (operand_numbers (G r) ≡ operand_numbers r) × (successor_numbers (G r) ≡ successor_numbers r)) → PlacesOf G new
  keeps same = record { operands = λ r u h. inl (subst (In u) (same r).0 h); successors = λ r u h. inl (subst (In u) (same r).1 h) }

  puts_operand : (new : List N.UseNumber) (x : Operand N) (G : List (Operand N) → List (Operand N)) → ((ps : List (Operand N)) → Puts x ps (G ps)) → In x.use_number new → PlacesOf (on_operands G) new
  puts_operand new x G puts made = record {
    operands = λ r u h. put_among (λ (p : Operand N). p.use_number) new x r.operands (G r.operands) (puts r.operands) made u h;
    successors = λ r u h. inl h;
  }

  puts_successor : (new : List N.UseNumber) (x : Successor N) (G : List (Successor N) → List (Successor N)) → ((ps : List (Successor N)) → Puts x ps (G ps)) → In x.use_number new → PlacesOf (on_successors G) new
  puts_successor new x G puts made = record {
    operands = λ r u h. inl h;
    successors = λ r u h. put_among (λ (p : Successor N). p.use_number) new x r.successors (G r.successors) (puts r.successors) made u h;
  }

  takes_operand : (new : List N.UseNumber) (at : ℕ) → PlacesOf (on_operands (λ ps. remove ps at)) new
  takes_operand new at = record {
    operands = λ r u h. inl (Sub-in u (Sub-map (λ (p : Operand N). p.use_number) (Sub-remove r.operands at)) h);
    successors = λ r u h. inl h;
  }

  takes_successor : (new : List N.UseNumber) (at : ℕ) → PlacesOf (on_successors (λ ps. remove ps at)) new
  takes_successor new at = record {
    operands = λ r u h. inl h;
    successors = λ r u h. inl (Sub-in u (Sub-map (λ (p : Successor N). p.use_number) (Sub-remove r.successors at)) h);
  }

  redirects : (new : List N.UseNumber) (v w : Value N) → PlacesOf (on_operands (map (redirected v w))) new
  redirects new v w = keeps (λ r. (mapped (λ (p : Operand N). p.use_number) (redirected v w) (redirected_same v w) r.operands, refl))

  retargets : (new : List N.UseNumber) (b c : N.Block) → PlacesOf (on_successors (map (retargeted b c))) new
  retargets new b c = keeps (λ r. (refl, mapped (λ (p : Successor N). p.use_number) (retargeted b c) (retargeted_same b c) r.successors))

  dropped : (f g : Forest N W) (e : Entity N) (new : List N.UseNumber) → DropsUses f e g → Places f.ops g.ops new
  dropped f g e new d = record {
    operands = λ o u h. inl (elim (d.either o) [ inl k ↦ subst (λ x. In u (list_of operand_numbers x)) k h | inr k ↦ absurd (none operand_numbers (λ r. refl) (f.ops o) u (subst (λ x. In u (list_of operand_numbers x)) k h)) ]);
    successors = λ o u h. inl (elim (d.either o) [ inl k ↦ subst (λ x. In u (list_of successor_numbers x)) k h | inr k ↦ absurd (none successor_numbers (λ r. refl) (f.ops o) u (subst (λ x. In u (list_of successor_numbers x)) k h)) ]);
  }
    where
      none : (of : OpRecord N W → List N.UseNumber) → ((r : OpRecord N W) → of (no_uses r) ≡ []) → (x : Option (OpRecord N W)) (u : N.UseNumber) → In u (list_of of (option_map no_uses x)) → ⊥
      none of kept None u h = h
      none of kept (Some r) u h = subst (In u) (kept r) h

  removed : (f g : Forest N W) (e : Entity N) (new : List N.UseNumber) → Removes f e g → Places f.ops g.ops new
  removed f g e new d = record {
    operands = λ o u h. left operand_numbers (λ r. refl) o u h;
    successors = λ o u h. left successor_numbers (λ r. refl) o u h;
  }
    where
      left : (of : OpRecord N W → List N.UseNumber) → ((r : OpRecord N W) → of (on_regions (but e a_region) r) ≡ of r) → (o : N.Op) (u : N.UseNumber) → In u (list_of of (g.ops o)) → In u (list_of of (f.ops o)) ⊎ In u new
      left of same o u h =
          let at = read_off _ of (g.ops o) _ (d.ops_inside o) (d.ops_outside o) u h in
          inl (subst (In u) (list_of-map of (on_regions (but e a_region)) same (f.ops o)) at.1)

  region_moved : (f : Forest N W) (new : List N.UseNumber) (r : N.Region) (o : N.Op) → Places f.ops (move_region f r o).ops new
  region_moved f new r o = then_places f.ops (λ x. option_map (on_regions (without N.same_region r)) (f.ops x)) _ new (all_rewritten f.ops new _ (keeps (λ q. (refl, refl)))) (rewritten _ new o (on_regions (λ rs. rs ++ r ∷ [])) (keeps (λ q. (refl, refl))))

  moved_or_not : (b : Bool) (s t : State N W) (new : List N.UseNumber) (r : N.Region) (o : N.Op) → t ≡ (cond b s (over s (move_region s.forest r o))) → Places s.forest.ops t.forest.ops new
  moved_or_not true s t new r o e = to (ap (λ (x : State N W). x.forest.ops) e) (same_places s.forest.ops new)
  moved_or_not false s t new r o e = to (ap (λ (x : State N W). x.forest.ops) e) (region_moved s.forest new r o)

  pub Change-places : (B : Behaviour W) (edit : Edit W) (s t : State N W) (new : Fresh N) → Change B s edit new t → Places s.forest.ops t.forest.ops new.uses
  Change-places B (NewType key) s t new c = to (ap (λ (x : State N W). x.forest.ops) c) (same_places s.forest.ops new.uses)
  Change-places B (NewOp kind types operands successors regions) s t new c = to (ap (λ (x : State N W). x.forest.ops) c.holds) (put_op s.forest.ops new.uses _ _ (made_operands new.uses _ _) (made_successors N new.uses _ _))
  Change-places B (NewBlock label types) s t new c = to (ap (λ (x : State N W). x.forest.ops) c.holds) (same_places s.forest.ops new.uses)
  Change-places B (AddRegion n) s t new c = to (ap (λ (x : State N W). x.forest.ops) c.holds.holds) (rewritten s.forest.ops new.uses _ _ (keeps (λ r. (refl, refl))))
  Change-places B (PushResult n ty) s t new c = to (ap (λ (x : State N W). x.forest.ops) c.holds.holds.holds) (rewritten s.forest.ops new.uses _ _ (keeps (λ r. (refl, refl))))
  Change-places B (PushArgument n ty) s t new c = to (ap (λ (x : State N W). x.forest.ops) c.holds.holds.holds) (same_places s.forest.ops new.uses)
  Change-places B (InsertResult n at ty) s t new c = to (ap (λ (x : State N W). x.forest.ops) c.holds.holds.holds) (rewritten s.forest.ops new.uses _ _ (keeps (λ r. (refl, refl))))
  Change-places B (InsertArgument n at ty) s t new c = to (ap (λ (x : State N W). x.forest.ops) c.holds.holds.holds) (same_places s.forest.ops new.uses)
  Change-places B (RemoveResult n at) s t new c = to (ap (λ (x : State N W). x.forest.ops) c.holds) (rewritten s.forest.ops new.uses _ _ (keeps (λ r. (refl, refl))))
  Change-places B (RemoveArgument n at) s t new c = to (ap (λ (x : State N W). x.forest.ops) c.holds) (same_places s.forest.ops new.uses)
  Change-places B (PushOperand n v) s t new c = to (ap (λ (x : State N W). x.forest.ops) c.holds.holds.holds) (rewritten s.forest.ops new.uses _ _ (puts_operand new.uses _ _ (λ ps. push-puts _ ps) (slice_get-in new.uses 0 _ c.holds.holds.found)))
  Change-places B (PushSuccessor n m) s t new c = to (ap (λ (x : State N W). x.forest.ops) c.holds.holds.holds) (rewritten s.forest.ops new.uses _ _ (puts_successor new.uses _ _ (λ ps. push-puts _ ps) (slice_get-in new.uses 0 _ c.holds.holds.found)))
  Change-places B (InsertOperand n at v) s t new c = to (ap (λ (x : State N W). x.forest.ops) c.holds.holds.holds) (rewritten s.forest.ops new.uses _ _ (puts_operand new.uses _ _ (λ ps. insert-puts at _ ps) (slice_get-in new.uses 0 _ c.holds.holds.found)))
  Change-places B (InsertSuccessor n at m) s t new c = to (ap (λ (x : State N W). x.forest.ops) c.holds.holds.holds) (rewritten s.forest.ops new.uses _ _ (puts_successor new.uses _ _ (λ ps. insert-puts at _ ps) (slice_get-in new.uses 0 _ c.holds.holds.found)))
  Change-places B (RemoveOperand n at) s t new c = to (ap (λ (x : State N W). x.forest.ops) c.holds) (rewritten s.forest.ops new.uses _ _ (takes_operand new.uses at))
  Change-places B (RemoveSuccessor n at) s t new c = to (ap (λ (x : State N W). x.forest.ops) c.holds) (rewritten s.forest.ops new.uses _ _ (takes_successor new.uses at))
  Change-places B (ReplaceOperand n at v) s t new c = to (ap (λ (x : State N W). x.forest.ops) c.holds.holds.holds) (rewritten s.forest.ops new.uses _ _ (puts_operand new.uses _ _ (λ ps. replace-puts at _ ps) (slice_get-in new.uses 0 _ c.holds.holds.found)))
  Change-places B (ReplaceSuccessor n at m) s t new c = to (ap (λ (x : State N W). x.forest.ops) c.holds.holds.holds) (rewritten s.forest.ops new.uses _ _ (puts_successor new.uses _ _ (λ ps. replace-puts at _ ps) (slice_get-in new.uses 0 _ c.holds.holds.found)))
  Change-places B (ReplaceAllUses v w) s t new c = to (ap (λ (x : State N W). x.forest.ops) c.holds.holds) (all_rewritten s.forest.ops new.uses _ (redirects new.uses _ _))
  Change-places B (RetargetAll n m) s t new c = to (ap (λ (x : State N W). x.forest.ops) c.holds.holds) (all_rewritten s.forest.ops new.uses _ (retargets new.uses _ _))
  Change-places B (OpFront n m) s t new c = to (ap (λ (x : State N W). x.forest.ops) c.holds.holds) (same_places s.forest.ops new.uses)
  Change-places B (OpBack n m) s t new c = to (ap (λ (x : State N W). x.forest.ops) c.holds.holds) (same_places s.forest.ops new.uses)
  Change-places B (OpBefore n m) s t new c = to (ap (λ (x : State N W). x.forest.ops) c.holds.holds) (same_places s.forest.ops new.uses)
  Change-places B (OpAfter n m) s t new c = to (ap (λ (x : State N W). x.forest.ops) c.holds.holds) (same_places s.forest.ops new.uses)
  Change-places B (UnlinkOp n) s t new c = to (ap (λ (x : State N W). x.forest.ops) c.holds) (same_places s.forest.ops new.uses)
  Change-places B (UnlinkBlock n) s t new c = to (ap (λ (x : State N W). x.forest.ops) c.holds) (same_places s.forest.ops new.uses)
  Change-places B (BlockFront n m) s t new c = to (ap (λ (x : State N W). x.forest.ops) c.holds.holds) (same_places s.forest.ops new.uses)
  Change-places B (BlockBack n m) s t new c = to (ap (λ (x : State N W). x.forest.ops) c.holds.holds) (same_places s.forest.ops new.uses)
  Change-places B (BlockBefore n m) s t new c = to (ap (λ (x : State N W). x.forest.ops) c.holds.holds) (same_places s.forest.ops new.uses)
  Change-places B (BlockAfter n m) s t new c = to (ap (λ (x : State N W). x.forest.ops) c.holds.holds) (same_places s.forest.ops new.uses)
  Change-places B (AppendOps n m) s t new c = to (ap (λ (x : State N W). x.forest.ops) c.holds.holds.holds) (same_places s.forest.ops new.uses)
  Change-places B (AppendBlocks n m) s t new c = to (ap (λ (x : State N W). x.forest.ops) c.holds.holds.holds) (same_places s.forest.ops new.uses)
  Change-places B (MoveRegion n m) s t new c = moved_or_not _ s t new.uses _ _ c.holds.holds.holds
  Change-places B (DropOpUses n) s t new c = dropped s.forest t.forest _ new.uses c.holds.0
  Change-places B (DropBlockUses n) s t new c = dropped s.forest t.forest _ new.uses c.holds.0
  Change-places B (DropRegionUses n) s t new c = dropped s.forest t.forest _ new.uses c.holds.0
  Change-places B (EraseOp n) s t new c = removed s.forest t.forest _ new.uses c.holds.0
  Change-places B (EraseBlock n) s t new c = removed s.forest t.forest _ new.uses c.holds.0
  Change-places B (EraseRegion n at) s t new c = removed s.forest t.forest _ new.uses c.holds.holds.holds.0
