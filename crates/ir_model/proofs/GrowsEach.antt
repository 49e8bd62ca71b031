-- Every edit that is made keeps the forest well formed, and what it makes stands in the tables.
use mathlib.Core.Path.{◌≡◌, refl, sym, ap, ◌∙◌, subst}
use Rattle.std.proofs.Common.{ℕ, zero, suc, ◌<◌, ◌≤◌, ◌⊎◌, inl, inr, Bool, true, false, Option, Some, List, [], ◌∷◌, ◌++◌, map, cond, length, is_some}
use Rattle.std.specs.List.{insert, remove, zip}
use Rattle.std.specs.Prelude.{slice_get}
use Rattle.ir_model.specs.Ids.{Ids, Fresh, Counts, counts}
use Rattle.ir_model.specs.Forest.{Dialect, Behaviour, Definer, of_op, of_block, Value, Entity, Definition, OpRecord, BlockRecord, Forest, Operand, Successor, a_value}
use Rattle.ir_model.specs.Nesting.{In, list_of, IsLiveNamed, IsClosed, WellFormed, names_of}
use Rattle.ir_model.specs.Changes.{definition, operand, successor, on_op, on_block, on_region, on_ops, in_blocks, in_regions, on_results, on_arguments, on_operands, on_successors, put_before, put_after, move_region, Removes}
use Rattle.ir_model.specs.Edits.{Edit, State, over, The, Condition, Change, needs, no_needs, one_number, one_use, AddsValue, these, Unused, NewType, NewOp, NewBlock, AddRegion, PushResult, PushArgument, InsertResult, InsertArgument, RemoveResult, RemoveArgument, PushOperand, PushSuccessor, InsertOperand, InsertSuccessor, RemoveOperand, RemoveSuccessor, ReplaceOperand, ReplaceSuccessor, ReplaceAllUses, RetargetAll, OpFront, OpBack, OpBefore, OpAfter, UnlinkOp, UnlinkBlock, BlockFront, BlockBack, BlockBefore, BlockAfter, AppendOps, AppendBlocks, MoveRegion, DropOpUses, DropBlockUses, DropRegionUses, EraseOp, EraseBlock, EraseRegion}
use Rattle.ir_model.proofs.Loops.{Lawful}
use Rattle.ir_model.proofs.Nests.{In-left, In-right}
use Rattle.ir_model.proofs.Back.{slice_get-in}
use Rattle.ir_model.proofs.Entries.{AddsOne, here, AddsOne-push, AddsOne-insert}
use Rattle.ir_model.proofs.Trees.{Sub-remove}
use Rattle.ir_model.proofs.Parts.{Kept}
use Rattle.ir_model.proofs.KeepsLists.{op_into_keeps, op_beside_keeps, block_into_keeps, block_beside_keeps, joins_before, joins_after, UnlinkOp-kept, UnlinkBlock-kept, AppendOps-kept, AppendBlocks-kept}
use Rattle.ir_model.proofs.KeepsRegions.{MoveRegion-kept, AddRegion-kept}
use Rattle.ir_model.proofs.KeepsUses.{ReplaceAllUses-kept, RetargetAll-kept, DropsUses-kept}
use Rattle.ir_model.proofs.KeepsEntries.{Puts, push-puts, insert-puts, replace-puts, operand_kept, successor_kept, RemoveOperand-kept, RemoveSuccessor-kept}
use Rattle.ir_model.proofs.KeepsDefinitions.{Defines, KeptOrMade, made_kept, added_kept, removed_kept, defines_results, defines_arguments, defines_block}
use Rattle.ir_model.proofs.KeepsErase.{Removes-kept}
use Rattle.ir_model.proofs.Fresh.{NotIn, only, these-in, zip-firsts, zip-seconds, zip-distinct}
use Rattle.ir_model.proofs.Grows.{Grows, GrowsBy}
use Rattle.ir_model.proofs.GrowsNew.{append_none, numbers_more, numbered_in, grows_NewType, grows_NewOp}

-- it is there, and both hold of it
pub both : {A : Type 0} {m : Option A} {P Q : A → Type 0} → The m P → The m Q → The m (λ x. P x × Q x)
both {A} {m} {P} {Q} p q =
    let e : Some p.value ≡ Some q.value = sym p.found ∙ q.found in
    let f : p.value ≡ q.value = cc in
    record { value = q.value; found = q.found; holds = (subst P f p.holds, q.holds) }

-- what was in the list is the element at the place, or is left without it
remove-in : {A B : Type 0} (f : A → B) (xs : List A) (at : ℕ) (x : A) → slice_get xs at ≡ Some x → (b : B) → In b (map f xs) → (b ≡ f x) ⊎ In b (map f (remove xs at))
remove-in f [] at x e b h = elim h [ ]
remove-in f (y ∷ xs) zero x e b (inl s) = inl (let g : Some y ≡ Some x = e in let k : y ≡ x = cc in s ∙ ap f k)
remove-in f (y ∷ xs) zero x e b (inr h) = inr h
remove-in f (y ∷ xs) (suc at) x e b (inl s) = inr (inl s)
remove-in f (y ∷ xs) (suc at) x e b (inr h) = elim (remove-in f xs at x e b h) [ inl k ↦ inl k | inr k ↦ inr (inr k) ]

module _ {N : Ids} {W : Dialect} (s t : State N W) (new : Fresh N) (w : WellFormed s.forest (length s.store)) (stored : (k : ℕ) → In k s.tables.types → k < length s.store) where
  -- the tables are as they were
  grows_over : (g : Forest N W) (uses : ℕ) → t ≡ over s g → counts N new ≡ record no_needs { uses = uses } → Kept s.forest g (length s.store) new.uses → Grows s t new
  grows_over g uses e many k = rw e (record {
    forest = k.forest;
    stored = stored;
    ops = append_none _ _ (ap (λ (n : Counts). n.ops) many);
    blocks = append_none _ _ (ap (λ (n : Counts). n.blocks) many);
    regions = append_none _ _ (ap (λ (n : Counts). n.regions) many);
    numbers = append_none _ _ (ap (λ (n : Counts). n.numbers) many);
    values = λ v h. h;
    live_values = λ v h. inl (k.values v h);
    uses = k.uses;
  })

  -- one value more
  grows_value : (g : Forest N W) (d : Definer N) (n : N.ValueNumber) (xs ys : List (Definition N W)) (defines : Defines s.forest g d xs ys) → slice_get new.numbers 0 ≡ Some n
      → t ≡ record s { forest = g; tables = record (s.tables) { values = s.tables.values ++ record { definer = d; number = n } ∷ [] } }
      → counts N new ≡ one_number → KeptOrMade s.forest g d xs ys (length s.store) w defines (n ∷ []) → Grows s t new
  grows_value g d n xs ys defines first e many k =
      let alone : new.numbers ≡ n ∷ [] = only new.numbers n (ap (λ (c : Counts). c.numbers) many) first in
      rw e (record {
        forest = k.forest;
        stored = stored;
        ops = append_none _ _ (ap (λ (c : Counts). c.ops) many);
        blocks = append_none _ _ (ap (λ (c : Counts). c.blocks) many);
        regions = append_none _ _ (ap (λ (c : Counts). c.regions) many);
        numbers = numbers_more d s.tables.values (n ∷ []) ∙ ap (λ ns. map (λ (v : Value N). v.number) s.tables.values ++ ns) (sym alone);
        values = λ v h. In-left v s.tables.values _ h;
        live_values = λ v h. elim (k.values v h) [ inl i ↦ inl i | inr i ↦ inr (In-right v s.tables.values _ (numbered_in v d (n ∷ []) i.0 i.1), rw alone i.1) ];
        uses = λ o u h. inl (k.uses o u h);
      })

module _ {N : Ids} {W : Dialect} (B : Behaviour W) (L : Lawful N) (s t : State N W) (new : Fresh N) (w : WellFormed s.forest (length s.store)) (stored : (k : ℕ) → In k s.tables.types → k < length s.store)
    (fresh : NotIn s.forest new) where
  abbrev f : Forest N W
  f = s.forest

  abbrev keys : ℕ
  keys = length s.store

  abbrev Owes : Edit W → Type 0
  Owes edit = Condition s edit → counts N new ≡ needs edit → Change B s edit new t → Grows s t new

  op_into : (n m : ℕ) (G : N.Op → List N.Op → List N.Op) → ((o : N.Op) (xs : List N.Op) → AddsOne o xs (G o xs))
      → Condition s (OpBack n m) → counts N new ≡ no_needs → The (slice_get s.tables.ops n) (λ o. The (slice_get s.tables.blocks m) (λ b. t ≡ over s (on_block s.forest b (on_ops (G o))))) → Grows s t new
  op_into n m G adds c many d =
      let op = both c d in
      let block = both op.holds.0.holds op.holds.1 in
      grows_over s t new w stored _ 0 block.holds.1 many
      (op_into_keeps L f keys new.uses w op.value (ap is_some op.holds.0.found) block.holds.0.holds.0 block.value (G op.value) (adds op.value) block.holds.0.holds.1)

  op_beside : (n m : ℕ) (G : N.Op → N.Op → List N.Op → List N.Op) → ((o mark : N.Op) (xs : List N.Op) → (G o mark xs ≡ xs) ⊎ (AddsOne o xs (G o mark xs) × In mark xs))
      → Condition s (OpBefore n m) → counts N new ≡ no_needs → The (slice_get s.tables.ops n) (λ o. The (slice_get s.tables.ops m) (λ mark. t ≡ over s (in_blocks f (G o mark)))) → Grows s t new
  op_beside n m G joins c many d =
      let op = both c d in
      let mark = both op.holds.0.holds op.holds.1 in
      let place = mark.holds.0.holds in
      grows_over s t new w stored _ 0 mark.holds.1 many
      (op_beside_keeps L f keys new.uses w op.value (ap is_some op.holds.0.found) place.0 mark.value place.1.0 (G op.value mark.value) (joins op.value mark.value) place.1.1 place.1.2)

  block_into : (n m : ℕ) (G : N.Block → List N.Block → List N.Block) → ((b : N.Block) (xs : List N.Block) → AddsOne b xs (G b xs))
      → Condition s (BlockBack n m) → counts N new ≡ no_needs → The (slice_get s.tables.blocks n) (λ b. The (slice_get s.tables.regions m) (λ r. t ≡ over s (on_region f r (G b)))) → Grows s t new
  block_into n m G adds c many d =
      let block = both c d in
      let region = both block.holds.0.holds block.holds.1 in
      grows_over s t new w stored _ 0 region.holds.1 many
      (block_into_keeps L f keys new.uses w block.value (ap is_some block.holds.0.found) region.holds.0.1.0 region.value (G block.value) (adds block.value) region.holds.0.1.1)

  block_beside : (n m : ℕ) (G : N.Block → N.Block → List N.Block → List N.Block) → ((b mark : N.Block) (xs : List N.Block) → (G b mark xs ≡ xs) ⊎ (AddsOne b xs (G b mark xs) × In mark xs))
      → Condition s (BlockBefore n m) → counts N new ≡ no_needs → The (slice_get s.tables.blocks n) (λ b. The (slice_get s.tables.blocks m) (λ mark. t ≡ over s (in_regions f (G b mark)))) → Grows s t new
  block_beside n m G joins c many d =
      let block = both c d in
      let mark = both block.holds.0.holds block.holds.1 in
      let place = mark.holds.0.holds in
      grows_over s t new w stored _ 0 mark.holds.1 many
      (block_beside_keeps L f keys new.uses w block.value (ap is_some block.holds.0.found) place.0 mark.value place.1.0 (G block.value mark.value) (joins block.value mark.value) place.1.1 place.1.2)

  unchanged : Kept f f keys new.uses
  unchanged = record { forest = w; values = λ v h. h; uses = λ o u h. inl h }

  moved_or_not : (r : N.Region) (o : N.Op) (b : Bool) → counts N new ≡ no_needs → t ≡ cond b s (over s (move_region f r o)) → Kept f (move_region f r o) keys new.uses → Grows s t new
  moved_or_not r o true many e k = grows_over s t new w stored f 0 e many unchanged
  moved_or_not r o false many e k = grows_over s t new w stored _ 0 e many k

  erased : (e : Entity N) → counts N new ≡ no_needs → Removes f e t.forest → t ≡ over s t.forest → IsClosed f e → Grows s t new
  erased e many removes is closed = grows_over s t new w stored t.forest 0 is many (Removes-kept L f t.forest e keys w removes new.uses closed)

  puts_operand : (n v : ℕ) (G : Operand N → List (Operand N) → List (Operand N)) → ((p : Operand N) (ps : List (Operand N)) → Puts p ps (G p ps))
      → Condition s (PushOperand n v) → counts N new ≡ one_use
      → The (slice_get s.tables.ops n) (λ o. The (slice_get s.tables.values v) (λ x. The (slice_get new.uses 0) (λ u. t ≡ over s (on_op f o (on_operands (G (operand (u, x)))))))) → Grows s t new
  puts_operand n v G puts c many d =
      let op = both c d in
      let value = both op.holds.0.holds op.holds.1 in
      let named = value.holds.1 in
      let made = slice_get-in new.uses 0 named.value named.found in
      grows_over s t new w stored _ 1 named.holds many
      (operand_kept L f keys new.uses w op.value op.holds.0.value op.holds.0.found (G (operand (named.value, value.value))) named.value value.value (puts (operand (named.value, value.value))) made (λ p. fresh.uses p named.value made) value.holds.0.0)

  puts_successor : (n m : ℕ) (G : Successor N → List (Successor N) → List (Successor N)) → ((p : Successor N) (ps : List (Successor N)) → Puts p ps (G p ps))
      → Condition s (PushSuccessor n m) → counts N new ≡ one_use
      → The (slice_get s.tables.ops n) (λ o. The (slice_get s.tables.blocks m) (λ b. The (slice_get new.uses 0) (λ u. t ≡ over s (on_op f o (on_successors (G (successor (u, b)))))))) → Grows s t new
  puts_successor n m G puts c many d =
      let op = both c d in
      let block = both op.holds.0.holds op.holds.1 in
      let named = block.holds.1 in
      let made = slice_get-in new.uses 0 named.value named.found in
      grows_over s t new w stored _ 1 named.holds many
      (successor_kept L f keys new.uses w op.value op.holds.0.value op.holds.0.found (G (successor (named.value, block.value))) named.value block.value (puts (successor (named.value, block.value))) made (λ p. fresh.uses p named.value made) (ap is_some block.holds.0.found))

  -- whatever else holds of the operation and the value
  some_operand : (n v : ℕ) {P : OpRecord N W → Type 0} → The (slice_get s.tables.ops n) (λ o. The (f.ops o) (λ r. The (slice_get s.tables.values v) (λ x. IsLiveNamed f (a_value x) × P r))) → Condition s (PushOperand n v)
  some_operand n v c = record { value = c.value; found = c.found; holds = record { value = c.holds.value; found = c.holds.found; holds = record { value = c.holds.holds.value; found = c.holds.holds.found; holds = (c.holds.holds.holds.0, tt) } } }

  some_successor : (n m : ℕ) {P : OpRecord N W → Type 0} → The (slice_get s.tables.ops n) (λ o. The (f.ops o) (λ r. The (slice_get s.tables.blocks m) (λ b. The (f.blocks b) (λ q. P r)))) → Condition s (PushSuccessor n m)
  some_successor n m c = record { value = c.value; found = c.found; holds = record { value = c.holds.value; found = c.holds.found; holds = record { value = c.holds.holds.value; found = c.holds.holds.found; holds = record { value = c.holds.holds.holds.value; found = c.holds.holds.holds.found; holds = tt } } } }

  puts_result : (n ty : ℕ) (G : Definition N W → List (Definition N W) → List (Definition N W)) → ((x : Definition N W) (xs : List (Definition N W)) → AddsOne x xs (G x xs))
      → The (slice_get s.tables.ops n) (λ o. The (f.ops o) (λ r. Unit {0})) → counts N new ≡ one_number
      → The (slice_get s.tables.ops n) (λ o. The (slice_get s.tables.types ty) (λ y. AddsValue s new (of_op o) (λ x. on_op f o (on_results (G (definition (x, y))))) t)) → Grows s t new
  puts_result n ty G adds c many d =
      let op = both c d in
      let kind = op.holds.1 in
      let number = kind.holds in
      let x = definition (number.value, kind.value) in
      let defines = defines_results L f (G x) op.value op.holds.0.value op.holds.0.found in
      grows_value s t new w stored _ (of_op op.value) number.value _ _ defines number.found number.holds many
      (added_kept f _ (of_op op.value) _ _ keys w defines x (adds x _) (λ e. fresh.numbers e number.value (slice_get-in new.numbers 0 number.value number.found)) (stored kind.value (slice_get-in s.tables.types ty kind.value kind.found))
      (ap (list_of (λ (r : OpRecord N W). r.results)) op.holds.0.found))

  puts_argument : (n ty : ℕ) (G : Definition N W → List (Definition N W) → List (Definition N W)) → ((x : Definition N W) (xs : List (Definition N W)) → AddsOne x xs (G x xs))
      → The (slice_get s.tables.blocks n) (λ b. The (f.blocks b) (λ r. Unit {0})) → counts N new ≡ one_number
      → The (slice_get s.tables.blocks n) (λ b. The (slice_get s.tables.types ty) (λ y. AddsValue s new (of_block b) (λ x. on_block f b (on_arguments (G (definition (x, y))))) t)) → Grows s t new
  puts_argument n ty G adds c many d =
      let block = both c d in
      let kind = block.holds.1 in
      let number = kind.holds in
      let x = definition (number.value, kind.value) in
      let defines = defines_arguments L f (G x) block.value block.holds.0.value block.holds.0.found in
      grows_value s t new w stored _ (of_block block.value) number.value _ _ defines number.found number.holds many
      (added_kept f _ (of_block block.value) _ _ keys w defines x (adds x _) (λ e. fresh.numbers e number.value (slice_get-in new.numbers 0 number.value number.found)) (stored kind.value (slice_get-in s.tables.types ty kind.value kind.found))
      (ap (list_of (λ (r : BlockRecord N W). r.arguments)) block.holds.0.found))

  -- nothing names what is removed
  still_there : (d : Definer N) (xs : List (Definition N W)) (at : ℕ) (x : Definition N W) → slice_get xs at ≡ Some x → Unused f (a_value (record { definer = d; number = x.number }))
      → (o : N.Op) (v : Value N) → In (a_value v) (names_of f o) → v.definer ≡ d → In v.number (map (λ (y : Definition N W). y.number) xs) → In v.number (map (λ (y : Definition N W). y.number) (remove xs at))
  still_there d xs at x found unused o v h e i = elim (remove-in (λ (y : Definition N W). y.number) xs at x found v.number i) [
    | inl k ↦ absurd (unused o (subst (λ z. In (a_value z) (names_of f o)) (λ j. record { definer = e j; number = k j }) h))
    | inr k ↦ k
  ]

  pub each : (edit : Edit W) → Owes edit
  each (NewType key) c many d = grows_NewType B key s t new w stored c many fresh d
  each (NewOp kind types operands successors regions) c many d = grows_NewOp B L kind types operands successors regions s t new w stored c many fresh d
  each (OpFront n m) c many d = op_into n m (λ o os. o ∷ os) (λ o xs. here) c many d
  each (OpBack n m) c many d = op_into n m (λ o os. os ++ o ∷ []) AddsOne-push c many d
  each (OpBefore n m) c many d = op_beside n m (put_before N.same_op) (joins_before N.same_op L.ops) c many d
  each (OpAfter n m) c many d = op_beside n m (put_after N.same_op) (joins_after N.same_op L.ops) c many d
  each (BlockFront n m) c many d = block_into n m (λ b bs. b ∷ bs) (λ b xs. here) c many d
  each (BlockBack n m) c many d = block_into n m (λ b bs. bs ++ b ∷ []) AddsOne-push c many d
  each (BlockBefore n m) c many d = block_beside n m (put_before N.same_block) (joins_before N.same_block L.blocks) c many d
  each (BlockAfter n m) c many d = block_beside n m (put_after N.same_block) (joins_after N.same_block L.blocks) c many d
  each (UnlinkOp n) c many d = grows_over s t new w stored _ 0 d.holds many (UnlinkOp-kept L f keys new.uses w d.value)
  each (UnlinkBlock n) c many d = grows_over s t new w stored _ 0 d.holds many (UnlinkBlock-kept L f keys new.uses w d.value)
  each (AppendOps n m) c many d =
      let donee = both c d in
      let donor = both donee.holds.0.holds donee.holds.1 in
      let found = both donor.holds.0 donor.holds.1 in
      grows_over s t new w stored _ 0 found.holds.1 many
      (AppendOps-kept L f keys new.uses w donee.value donor.value found.value found.found found.holds.0.0 (λ x h. (found.holds.0.1 x h).0))
  each (AppendBlocks n m) c many d =
      let donee = both c d in
      let donor = both donee.holds.0.1 donee.holds.1 in
      let found = donor.holds.1 in
      grows_over s t new w stored _ 0 found.holds many
      (AppendBlocks-kept L f keys new.uses w donee.value donor.value found.value found.found donor.holds.0.1.0 (λ x h. (donor.holds.0.1.1 x h).0))
  each (MoveRegion n m) c many d =
      let region = both c d in
      let op = both region.holds.0.1 region.holds.1 in
      let found = both op.holds.0 op.holds.1 in
      moved_or_not region.value op.value _ many found.holds.1 (MoveRegion-kept L f keys new.uses w region.value op.value found.value found.found region.holds.0.0 found.holds.0)
  each (DropOpUses n) c many d = grows_over s t new w stored t.forest 0 d.holds.1 many (DropsUses-kept f keys new.uses w t.forest _ d.holds.0)
  each (DropBlockUses n) c many d = grows_over s t new w stored t.forest 0 d.holds.1 many (DropsUses-kept f keys new.uses w t.forest _ d.holds.0)
  each (DropRegionUses n) c many d = grows_over s t new w stored t.forest 0 d.holds.1 many (DropsUses-kept f keys new.uses w t.forest _ d.holds.0)
  each (EraseOp n) c many d = let op = both c d in erased _ many op.holds.1.0 op.holds.1.1 op.holds.0.holds
  each (EraseBlock n) c many d = let block = both c d in erased _ many block.holds.1.0 block.holds.1.1 block.holds.0.holds
  each (EraseRegion n at) c many d =
      let op = both c d in
      let found = both op.holds.0 op.holds.1 in
      let region = both found.holds.0 found.holds.1 in
      erased _ many region.holds.1.0 region.holds.1.1 region.holds.0
  each (ReplaceAllUses v x) c many d =
      let old = both c d in
      let other = both old.holds.0.1 old.holds.1 in
      grows_over s t new w stored _ 0 other.holds.1 many (ReplaceAllUses-kept f keys new.uses w old.value other.value other.holds.0.0)
  each (RetargetAll n m) c many d =
      let old = both c d in
      let other = both old.holds.0.holds old.holds.1 in
      grows_over s t new w stored _ 0 other.holds.1 many (RetargetAll-kept f keys new.uses w old.value other.value (ap is_some other.holds.0.found))
  each (RemoveOperand n at) c many d =
      let op = both c d in
      grows_over s t new w stored _ 0 op.holds.1 many (RemoveOperand-kept L f keys new.uses w op.value op.holds.0.value op.holds.0.found at)
  each (RemoveSuccessor n at) c many d =
      let op = both c d in
      grows_over s t new w stored _ 0 op.holds.1 many (RemoveSuccessor-kept L f keys new.uses w op.value op.holds.0.value op.holds.0.found at)
  each (PushOperand n v) c many d = puts_operand n v (λ p ps. ps ++ p ∷ []) push-puts c many d
  each (InsertOperand n at v) c many d = puts_operand n v (λ p ps. insert ps at p) (insert-puts at) (some_operand n v {P = λ r. at ≤ length r.operands} c) many d
  each (ReplaceOperand n at v) c many d = puts_operand n v (λ p ps. insert (remove ps at) at p) (replace-puts at) (some_operand n v {P = λ r. at < length r.operands} c) many d
  each (PushSuccessor n m) c many d = puts_successor n m (λ p ps. ps ++ p ∷ []) push-puts c many d
  each (InsertSuccessor n at m) c many d = puts_successor n m (λ p ps. insert ps at p) (insert-puts at) (some_successor n m {P = λ r. at ≤ length r.successors} c) many d
  each (ReplaceSuccessor n at m) c many d = puts_successor n m (λ p ps. insert (remove ps at) at p) (replace-puts at) (some_successor n m {P = λ r. at < length r.successors} c) many d
  each (PushResult n ty) c many d = puts_result n ty (λ x xs. xs ++ x ∷ []) AddsOne-push c.0 many d
  each (PushArgument n ty) c many d = puts_argument n ty (λ x xs. xs ++ x ∷ []) AddsOne-push c.0 many d
  each (InsertResult n at ty) c many d = puts_result n ty (λ x xs. insert xs at x) (λ x xs. AddsOne-insert x xs at) (record { value = c.0.value; found = c.0.found; holds = record { value = c.0.holds.value; found = c.0.holds.found; holds = tt } }) many d
  each (InsertArgument n at ty) c many d = puts_argument n ty (λ x xs. insert xs at x) (λ x xs. AddsOne-insert x xs at) (record { value = c.0.value; found = c.0.found; holds = record { value = c.0.holds.value; found = c.0.holds.found; holds = tt } }) many d
  each (RemoveResult n at) c many d =
      let op = both c d in
      let r = op.holds.0 in
      let defines = defines_results L f (λ xs. remove xs at) op.value r.value r.found in
      grows_over s t new w stored _ 0 op.holds.1 many
      (removed_kept f _ (of_op op.value) _ _ keys w defines new.uses (Sub-remove r.value.results at) (still_there (of_op op.value) r.value.results at r.holds.value r.holds.found r.holds.holds))
  each (RemoveArgument n at) c many d =
      let block = both c d in
      let r = block.holds.0 in
      let defines = defines_arguments L f (λ xs. remove xs at) block.value r.value r.found in
      grows_over s t new w stored _ 0 block.holds.1 many
      (removed_kept f _ (of_block block.value) _ _ keys w defines new.uses (Sub-remove r.value.arguments at) (still_there (of_block block.value) r.value.arguments at r.holds.value r.holds.found r.holds.holds))
  each (AddRegion n) c many d =
      let op = both c d in
      let region = op.holds.1 in
      let kept = AddRegion-kept L f keys new.uses w region.value op.value op.holds.0.value op.holds.0.found (fresh.regions region.value (slice_get-in new.regions 0 region.value region.found)) in
      rw region.holds (record {
        forest = kept.forest;
        stored = stored;
        ops = append_none _ _ (ap (λ (c : Counts). c.ops) many);
        blocks = append_none _ _ (ap (λ (c : Counts). c.blocks) many);
        regions = ap (λ xs. s.tables.regions ++ xs) (sym (only new.regions region.value (ap (λ (c : Counts). c.regions) many) region.found));
        numbers = append_none _ _ (ap (λ (c : Counts). c.numbers) many);
        values = λ v h. h;
        live_values = λ v h. inl (kept.values v h);
        uses = kept.uses;
      })
  each (NewBlock label types) c many d =
      let arguments = map definition (zip new.numbers (these s.tables.types types)) in
      let dead = fresh.blocks d.value (slice_get-in new.blocks 0 d.value d.found) in
      let defines = defines_block L f d.value B.unknown label arguments dead in
      let number : Definition N W → N.ValueNumber = λ x. x.number in
      let kept = made_kept f _ (of_block d.value) [] arguments keys w defines new.numbers (λ n h. elim h [ ])
      (λ n h. inr (zip-firsts definition number (λ p. refl) new.numbers (these s.tables.types types) n h)) fresh.numbers
      (λ _. zip-distinct definition number (λ p. refl) new.numbers (these s.tables.types types) fresh.distinct.numbers)
      (λ k h. inr (let at = zip-seconds definition (λ y. y) (λ (x : Definition N W). x.ty) (λ p. refl) new.numbers (these s.tables.types types) k h in rw at.2 (stored at.0 (these-in s.tables.types types at.0 at.1)))) in
      rw d.holds (record {
        forest = kept.forest;
        stored = stored;
        ops = append_none _ _ (ap (λ (c : Counts). c.ops) many);
        blocks = ap (λ xs. s.tables.blocks ++ xs) (sym (only new.blocks d.value (ap (λ (c : Counts). c.blocks) many) d.found));
        regions = append_none _ _ (ap (λ (c : Counts). c.regions) many);
        numbers = numbers_more (of_block d.value) s.tables.values new.numbers;
        values = λ v h. In-left v s.tables.values _ h;
        live_values = λ v h. elim (kept.values v h) [ inl i ↦ inl i | inr i ↦ inr (In-right v s.tables.values _ (numbered_in v (of_block d.value) new.numbers i.0 i.1), i.1) ];
        uses = λ o u h. inl (kept.uses o u h);
      })

pub grows_each : {N : Ids} {W : Dialect} (B : Behaviour W) → Lawful N → (edit : Edit W) → GrowsBy N B edit
grows_each B L edit s t new w stored c many fresh d = each B L s t new w stored fresh edit c many d
