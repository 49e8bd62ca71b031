-- In a sound session each edit's condition is decided, since all that is live is listed.
use mathlib.Core.Path.{◌≡◌, refl, sym, ap, subst}
use Rattle.std.proofs.Common.{ℕ, zero, suc, ◌+◌, ◌≤◌, ◌≢◌, ◌⊎◌, inl, inr, true, Option, Some, None, List, [], ◌∷◌, ◌++◌, map, length, IsSome, arith}
use Rattle.ir_model.specs.declared.ids.ArenaIndex.{ArenaIndex}
use Rattle.ir_model.specs.ContextIds.{context_ids}
use Rattle.ir_model.specs.Forest.{Dialect, Value, OpRecord, BlockRecord, Forest, Operand, Successor, Entity, an_op, a_block, a_region, same_entity, same_value, Named, a_value, the_block, owner}
use Rattle.ir_model.specs.Nesting.{In, Within, itself, below, list_of, children, Inside, IsLinked, IsClosed, names_of}
use Rattle.ir_model.specs.Edits.{Edit, Condition, The, Each, KnownTypes, LiveOp, LiveBlock, LiveRegion, LiveValue, Unused, UsersLinked, MayGoInto, MayGoBeside, MayJoin, NewType, NewOp, NewBlock, AddRegion, PushResult, PushArgument, InsertResult, InsertArgument, RemoveResult, RemoveArgument, PushOperand, PushSuccessor, InsertOperand, InsertSuccessor, RemoveOperand, RemoveSuccessor, ReplaceOperand, ReplaceSuccessor, ReplaceAllUses, RetargetAll, OpFront, OpBack, OpBefore, OpAfter, UnlinkOp, UnlinkBlock, BlockFront, BlockBack, BlockBefore, BlockAfter, AppendOps, AppendBlocks, MoveRegion, DropOpUses, DropBlockUses, DropRegionUses, EraseOp, EraseBlock, EraseRegion}
use Rattle.ir_model.specs.Sessions.{Session}
use Rattle.ir_model.specs.Soundness.{Sound}
use Rattle.ir_model.proofs.Renaming.{Tells}
use Rattle.ir_model.proofs.TwoRuns.{lawful, number_tells}
use Rattle.ir_model.proofs.Nests.{In-left, In-right, In-map, In-append, Within-trans}
use Rattle.ir_model.proofs.KeepsErase.{same_self, same_tells}
use Rattle.ir_model.proofs.Entries.{AddsOne-in}
use Rattle.ir_model.proofs.Removal.{splits, AddsOne-length}
use Rattle.ir_model.proofs.Redirected.{value_tells}
use Rattle.ir_model.proofs.Decided.{Decided, some_so, not_so, both, either, instead, at_most, one, in_list, all, some}

entity_tells : Tells (same_entity context_ids)
entity_tells x y = (same_tells context_ids lawful x y, λ e. subst (λ z. same_entity context_ids x z ≡ true) e (same_self context_ids lawful x))

-- whether the two are one
same_named : (d e : Named context_ids) → Decided (d ≡ e)
same_named (a_value v) (a_value w) = instead (ap a_value) (λ h. cc) (one (same_value context_ids) (value_tells lawful) v w)
same_named (the_block b) (the_block c) = instead (ap the_block) (λ h. cc) (one context_ids.same_block lawful.blocks b c)
same_named (a_value v) (the_block c) = inr (λ h. absurd cc)
same_named (the_block b) (a_value w) = inr (λ h. absurd cc)

in_names : (d : Named context_ids) (ds : List (Named context_ids)) → Decided (In d ds)
in_names d [] = inr (λ h. h)
in_names d (e ∷ ds) = either (same_named d e) (in_names d ds)

-- it is there and has the property, or not
the_so : {A : Type 0} {P : A → Type 0} (m : Option A) → ((x : A) → Decided (P x)) → Decided (The m P)
the_so None d = inr (λ t. (let e = t.found in absurd cc))
the_so {P = P} (Some x) d = instead (λ p. record { value = x; found = refl; holds = p }) (λ t. (let e : Some x ≡ Some t.value = t.found in let f : t.value ≡ x = cc in subst P f t.holds)) (d x)

each_so : {P : ℕ → Type 0} → ((n : ℕ) → Decided (P n)) → (ns : List ℕ) → Decided (Each P ns)
each_so d [] = inl tt
each_so d (n ∷ ns) = both (d n) (each_so d ns)

yes_so : Decided (Unit {0})
yes_so = inl tt

-- where a list that is read off a record has something, there is a record
has_record : {A B : Type 0} (of : B → List A) (m : Option B) (x : A) → In x (list_of of m) → IsSome m
has_record of None x h = elim h [ ]
has_record of (Some r) x h = refl

has_child : {A B : Type 0} (c : A → Entity context_ids) (of : B → List A) (m : Option B) (x : Entity context_ids) → In x (map c (list_of of m)) → IsSome m
has_child c of None x h = elim h [ ]
has_child c of (Some r) x h = refl

named_reads : {A B : Type 0} (g : A → Named context_ids) (of : B → List A) (m : Option B) (d : Named context_ids) → In d (map g (list_of of m)) → IsSome m
named_reads g of None d h = elim h [ ]
named_reads g of (Some r) d h = refl

-- where the one is decided and the other is decided, so is that the other follows
follows : {P Q : Type 0} → Decided P → Decided Q → Decided (P → Q)
follows (inr n) d = inl (λ p. absurd (n p))
follows (inl p) (inl q) = inl (λ _. q)
follows (inl p) (inr n) = inr (λ h. n (h p))

three : {P Q R : Type 0} → Decided P → Decided Q → Decided R → Decided (P × Q × R)
three p q r = instead (λ h. (h.0, h.1.0, h.1.1)) (λ h. (h.0, (h.1, h.2))) (both p (both q r))

-- what is inside is the thing itself, or a child of something inside
inside_by : {E : Type 0} {lists : E → List E} (e a : E) → Within lists e a → (e ≡ a) ⊎ ((c : E) × In a (lists c) × Within lists e c)
inside_by e _ itself = inl refl
inside_by e a (below {c = c} h w) = inr (c, h, w)

module _ {W : Dialect} (s : Session W) (k : Sound s) where
  abbrev f : Forest context_ids W
  f = s.state.forest

  abbrev listed : List (Entity context_ids)
  listed = map an_op s.state.tables.ops ++ (map a_block s.state.tables.blocks ++ map a_region s.state.tables.regions)

  -- what has a child is listed
  parent_listed : (x y : Entity context_ids) → In x (children f y) → In y listed
  parent_listed x (an_op o) h = In-left _ _ _ (In-map an_op o s.state.tables.ops (k.listed.ops o (has_child a_region _ (f.ops o) x h)))
  parent_listed x (a_block b) h = In-right _ (map an_op s.state.tables.ops) _ (In-left _ _ _ (In-map a_block b s.state.tables.blocks (k.listed.blocks b (has_child an_op _ (f.blocks b) x h))))
  parent_listed x (a_region r) h = In-right _ (map an_op s.state.tables.ops) _ (In-right _ (map a_block s.state.tables.blocks) _ (In-map a_region r s.state.tables.regions (k.listed.regions r (has_child a_block _ (f.regions r) x h))))

  child_so : (x y : Entity context_ids) → Decided (In x (children f y))
  child_so x y = in_list (same_entity context_ids) entity_tells x (children f y)

  parent_so : (x : Entity context_ids) → Decided ((y : Entity context_ids) × In y listed × In x (children f y))
  parent_so x = some (λ y. In x (children f y)) (child_so x) listed

  -- all that is listed is among these, or inside a
  abbrev Covers : Entity context_ids → List (Entity context_ids) → Type 0
  Covers a left = (x : Entity context_ids) → In x listed → In x left ⊎ Inside f a x

  up : (e a y : Entity context_ids) → e ≢ a → In a (children f y) → Inside f e a → Inside f e y
  up e a y differ c h = elim (inside_by e a h) [
    | inl same ↦ absurd (differ same)
    | inr p ↦ subst (λ z. Inside f e z) (k.forest.nested.one_list a p.0 y p.1 c) p.2
  ]

  -- the parent is not inside, so it is among those that are left
  parent_left : (a y : Entity context_ids) (left : List (Entity context_ids)) → Covers a left → In y listed → In a (children f y) → In y left
  parent_left a y left covers i c = elim (covers y i) [ inl h ↦ h | inr w ↦ absurd (k.forest.nested.no_cycle a y c w) ]

  -- by its parent, where it is another one
  climb_by : (e a : Entity context_ids) → Decided (e ≡ a) → Decided ((y : Entity context_ids) × In y listed × In a (children f y)) → ((y : Entity context_ids) → In y listed → In a (children f y) → Decided (Inside f e y)) → Decided (Inside f e a)
  climb_by e a (inl same) p above = inl (subst (λ z. Inside f e z) same itself)
  climb_by e a (inr differ) (inr none) above = inr (λ h. elim (inside_by e a h) [ inl same ↦ differ same | inr p ↦ none (p.0, parent_listed a p.0 p.1, p.1) ])
  climb_by e a (inr differ) (inl p) above = instead (λ h. below p.2 h) (up e a p.0 differ p.2) (above p.0 p.1 p.2)

  -- one is left fewer with each parent
  fewer : (a y : Entity context_ids) (left : List (Entity context_ids)) → Covers a left → In y listed → In a (children f y) → (rest : List (Entity context_ids)) × (length left ≡ length rest + 1) × Covers y rest
  fewer a y left covers i c =
      let at = splits y left (parent_left a y left covers i c) in (
        at.0,
        AddsOne-length at.1,
        λ x j. elim (covers x j) [
          | inl h ↦ elim (AddsOne-in x at.1 h) [ inl same ↦ inr (subst (λ z. Inside f y z) (sym same) itself) | inr r ↦ inl r ]
          | inr w ↦ inr (Within-trans (children f) (children f) y a x (below c itself) w)
        ],
      )

  climb : (e : Entity context_ids) (n : ℕ) (left : List (Entity context_ids)) (a : Entity context_ids) → length left ≤ n → Covers a left → Decided (Inside f e a)
  climb e zero left a few covers = climb_by e a (one (same_entity context_ids) entity_tells e a) (parent_so a) (λ y i c. (let rest = fewer a y left covers i c in let longer = rest.1 in absurd (omega (arith, longer, few))))
  climb e (suc n) left a few covers = climb_by e a (one (same_entity context_ids) entity_tells e a) (parent_so a) (λ y i c. (let rest = fewer a y left covers i c in let longer = rest.1 in climb e n rest.0 y (omega (arith, longer, few)) rest.2))

  -- whether a is inside e
  pub inside_so : (e a : Entity context_ids) → Decided (Inside f e a)
  inside_so e a = climb e (length listed) listed a (omega arith) (λ x h. inl h)

  linked_so : (x : Entity context_ids) → Decided (IsLinked f x)
  linked_so x = instead (λ p. (p.0, p.2)) (λ p. (p.0, parent_listed x p.0 p.1, p.1)) (parent_so x)

  user_listed : (o : ArenaIndex) (d : Named context_ids) → In d (names_of f o) → In o s.state.tables.ops
  user_listed o d h = k.listed.ops o (elim (In-append d _ _ h) [
    | inl i ↦ named_reads (λ (p : Operand context_ids). a_value p.value) (λ (r : OpRecord context_ids W). r.operands) (f.ops o) d i
    | inr i ↦ named_reads (λ (p : Successor context_ids). the_block p.block) (λ (r : OpRecord context_ids W). r.successors) (f.ops o) d i
  ])

  unused_so : (d : Named context_ids) → Decided (Unused f d)
  unused_so d = instead (λ h o i. h o (user_listed o d i) i) (λ h o _ i. h o i) (all (λ o. In d (names_of f o) → ⊥) (λ o. not_so (in_names d (names_of f o))) s.state.tables.ops)

  users_linked_so : (b : ArenaIndex) → Decided (UsersLinked f b)
  users_linked_so b = instead (λ h o i. h o (user_listed o (the_block b) i) i) (λ h o _ i. h o i)
      (all (λ o. In (the_block b) (names_of f o) → IsLinked f (an_op o)) (λ o. follows (in_names (the_block b) (names_of f o)) (linked_so (an_op o))) s.state.tables.ops)

  closed_so : (e : Entity context_ids) → Decided (IsClosed f e)
  closed_so e = instead (λ h o d i. h o (user_listed o d i) d i) (λ h o _ d i. h o d i)
      (all (λ o. (d : Named context_ids) → In d (names_of f o) → Inside f e (owner context_ids d) → Inside f e (an_op o))
      (λ o. all (λ d. Inside f e (owner context_ids d) → Inside f e (an_op o)) (λ d. follows (inside_so e (owner context_ids d)) (inside_so e (an_op o))) (names_of f o)) s.state.tables.ops)

  into_so : (x y : Entity context_ids) → Decided (MayGoInto f x y)
  into_so x y = both (not_so (linked_so x)) (not_so (inside_so x y))

  beside_so : (x mark : Entity context_ids) → Decided (MayGoBeside f x mark)
  beside_so x mark = both (not_so (linked_so x)) (instead (λ p. (p.0, p.2.0, p.2.1)) (λ p. (p.0, parent_listed mark p.0 p.1, (p.1, p.2)))
      (some (λ y. In mark (children f y) × (Inside f x y → ⊥)) (λ y. both (child_so mark y) (not_so (inside_so x y))) listed))

  join_so : (donee donor : Entity context_ids) → Decided (MayJoin f donee donor)
  join_so donee donor = both (not_so (one (same_entity context_ids) entity_tells donee donor))
      (all (λ x. (Inside f x donee → ⊥) × (Inside f x donor → ⊥)) (λ x. both (not_so (inside_so x donee)) (not_so (inside_so x donor))) (children f donor))

  live_value_so : (n : ℕ) {P : Value context_ids → Type 0} → ((v : Value context_ids) → Decided (P v)) → Decided (LiveValue s.state n P)
  live_value_so n d = the_so _ (λ v. both (in_list context_ids.same_number number_tells v.number _) (d v))

  live_region_so : (n : ℕ) {P : ArenaIndex → Type 0} → ((r : ArenaIndex) → Decided (P r)) → Decided (LiveRegion s.state n P)
  live_region_so n d = the_so _ (λ r. both (some_so _) (d r))

  live_op_so : (n : ℕ) {P : ArenaIndex → OpRecord context_ids W → Type 0} → ((o : ArenaIndex) (r : OpRecord context_ids W) → Decided (P o r)) → Decided (LiveOp s.state n P)
  live_op_so n d = the_so _ (λ o. the_so _ (d o))

  live_block_so : (n : ℕ) {P : ArenaIndex → BlockRecord context_ids W → Type 0} → ((b : ArenaIndex) (r : BlockRecord context_ids W) → Decided (P b r)) → Decided (LiveBlock s.state n P)
  live_block_so n d = the_so _ (λ b. the_so _ (d b))

  types_so : (ns : List ℕ) → Decided (KnownTypes s.state ns)
  types_so ns = each_so (λ n. at_most (suc n) _) ns

  -- whether the condition holds
  pub condition_so : (edit : Edit W) → Decided (Condition s.state edit)
  condition_so (NewType key) = yes_so
  condition_so (NewOp kind types operands successors regions) = three (types_so types) (each_so (λ n. live_value_so n (λ _. yes_so)) operands) (each_so (λ n. live_block_so n (λ _ _. yes_so)) successors)
  condition_so (NewBlock label types) = types_so types
  condition_so (AddRegion n) = live_op_so n (λ o r. yes_so)
  condition_so (PushResult n ty) = both (live_op_so n (λ o r. yes_so)) (the_so _ (λ t. yes_so))
  condition_so (PushArgument n ty) = both (live_block_so n (λ b r. yes_so)) (the_so _ (λ t. yes_so))
  condition_so (InsertResult n at ty) = both (live_op_so n (λ o r. at_most at _)) (the_so _ (λ t. yes_so))
  condition_so (InsertArgument n at ty) = both (live_block_so n (λ b r. at_most at _)) (the_so _ (λ t. yes_so))
  condition_so (RemoveResult n at) = live_op_so n (λ o r. the_so _ (λ x. unused_so _))
  condition_so (RemoveArgument n at) = live_block_so n (λ b r. the_so _ (λ x. unused_so _))
  condition_so (PushOperand n v) = live_op_so n (λ o r. live_value_so v (λ x. yes_so))
  condition_so (PushSuccessor n m) = live_op_so n (λ o r. live_block_so m (λ b q. yes_so))
  condition_so (InsertOperand n at v) = live_op_so n (λ o r. live_value_so v (λ x. at_most at _))
  condition_so (InsertSuccessor n at m) = live_op_so n (λ o r. live_block_so m (λ b q. at_most at _))
  condition_so (RemoveOperand n at) = live_op_so n (λ o r. at_most (suc at) _)
  condition_so (RemoveSuccessor n at) = live_op_so n (λ o r. at_most (suc at) _)
  condition_so (ReplaceOperand n at v) = live_op_so n (λ o r. live_value_so v (λ x. at_most (suc at) _))
  condition_so (ReplaceSuccessor n at m) = live_op_so n (λ o r. live_block_so m (λ b q. at_most (suc at) _))
  condition_so (ReplaceAllUses v w) = live_value_so v (λ x. live_value_so w (λ y. yes_so))
  condition_so (RetargetAll n m) = live_block_so n (λ b r. live_block_so m (λ c q. users_linked_so b))
  condition_so (OpFront n m) = live_op_so n (λ o r. live_block_so m (λ b q. into_so _ _))
  condition_so (OpBack n m) = live_op_so n (λ o r. live_block_so m (λ b q. into_so _ _))
  condition_so (OpBefore n m) = live_op_so n (λ o r. live_op_so m (λ mark q. beside_so _ _))
  condition_so (OpAfter n m) = live_op_so n (λ o r. live_op_so m (λ mark q. beside_so _ _))
  condition_so (UnlinkOp n) = live_op_so n (λ o r. linked_so _)
  condition_so (UnlinkBlock n) = live_block_so n (λ b r. linked_so _)
  condition_so (BlockFront n m) = live_block_so n (λ b r. live_region_so m (λ g. into_so _ _))
  condition_so (BlockBack n m) = live_block_so n (λ b r. live_region_so m (λ g. into_so _ _))
  condition_so (BlockBefore n m) = live_block_so n (λ b r. live_block_so m (λ mark q. beside_so _ _))
  condition_so (BlockAfter n m) = live_block_so n (λ b r. live_block_so m (λ mark q. beside_so _ _))
  condition_so (AppendOps n m) = live_block_so n (λ b r. live_block_so m (λ c q. join_so _ _))
  condition_so (AppendBlocks n m) = live_region_so n (λ g. live_region_so m (λ h. join_so _ _))
  condition_so (MoveRegion n m) = live_region_so n (λ g. live_op_so m (λ o r. not_so (inside_so _ _)))
  condition_so (DropOpUses n) = live_op_so n (λ o r. yes_so)
  condition_so (DropBlockUses n) = live_block_so n (λ b r. yes_so)
  condition_so (DropRegionUses n) = live_region_so n (λ g. yes_so)
  condition_so (EraseOp n) = live_op_so n (λ o r. closed_so _)
  condition_so (EraseBlock n) = live_block_so n (λ b r. closed_so _)
  condition_so (EraseRegion n at) = live_op_so n (λ o r. the_so _ (λ g. closed_so _))
