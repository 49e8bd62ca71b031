-- What was unlinked may be put back.
use mathlib.Core.Path.{◌≡◌, refl, sym, ap, ◌∙◌, subst}
use Rattle.std.proofs.Common.{◌≢◌, inl, Bool, true, false, not, Option, Some, None, List, ◌∷◌, map, length, IsSome}
use Rattle.std.specs.Option.{option_map}
use Rattle.ir_model.specs.declared.ids.ArenaIndex.{ArenaIndex}
use Rattle.ir_model.specs.ContextIds.{context_ids, same_id}
use Rattle.ir_model.specs.Ids.{Distinct}
use Rattle.ir_model.specs.Forest.{Dialect, Behaviour, Forest, Entity, an_op, a_block, a_region, BlockRecord}
use Rattle.ir_model.specs.Nesting.{In, Nested, WellFormed, children, list_of, ops_of, blocks_of, regions_of}
use Rattle.ir_model.specs.Parent.{Adjacent, ComesAfter, first_of}
use Rattle.ir_model.specs.Changes.{without, in_blocks, in_regions, on_ops}
use Rattle.ir_model.specs.Edits.{State, Condition, MayGoBeside, MayGoInto, OpAfter, OpFront, BlockAfter, BlockFront}
use Rattle.ir_model.specs.EditLaws.{MayGoBack}
use Rattle.ir_model.proofs.Renaming.{Tells}
use Rattle.ir_model.proofs.TwoRuns.{id_tells}
use Rattle.ir_model.proofs.Nests.{In-map, In-map_back, Within-fewer}
use Rattle.ir_model.proofs.Filters.{In-filter, In-kept}
use Rattle.ir_model.proofs.Redirected.{Distinct-back}
use Rattle.ir_model.proofs.Relinks.{first_in, Adjacent-first, Adjacent-second}
use Rattle.ir_model.proofs.Keeps.{is_some-map}
use Rattle.ir_model.proofs.Found.{holds_of, there}

-- two neighbours in a list without repeats differ
neighbours_differ : {A : Type 0} (x y : A) (xs : List A) → Distinct xs → Adjacent x y xs → x ≢ y
neighbours_differ x y xs d at = (Distinct-back at.0 (x ∷ y ∷ at.1) (subst Distinct at.2 d)).0.0

-- the first of a list is in it
is_in : {A : Type 0} (x : A) (xs : List A) → first_of xs ≡ Some x → In x xs
is_in x xs e = subst (In x) (sym (first_in x xs e).1) (inl refl)

some_list : {B X : Type 0} (of : B → List X) (m : Option B) (x : X) → In x (list_of of m) → IsSome m
some_list of None x h = elim h [ ]
some_list of (Some r) x h = refl

-- in a list without x everything else is left
module _ {A : Type 0} (same : A → A → Bool) (tells : Tells same) (x : A) where
  not_left : (xs : List A) → In x (without same x xs) → ⊥
  not_left xs h =
      let no : not (same x x) ≡ true = (In-filter (λ y. not (same y x)) x xs h).1 in
      let wrong : not true ≡ true = subst (λ b. not b ≡ true) ((tells x x).1 refl) no in
      cc

  still_left : (y : A) (xs : List A) → y ≢ x → In y xs → In y (without same x xs)
  still_left y xs differ h = In-kept (λ z. not (same z x)) y xs h (by (same y x) refl)
    where
      by : (b : Bool) → same y x ≡ b → not b ≡ true
      by true e = absurd (differ ((tells y x).0 e))
      by false e = refl

module _ {W : Dialect} (f : Forest context_ids W) where
  -- the children are the same but for x, which has no parent
  record Unlists (x : Entity context_ids) (g : Forest context_ids W) : Type 0 where
    pub fewer : (z y : Entity context_ids) → In z (children g y) → In z (children f y)
    pub kept : (z y : Entity context_ids) → z ≢ x → In z (children f y) → In z (children g y)
    pub gone : (y : Entity context_ids) → In x (children g y) → ⊥

  module _ (nested : Nested f) (x : Entity context_ids) (g : Forest context_ids W) (u : Unlists x g) where
    beside : (mark : Entity context_ids) → ComesAfter f mark x → MayGoBeside g x mark
    beside mark c = (
      λ l. u.gone l.0 l.1,
      (
        c.0,
        u.kept mark c.0 (neighbours_differ mark x (children f c.0) (nested.once c.0) c.1) (Adjacent-first mark x (children f c.0) c.1),
        λ h. nested.no_cycle x c.0 (Adjacent-second mark x (children f c.0) c.1) (Within-fewer (children f) (children g) u.fewer x c.0 h),
      ),
    )

    into : (y : Entity context_ids) → In x (children f y) → MayGoInto g x y
    into y i = (λ l. u.gone l.0 l.1, λ h. nested.no_cycle x y i (Within-fewer (children f) (children g) u.fewer x y h))

  -- the operation is taken out of all blocks
  module _ (o : ArenaIndex) where
    left_ops : (b : ArenaIndex) → ops_of (in_blocks f (without same_id o)) b ≡ without same_id o (ops_of f b)
    left_ops b = by (f.blocks b)
      where
        by : (m : Option (BlockRecord context_ids W)) → list_of (λ (r : BlockRecord context_ids W). r.ops) (option_map (on_ops (without same_id o)) m) ≡ without same_id o (list_of (λ (r : BlockRecord context_ids W). r.ops) m)
        by None = refl
        by (Some r) = refl

    op_unlisted : Unlists (an_op o) (in_blocks f (without same_id o))
    op_unlisted = record { fewer = fewer; kept = kept; gone = gone }
      where
        fewer : (z y : Entity context_ids) → In z (children (in_blocks f (without same_id o)) y) → In z (children f y)
        fewer z (an_op p) h = h
        fewer z (a_region r) h = h
        fewer z (a_block b) h =
            let at = In-map_back an_op z (ops_of (in_blocks f (without same_id o)) b) h in
            let i = In-filter (λ y. not (same_id y o)) at.0 (ops_of f b) (subst (In at.0) (left_ops b) at.1) in
            subst (λ w. In w (map an_op (ops_of f b))) (sym at.2) (In-map an_op at.0 (ops_of f b) i.0)

        kept : (z y : Entity context_ids) → z ≢ an_op o → In z (children f y) → In z (children (in_blocks f (without same_id o)) y)
        kept z (an_op p) differ h = h
        kept z (a_region r) differ h = h
        kept z (a_block b) differ h =
            let at = In-map_back an_op z (ops_of f b) h in
            let i = still_left same_id id_tells o at.0 (ops_of f b) (λ e. differ (at.2 ∙ ap an_op e)) at.1 in
            subst (λ w. In w (map an_op (ops_of (in_blocks f (without same_id o)) b))) (sym at.2) (In-map an_op at.0 (ops_of (in_blocks f (without same_id o)) b) (subst (In at.0) (sym (left_ops b)) i))

        gone : (y : Entity context_ids) → In (an_op o) (children (in_blocks f (without same_id o)) y) → ⊥
        gone (an_op p) h = let at = In-map_back a_region (an_op o) (regions_of f p) h in let e : ◌≡◌ {A = Entity context_ids} (an_op o) (a_region at.0) = at.2 in cc
        gone (a_region r) h = let at = In-map_back a_block (an_op o) (blocks_of f r) h in let e : ◌≡◌ {A = Entity context_ids} (an_op o) (a_block at.0) = at.2 in cc
        gone (a_block b) h =
            let at = In-map_back an_op (an_op o) (ops_of (in_blocks f (without same_id o)) b) h in
            let e : an_op o ≡ an_op at.0 = at.2 in
            let s : o ≡ at.0 = cc in
            not_left same_id id_tells o (ops_of f b) (subst (λ p. In p (without same_id o (ops_of f b))) (sym s) (subst (In at.0) (left_ops b) at.1))

  -- the block is taken out of all regions
  module _ (b : ArenaIndex) where
    left_blocks : (r : ArenaIndex) → blocks_of (in_regions f (without same_id b)) r ≡ without same_id b (blocks_of f r)
    left_blocks r = by (f.regions r)
      where
        by : (m : Option (List ArenaIndex)) → list_of (λ (bs : List ArenaIndex). bs) (option_map (without same_id b) m) ≡ without same_id b (list_of (λ (bs : List ArenaIndex). bs) m)
        by None = refl
        by (Some bs) = refl

    block_unlisted : Unlists (a_block b) (in_regions f (without same_id b))
    block_unlisted = record { fewer = fewer; kept = kept; gone = gone }
      where
        fewer : (z y : Entity context_ids) → In z (children (in_regions f (without same_id b)) y) → In z (children f y)
        fewer z (an_op p) h = h
        fewer z (a_block c) h = h
        fewer z (a_region r) h =
            let at = In-map_back a_block z (blocks_of (in_regions f (without same_id b)) r) h in
            let i = In-filter (λ y. not (same_id y b)) at.0 (blocks_of f r) (subst (In at.0) (left_blocks r) at.1) in
            subst (λ w. In w (map a_block (blocks_of f r))) (sym at.2) (In-map a_block at.0 (blocks_of f r) i.0)

        kept : (z y : Entity context_ids) → z ≢ a_block b → In z (children f y) → In z (children (in_regions f (without same_id b)) y)
        kept z (an_op p) differ h = h
        kept z (a_block c) differ h = h
        kept z (a_region r) differ h =
            let at = In-map_back a_block z (blocks_of f r) h in
            let i = still_left same_id id_tells b at.0 (blocks_of f r) (λ e. differ (at.2 ∙ ap a_block e)) at.1 in
            subst (λ w. In w (map a_block (blocks_of (in_regions f (without same_id b)) r))) (sym at.2) (In-map a_block at.0 (blocks_of (in_regions f (without same_id b)) r) (subst (In at.0) (sym (left_blocks r)) i))

        gone : (y : Entity context_ids) → In (a_block b) (children (in_regions f (without same_id b)) y) → ⊥
        gone (an_op p) h = let at = In-map_back a_region (a_block b) (regions_of f p) h in let e : ◌≡◌ {A = Entity context_ids} (a_block b) (a_region at.0) = at.2 in cc
        gone (a_block c) h = let at = In-map_back an_op (a_block b) (ops_of f c) h in let e : ◌≡◌ {A = Entity context_ids} (a_block b) (an_op at.0) = at.2 in cc
        gone (a_region r) h =
            let at = In-map_back a_block (a_block b) (blocks_of (in_regions f (without same_id b)) r) h in
            let e : a_block b ≡ a_block at.0 = at.2 in
            let s : b ≡ at.0 = cc in
            not_left same_id id_tells b (blocks_of f r) (subst (λ p. In p (without same_id b (blocks_of f r))) (sym s) (subst (In at.0) (left_blocks r) at.1))

module _ {W : Dialect} (B : Behaviour W) (s : State context_ids W) (w : WellFormed s.forest (length s.store)) where
  pub may_go_back : MayGoBack B s
  may_go_back = record {
    op_after = λ n m new t at c.
        let o = at.value in let mark = at.holds.value in let comes = at.holds.holds in
        let r = there (s.forest.ops o) (w.nested.live (an_op o) comes.0 (Adjacent-second (an_op mark) (an_op o) (children s.forest comes.0) comes.1)) in
        let q = there (s.forest.ops mark) (w.nested.live (an_op mark) comes.0 (Adjacent-first (an_op mark) (an_op o) (children s.forest comes.0) comes.1)) in
        subst (λ (x : State context_ids W). Condition x (OpAfter n m)) (sym (holds_of _ o at.found c)) (record {
          value = o;
          found = at.found;
          holds = record { value = r.0; found = r.1; holds = record { value = mark; found = at.holds.found; holds = record { value = q.0; found = q.1; holds = beside s.forest w.nested (an_op o) _ (op_unlisted s.forest o) (an_op mark) comes } } };
        });
    op_front = λ n m new t at c.
        let o = at.value in let b = at.holds.value in
        let i : In o (ops_of s.forest b) = is_in o (ops_of s.forest b) at.holds.holds in
        let r = there (s.forest.ops o) (w.nested.live (an_op o) (a_block b) (In-map an_op o (ops_of s.forest b) i)) in
        let q = there ((in_blocks s.forest (without same_id o)).blocks b) (is_some-map (on_ops (without same_id o)) (s.forest.blocks b) ∙ some_list (λ (x : BlockRecord context_ids W). x.ops) (s.forest.blocks b) o i) in
        subst (λ (x : State context_ids W). Condition x (OpFront n m)) (sym (holds_of _ o at.found c)) (record {
          value = o;
          found = at.found;
          holds = record { value = r.0; found = r.1; holds = record { value = b; found = at.holds.found; holds = record { value = q.0; found = q.1; holds = into s.forest w.nested (an_op o) _ (op_unlisted s.forest o) (a_block b) (In-map an_op o (ops_of s.forest b) i) } } };
        });
    block_after = λ n m new t at c.
        let b = at.value in let mark = at.holds.value in let comes = at.holds.holds in
        let r = there (s.forest.blocks b) (w.nested.live (a_block b) comes.0 (Adjacent-second (a_block mark) (a_block b) (children s.forest comes.0) comes.1)) in
        let q = there (s.forest.blocks mark) (w.nested.live (a_block mark) comes.0 (Adjacent-first (a_block mark) (a_block b) (children s.forest comes.0) comes.1)) in
        subst (λ (x : State context_ids W). Condition x (BlockAfter n m)) (sym (holds_of _ b at.found c)) (record {
          value = b;
          found = at.found;
          holds = record { value = r.0; found = r.1; holds = record { value = mark; found = at.holds.found; holds = record { value = q.0; found = q.1; holds = beside s.forest w.nested (a_block b) _ (block_unlisted s.forest b) (a_block mark) comes } } };
        });
    block_front = λ n m new t at c.
        let b = at.value in let g = at.holds.value in
        let i : In b (blocks_of s.forest g) = is_in b (blocks_of s.forest g) at.holds.holds in
        let r = there (s.forest.blocks b) (w.nested.live (a_block b) (a_region g) (In-map a_block b (blocks_of s.forest g) i)) in
        let q = is_some-map (without same_id b) (s.forest.regions g) ∙ some_list (λ (bs : List ArenaIndex). bs) (s.forest.regions g) b i in
        subst (λ (x : State context_ids W). Condition x (BlockFront n m)) (sym (holds_of _ b at.found c)) (record {
          value = b;
          found = at.found;
          holds = record { value = r.0; found = r.1; holds = record { value = g; found = at.holds.found; holds = (q, into s.forest w.nested (a_block b) _ (block_unlisted s.forest b) (a_region g) (In-map a_block b (blocks_of s.forest g) i)) } };
        });
  }
