-- What was taken out of a list may be put beside what stands elsewhere.
use Rattle.std.proofs.Common.{◌≡◌, ◌≢◌, refl, sym, ap, ◌∙◌, subst, Bool, true, false, not, Option, Some, None, List, map}
use Rattle.std.specs.Option.{option_map}
use Rattle.ir_model.specs.declared.ids.ArenaIndex.{ArenaIndex}
use Rattle.ir_model.specs.ContextIds.{context_ids, same_id}
use Rattle.ir_model.specs.Forest.{Dialect, Forest, Entity, an_op, a_block, a_region, BlockRecord}
use Rattle.ir_model.specs.Nesting.{In, Inside, children, list_of, ops_of}
use Rattle.ir_model.specs.Changes.{without, in_blocks, on_ops}
use Rattle.ir_model.specs.Edits.{MayGoBeside}
use Rattle.ir_model.proofs.TwoRuns.{id_tells}
use Rattle.ir_model.proofs.Nests.{In-map, In-map_back, Within-fewer}
use Rattle.ir_model.proofs.Filters.{In-filter, In-kept}

-- x is not left in a list without it
not_left : (x : ArenaIndex) (xs : List ArenaIndex) → In x (without same_id x xs) → ⊥
not_left x xs h =
    let no : not (same_id x x) ≡ true = (In-filter (λ y. not (same_id y x)) x xs h).1 in
    let wrong : not true ≡ true = subst (λ b. not b ≡ true) ((id_tells x x).1 refl) no in
    cc

-- all else is left
still_left : (x y : ArenaIndex) (xs : List ArenaIndex) → y ≢ x → In y xs → In y (without same_id x xs)
still_left x y xs differ h = In-kept (λ z. not (same_id z x)) y xs h (by (same_id y x) refl)
  where
    by : (b : Bool) → same_id y x ≡ b → not b ≡ true
    by true e = absurd (differ ((id_tells y x).0 e))
    by false e = refl

module _ {W : Dialect} (f : Forest context_ids W) (o : ArenaIndex) where
  taken_out : Forest context_ids W
  taken_out = in_blocks f (without same_id o)

  left_ops : (b : ArenaIndex) → ops_of (in_blocks f (without same_id o)) b ≡ without same_id o (ops_of f b)
  left_ops b = by (f.blocks b)
    where
      by : (m : Option (BlockRecord context_ids W)) → list_of (λ (r : BlockRecord context_ids W). r.ops) (option_map (on_ops (without same_id o)) m) ≡ without same_id o (list_of (λ (r : BlockRecord context_ids W). r.ops) m)
      by None = refl
      by (Some r) = refl

  -- nothing stands where it didn't
  fewer : (z y : Entity context_ids) → In z (children (in_blocks f (without same_id o)) y) → In z (children f y)
  fewer z (an_op p) h = h
  fewer z (a_region r) h = h
  fewer z (a_block b) h =
      let at = In-map_back an_op z (ops_of (in_blocks f (without same_id o)) b) h in
      let i = In-filter (λ y. not (same_id y o)) at.0 (ops_of f b) (subst (In at.0) (left_ops b) at.1) in
      subst (λ w. In w (map an_op (ops_of f b))) (sym at.2) (In-map an_op at.0 (ops_of f b) i.0)

  same_op : (p q : ArenaIndex) → ◌≡◌ {A = Entity context_ids} (an_op p) (an_op q) → p ≡ q
  same_op p q e = cc

  -- it stands nowhere
  gone : (y : Entity context_ids) → In (an_op o) (children (in_blocks f (without same_id o)) y) → ⊥
  gone (an_op p) h = (let at = In-map_back {B = Entity context_ids} a_region (an_op o) _ h in let z : ◌≡◌ {A = Entity context_ids} (an_op o) (a_region at.0) = at.2 in absurd cc)
  gone (a_region r) h = (let at = In-map_back {B = Entity context_ids} a_block (an_op o) _ h in let z : ◌≡◌ {A = Entity context_ids} (an_op o) (a_block at.0) = at.2 in absurd cc)
  gone (a_block b) h =
      let at = In-map_back {B = Entity context_ids} an_op (an_op o) (ops_of (in_blocks f (without same_id o)) b) h in
      not_left o (ops_of f b) (subst (λ p. In p (without same_id o (ops_of f b))) (sym (same_op o at.0 at.2)) (subst (In at.0) (left_ops b) at.1))

  -- all else stands where it did
  kept : (m : ArenaIndex) (y : Entity context_ids) → o ≢ m → In (an_op m) (children f y) → In (an_op m) (children (in_blocks f (without same_id o)) y)
  kept m (an_op p) differ h = h
  kept m (a_region r) differ h = h
  kept m (a_block b) differ h =
      let at = In-map_back {B = Entity context_ids} an_op (an_op m) (ops_of f b) h in
      In-map an_op m (ops_of (in_blocks f (without same_id o)) b)
      (subst (In m) (sym (left_ops b)) (still_left o m (ops_of f b) (λ e. differ (sym e)) (subst (λ z. In z (ops_of f b)) (sym (same_op m at.0 at.2)) at.1)))

  -- taken out, it may be put beside another one that stands in what isn't inside it
  pub taken_may_go : (m : ArenaIndex) → o ≢ m → (y : Entity context_ids) → In (an_op m) (children f y) → (Inside f (an_op o) y → ⊥) → MayGoBeside (in_blocks f (without same_id o)) (an_op o) (an_op m)
  taken_may_go m differ y h outside = (
    λ l. gone l.0 l.1,
    (y, kept m y differ h, λ i. outside (Within-fewer (children f) (children (in_blocks f (without same_id o))) fewer (an_op o) y i)),
  )
