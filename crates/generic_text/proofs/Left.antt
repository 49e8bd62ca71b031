-- What changes leave as it was: all that was there before something new was made, where they change what is new.
use Rattle.std.proofs.Common.{◌≡◌, ◌∙◌, ℕ, inl, inr, not, Bool, true, false, cond, is_some, Option, Some, None, IsSome, List, [], ◌∷◌, refl, sym, ap, subst}
use Rattle.std.specs.List.{list_any}
use Rattle.std.specs.Option.{option_map}
use Rattle.ir_model.specs.declared.ids.ArenaIndex.{ArenaIndex}
use Rattle.ir_model.specs.ContextIds.{context_ids, same_id}
use Rattle.ir_model.specs.Forest.{BlockRecord, Definition, Dialect, Entity, Forest, OpRecord, Operand, Successor, Text, a_block, a_region, an_op, same_entity}
use Rattle.ir_model.specs.Nesting.{In, Inside, IsLive, Nested, blocks_of, children, list_of, ops_of, regions_of}
use Rattle.ir_model.specs.Changes.{DropsUses, Removes, but, new_block, new_op, on_block, on_op, on_ops, on_region, on_regions, rewrite}
use Rattle.ir_model.proofs.KeepsErase.{same_tells}
use Rattle.ir_model.proofs.KeepsNew.{any_in, put_at}
use Rattle.ir_model.proofs.Nests.{In-map}
use Rattle.ir_model.proofs.TwoRuns.{id_tells, lawful}
use Rattle.ir_core_context.specs.Calls.{NoEntity}
use Rattle.generic_text.specs.Left.{LeavesAll}

-- what is rewritten under a key is as it was under any other
other_stays : {R : Type 0} (key x : ArenaIndex) (g : R → R) (m : ArenaIndex → Option R) → (x ≡ key → ⊥) → rewrite same_id key g m x ≡ m x
other_stays key x g m differ = by (same_id x key) refl
  where
    by : (b : Bool) → same_id x key ≡ b → rewrite same_id key g m x ≡ m x
    by true e = absurd (differ ((id_tells x key).0 e))
    by false e = rw e

-- a list without an entity is all of it but that entity
but_none : {A : Type 0} (e : Entity context_ids) (c : A → Entity context_ids) (xs : List A) → ((x : A) → In x xs → c x ≡ e → ⊥) → but e c xs ≡ xs
but_none e c [] none = refl
but_none {A} e c (x ∷ xs) none = by (but_none e c xs (λ y at. none y (inr at))) (same_entity context_ids (c x) e) refl
  where
    by : but e c xs ≡ xs → (b : Bool) → same_entity context_ids (c x) e ≡ b → cond (not b) (x ∷ but e c xs) (but e c xs) ≡ x ∷ xs
    by rest true is = absurd (none x (inl refl) (same_tells context_ids lawful (c x) e is))
    by rest false is = ap (λ (ys : List A). x ∷ ys) rest

-- and so with the list of a record
record_stays : {R A : Type 0} (e : Entity context_ids) (c : A → Entity context_ids) (of : R → List A) (on : (List A → List A) → R → R) → ((xs : List A) (r : R) → of r ≡ xs → on (λ _. xs) r ≡ r) → ((h : List A → List A) (r : R) → on h r ≡ on (λ _. h (of r)) r)
    → (m : Option R) → ((x : A) → In x (list_of of m) → c x ≡ e → ⊥) → option_map (on (but e c)) m ≡ m
record_stays e c of on same by None none = refl
record_stays {R} e c of on same by (Some r) none = ap Some (by (but e c) r ∙ same (but e c (of r)) r (sym (but_none e c (of r) none)))

-- nothing is live where there is nothing
none_live : {R : Type 0} (m : Option R) → m ≡ None → IsSome m → ⊥
none_live None is live = cc
none_live (Some r) is live = cc

module _ {W : Dialect} where
  pub leaves-none : (f : Forest context_ids W) → LeavesAll f f
  leaves-none f = record { ops = λ o live. refl; blocks = λ b live. refl; regions = λ r live. refl }

  -- where nothing was there
  pub leaves-empty : (old g : Forest context_ids W) → NoEntity old → LeavesAll old g
  leaves-empty old g none = record { ops = λ o live. absurd (none_live (old.ops o) (none.ops o) live); blocks = λ b live. absurd (none_live (old.blocks b) (none.blocks b) live); regions = λ r live. absurd (none_live (old.regions r) (none.regions r) live) }

  module _ (old f : Forest context_ids W) (left : LeavesAll old f) where
    -- what was there is there
    pub still_live : (e : Entity context_ids) → IsLive old e → IsLive f e
    still_live (an_op o) live = ap is_some (left.ops o live) ∙ live
    still_live (a_block b) live = ap is_some (left.blocks b live) ∙ live
    still_live (a_region r) live = ap is_some (left.regions r live) ∙ live

    -- what wasn't there before its time wasn't there at first
    pub was_not : (e : Entity context_ids) → (IsLive f e → ⊥) → IsLive old e → ⊥
    was_not e dead live = dead (still_live e live)

    pub leaves-same : (g : Forest context_ids W) → g ≡ f → LeavesAll old g
    leaves-same g is = subst (λ (h : Forest context_ids W). LeavesAll old h) (sym is) left

    pub leaves-more : (g : Forest context_ids W) → LeavesAll f g → LeavesAll old g
    leaves-more g more = record {
      ops = λ o live. more.ops o (still_live (an_op o) live) ∙ left.ops o live;
      blocks = λ b live. more.blocks b (still_live (a_block b) live) ∙ left.blocks b live;
      regions = λ r live. more.regions r (still_live (a_region r) live) ∙ left.regions r live;
    }

    -- where what is new is changed
    pub leaves-op : (g : Forest context_ids W) (o : ArenaIndex) (h : OpRecord context_ids W → OpRecord context_ids W) → (IsLive old (an_op o) → ⊥) → g ≡ on_op f o h → LeavesAll old g
    leaves-op g o h new is = record {
      ops = λ p live. ap (λ (x : Forest context_ids W). x.ops p) is ∙ (other_stays o p h f.ops (λ e. new (subst (λ (q : ArenaIndex). IsLive old (an_op q)) e live)) ∙ left.ops p live);
      blocks = λ b live. ap (λ (x : Forest context_ids W). x.blocks b) is ∙ left.blocks b live;
      regions = λ r live. ap (λ (x : Forest context_ids W). x.regions r) is ∙ left.regions r live;
    }

    pub leaves-block : (g : Forest context_ids W) (b : ArenaIndex) (h : BlockRecord context_ids W → BlockRecord context_ids W) → (IsLive old (a_block b) → ⊥) → g ≡ on_block f b h → LeavesAll old g
    leaves-block g b h new is = record {
      ops = λ o live. ap (λ (x : Forest context_ids W). x.ops o) is ∙ left.ops o live;
      blocks = λ c live. ap (λ (x : Forest context_ids W). x.blocks c) is ∙ (other_stays b c h f.blocks (λ e. new (subst (λ (q : ArenaIndex). IsLive old (a_block q)) e live)) ∙ left.blocks c live);
      regions = λ r live. ap (λ (x : Forest context_ids W). x.regions r) is ∙ left.regions r live;
    }

    pub leaves-region : (g : Forest context_ids W) (r : ArenaIndex) (h : List ArenaIndex → List ArenaIndex) → (IsLive old (a_region r) → ⊥) → g ≡ on_region f r h → LeavesAll old g
    leaves-region g r h new is = record {
      ops = λ o live. ap (λ (x : Forest context_ids W). x.ops o) is ∙ left.ops o live;
      blocks = λ b live. ap (λ (x : Forest context_ids W). x.blocks b) is ∙ left.blocks b live;
      regions = λ s live. ap (λ (x : Forest context_ids W). x.regions s) is ∙ (other_stays r s h f.regions (λ e. new (subst (λ (q : ArenaIndex). IsLive old (a_region q)) e live)) ∙ left.regions s live);
    }

    -- where something new is made
    pub leaves-new-op : (g : Forest context_ids W) (o : ArenaIndex) (loc : W.Loc) (kind : ℕ) (results : List (Definition context_ids W)) (operands : List (Operand context_ids)) (successors : List (Successor context_ids)) (regions : List ArenaIndex)
        → (IsLive f (an_op o) → ⊥) → ((r : ArenaIndex) → In r regions → IsLive f (a_region r) → ⊥) → g ≡ new_op f o loc kind results operands successors regions → LeavesAll old g
    leaves-new-op g o loc kind results operands successors regions dead none is = record {
      ops = λ p live. ap (λ (x : Forest context_ids W). x.ops p) is ∙ (op_case p live ∙ left.ops p live);
      blocks = λ b live. ap (λ (x : Forest context_ids W). x.blocks b) is ∙ left.blocks b live;
      regions = λ r live. ap (λ (x : Forest context_ids W). x.regions r) is ∙ (region_case r live ∙ left.regions r live);
    }
      where
        op_case : (p : ArenaIndex) → IsLive old (an_op p) → (new_op f o loc kind results operands successors regions).ops p ≡ f.ops p
        op_case p live = elim (put_at same_id id_tells o (record { kind = kind; results = results; operands = operands; successors = successors; regions = regions; attributes = []; loc = loc }) f.ops p) [
          | inl e ↦ absurd (dead (subst (λ (q : ArenaIndex). IsLive f (an_op q)) e.0 (still_live (an_op p) live)))
          | inr e ↦ e.1
        ]

        region_case : (r : ArenaIndex) → IsLive old (a_region r) → (new_op f o loc kind results operands successors regions).regions r ≡ f.regions r
        region_case r live = elim (any_in same_id id_tells r regions) [
          | inl e ↦ absurd (none r e.1 (still_live (a_region r) live))
          | inr e ↦ (let no : list_any (λ s. same_id s r) regions ≡ false = e.0 in rw no)
        ]

    pub leaves-new-block : (g : Forest context_ids W) (b : ArenaIndex) (loc : W.Loc) (label : Option Text) (arguments : List (Definition context_ids W)) → (IsLive f (a_block b) → ⊥) → g ≡ new_block f b loc label arguments → LeavesAll old g
    leaves-new-block g b loc label arguments dead is = record {
      ops = λ o live. ap (λ (x : Forest context_ids W). x.ops o) is ∙ left.ops o live;
      blocks = λ c live. ap (λ (x : Forest context_ids W). x.blocks c) is ∙ (block_case c live ∙ left.blocks c live);
      regions = λ r live. ap (λ (x : Forest context_ids W). x.regions r) is ∙ left.regions r live;
    }
      where
        block_case : (c : ArenaIndex) → IsLive old (a_block c) → (new_block f b loc label arguments).blocks c ≡ f.blocks c
        block_case c live = elim (put_at same_id id_tells b (record { label = label; arguments = arguments; ops = []; attributes = []; loc = loc }) f.blocks c) [
          | inl e ↦ absurd (dead (subst (λ (q : ArenaIndex). IsLive f (a_block q)) e.0 (still_live (a_block c) live)))
          | inr e ↦ e.1
        ]

    -- where the uses of what is new are taken out
    pub leaves-drops : (g : Forest context_ids W) (e : Entity context_ids) → ((x : Entity context_ids) → Inside f e x → IsLive old x → ⊥) → DropsUses f e g → LeavesAll old g
    leaves-drops g e new drops = record {
      ops = λ o live. drops.outside o (λ at. new (an_op o) at live) ∙ left.ops o live;
      blocks = λ b live. ap (λ (m : ArenaIndex → Option (BlockRecord context_ids W)). m b) drops.blocks ∙ left.blocks b live;
      regions = λ r live. ap (λ (m : ArenaIndex → Option (List ArenaIndex)). m r) drops.regions ∙ left.regions r live;
    }

    -- where what is new is taken out, with all inside it
    pub leaves-removes : (g : Forest context_ids W) (e : Entity context_ids) → Nested old → (IsLive old e → ⊥) → ((x : Entity context_ids) → Inside f e x → IsLive old x → ⊥) → Removes f e g → LeavesAll old g
    leaves-removes g e nested new inside removes = record {
      ops = λ o live. removes.ops_outside o (λ at. inside (an_op o) at live) ∙ ap (option_map (on_regions (but e a_region))) (left.ops o live)
          ∙ record_stays e a_region (λ (r : OpRecord context_ids W). r.regions) on_regions (λ xs r is. ap (λ (ys : List ArenaIndex). record r { regions = ys }) (sym is)) (λ h r. refl) (old.ops o) (λ x at is. other (a_region x) (an_op o) (In-map a_region x (regions_of old o) at) is);
      blocks = λ b live. removes.blocks_outside b (λ at. inside (a_block b) at live) ∙ ap (option_map (on_ops (but e an_op))) (left.blocks b live)
          ∙ record_stays e an_op (λ (r : BlockRecord context_ids W). r.ops) on_ops (λ xs r is. ap (λ (ys : List ArenaIndex). record r { ops = ys }) (sym is)) (λ h r. refl) (old.blocks b) (λ x at is. other (an_op x) (a_block b) (In-map an_op x (ops_of old b) at) is);
      regions = λ r live. removes.regions_outside r (λ at. inside (a_region r) at live) ∙ ap (option_map (but e a_block)) (left.regions r live)
          ∙ record_stays e a_block (λ (bs : List ArenaIndex). bs) (λ h bs. h bs) (λ xs r is. sym is) (λ h r. refl) (old.regions r) (λ x at is. other (a_block x) (a_region r) (In-map a_block x (blocks_of old r) at) is);
    }
      where
        -- what stood in a list was there
        other : (x y : Entity context_ids) → In x (children old y) → x ≡ e → ⊥
        other x y at is = new (subst (λ (z : Entity context_ids). IsLive old z) is (nested.live x y at))

    -- the regions of a new operation are new
    pub region-is-new : (o r : ArenaIndex) → Nested old → Nested f → (IsLive old (an_op o) → ⊥) → In r (regions_of f o) → IsLive old (a_region r) → ⊥
    region-is-new o r nested now new in_it live =
        let linked = nested.regions_linked r live in
        let there : IsLive old (an_op linked.0) = has_some (old.ops linked.0) linked.1 in
        let same : regions_of f linked.0 ≡ regions_of old linked.0 = ap (list_of (λ (x : OpRecord context_ids W). x.regions)) (left.ops linked.0 there) in
        let one : ◌≡◌ {A = Entity context_ids} (an_op o) (an_op linked.0) = now.one_list (a_region r) (an_op o) (an_op linked.0) (In-map a_region r (regions_of f o) in_it) (In-map a_region r (regions_of f linked.0) (subst (In r) (sym same) linked.1)) in
        new (subst (λ (e : Entity context_ids). IsLive old e) (sym one) there)
      where
        has_some : (m : Option (OpRecord context_ids W)) → In r (list_of (λ (x : OpRecord context_ids W). x.regions) m) → IsSome m
        has_some None h = absurd h
        has_some (Some x) h = refl
