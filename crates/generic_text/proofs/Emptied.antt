-- What was there at first, while it goes into a new block and out of it.
use Rattle.std.proofs.Common.{◌≡◌, ◌∙◌, ◌⊎◌, inl, inr, not, Bool, true, false, cond, Option, Some, None, List, [], ◌∷◌, map, refl, sym, ap, subst, slice_get, get_or, arith}
use Rattle.std.proofs.lemmas.Option.{slice_get-get_or}
use Rattle.std.specs.Option.{option_map}
use Rattle.ir_model.specs.declared.ids.ArenaIndex.{ArenaIndex}
use Rattle.ir_model.specs.ContextIds.{context_ids, same_id}
use Rattle.ir_model.specs.Forest.{BlockRecord, Dialect, Entity, Forest, a_block, a_region, an_op}
use Rattle.ir_model.specs.Nesting.{In, IsLive, Nested, children, list_of, ops_of}
use Rattle.ir_model.specs.Changes.{in_blocks, on_block, on_ops, without}
use Rattle.ir_model.proofs.Filters.{In-filter}
use Rattle.ir_model.proofs.Nests.{In-map, In-map_back}
use Rattle.ir_model.proofs.TwoRuns.{id_tells}
use Rattle.generic_text.specs.Left.{IsNew, StandsApart, StandsApartBut}
use Rattle.generic_text.proofs.Left.{leaves-block}

-- a list that has no first has nothing
pub first_none : (xs : List ArenaIndex) → ◌≡◌ {A = Option ArenaIndex} None (slice_get xs 0) → xs ≡ []
first_none [] e = refl
first_none (x ∷ xs) e = (let s : slice_get (x ∷ xs) 0 ≡ Some (get_or (x ∷ xs) 0 x) = slice_get-get_or (x ∷ xs) 0 x (omega arith) in absurd (let bad : ◌≡◌ {A = Option ArenaIndex} None (Some (get_or (x ∷ xs) 0 x)) = e ∙ s in cc))

-- a list that lacks an id is all of it but that id
lacking : (o : ArenaIndex) (xs : List ArenaIndex) → (In o xs → ⊥) → without same_id o xs ≡ xs
lacking o [] out = refl
lacking o (x ∷ xs) out = by (lacking o xs (λ at. out (inr at))) (same_id x o) refl
  where
    by : without same_id o xs ≡ xs → (b : Bool) → same_id x o ≡ b → cond (not b) (x ∷ without same_id o xs) (without same_id o xs) ≡ x ∷ xs
    by rest true is = absurd (out (inl (sym ((id_tells x o).0 is))))
    by rest false is = ap (λ (ys : List ArenaIndex). x ∷ ys) rest

module _ {W : Dialect} (block : ArenaIndex) (first f : Forest context_ids W) where
  pub but-apart : StandsApart first f → StandsApartBut block first f
  but-apart apart = record { nested = apart.nested; left = apart.left; apart = λ x y at live. inl (apart.apart x y at live) }

  module _ (apart : StandsApartBut block first f) where
    -- where the block has nothing, all stands apart
    pub but-nothing : ops_of f block ≡ [] → StandsApart first f
    but-nothing none = record {
      nested = apart.nested;
      left = apart.left;
      apart = λ x y at live. elim (apart.apart x y at live) [
        | inl h ↦ h
        | inr e ↦ (let there : In x (children f (a_block block)) = subst (λ (z : Entity context_ids). In x (children f z)) e at in absurd (subst (λ (os : List ArenaIndex). In x (map {B = Entity context_ids} an_op os)) none there))
      ];
    }

    module _ (new : IsNew first (a_block block)) where
      -- where the block's list is changed
      pub but-block : (g : Forest context_ids W) (h : BlockRecord context_ids W → BlockRecord context_ids W) → g ≡ on_block f block h → StandsApartBut block first g
      but-block g h is = record { nested = apart.nested; left = leaves-block first f apart.left g block h new is; apart = λ x y at. here x y (subst (λ (k : Forest context_ids W). In x (children k y)) is at) }
        where
          by : (x : Entity context_ids) (c : ArenaIndex) (b : Bool) → same_id c block ≡ b → In x (map an_op (list_of (λ (r : BlockRecord context_ids W). r.ops) (cond b (option_map h (f.blocks c)) (f.blocks c)))) → IsLive first x → IsLive first (a_block c) ⊎ ◌≡◌ {A = Entity context_ids} (a_block c) (a_block block)
          by x c true e at live = inr (ap a_block ((id_tells c block).0 e))
          by x c false e at live = apart.apart x (a_block c) at live

          here : (x y : Entity context_ids) → In x (children (on_block f block h) y) → IsLive first x → IsLive first y ⊎ (y ≡ a_block block)
          here x (an_op p) at live = apart.apart x (an_op p) at live
          here x (a_block c) at live = by x c (same_id c block) refl at live
          here x (a_region r) at live = apart.apart x (a_region r) at live

      -- where something that stands in the block is taken out of the list that it is in
      pub but-unlinked : (g : Forest context_ids W) (o : ArenaIndex) → Nested f → In o (ops_of f block) → g ≡ in_blocks f (without same_id o) → StandsApartBut block first g
      but-unlinked g o nested there is = record {
        nested = apart.nested;
        left = record {
          ops = λ p live. ap (λ (k : Forest context_ids W). k.ops p) is ∙ apart.left.ops p live;
          blocks = λ b live. ap (λ (k : Forest context_ids W). k.blocks b) is ∙ ap (option_map (on_ops (without same_id o))) (apart.left.blocks b live) ∙ stays (first.blocks b) (elsewhere b live);
          regions = λ r live. ap (λ (k : Forest context_ids W). k.regions r) is ∙ apart.left.regions r live;
        };
        apart = λ x y at. apart.apart x y (fewer x y (subst (λ (k : Forest context_ids W). In x (children k y)) is at));
      }
        where
          stays : (m : Option (BlockRecord context_ids W)) → (In o (list_of (λ (r : BlockRecord context_ids W). r.ops) m) → ⊥) → option_map (on_ops (without same_id o)) m ≡ m
          stays None out = refl
          stays (Some r) out = ap (λ (os : List ArenaIndex). Some (record r { ops = os })) (lacking o r.ops out)

          elsewhere : (b : ArenaIndex) → IsLive first (a_block b) → In o (ops_of first b) → ⊥
          elsewhere b live at =
              let now : In o (ops_of f b) = subst (λ (m : Option (BlockRecord context_ids W)). In o (list_of (λ (r : BlockRecord context_ids W). r.ops) m)) (sym (apart.left.blocks b live)) at in
              let one : ◌≡◌ {A = Entity context_ids} (a_block b) (a_block block) = nested.one_list (an_op o) (a_block b) (a_block block) (In-map an_op o (ops_of f b) now) (In-map an_op o (ops_of f block) there) in
              new (subst (λ (e : Entity context_ids). IsLive first e) one live)

          cut : (m : Option (BlockRecord context_ids W)) (x : ArenaIndex) → In x (list_of (λ (r : BlockRecord context_ids W). r.ops) (option_map (on_ops (without same_id o)) m)) → In x (list_of (λ (r : BlockRecord context_ids W). r.ops) m)
          cut None x at = at
          cut (Some r) x at = (In-filter (λ y. not (same_id y o)) x r.ops at).0

          fewer : (x y : Entity context_ids) → In x (children (in_blocks f (without same_id o)) y) → In x (children f y)
          fewer x (an_op p) at = at
          fewer x (a_block c) at =
              let found = In-map_back an_op x (list_of (λ (r : BlockRecord context_ids W). r.ops) (option_map (on_ops (without same_id o)) (f.blocks c))) at in
              subst (λ (e : Entity context_ids). In e (children f (a_block c))) (sym found.2) (In-map an_op found.0 (ops_of f c) (cut (f.blocks c) found.0 found.1))
          fewer x (a_region r) at = at
