-- An edit of the lists keeps a forest well formed, with the same definitions and uses.
use Rattle.std.proofs.Common.{◌≡◌, ℕ, ◌⊎◌, inl, cond, List, [], ◌∷◌, ◌++◌, refl, sym, ap, subst, ◌∙◌}
use Rattle.std.specs.Option.{option_map}
use Rattle.ir_model.specs.declared.ids.ArenaIndex.{ArenaIndex}
use Rattle.ir_model.specs.ContextIds.{context_ids, same_id}
use Rattle.ir_model.specs.Forest.{Dialect, Forest, Named, a_block, a_region, a_value, an_op, the_block}
use Rattle.ir_model.specs.Nesting.{In, Inside, IsLive, IsLiveNamed, WellFormed, blocks_of, list_of, ops_of}
use Rattle.ir_model.specs.Changes.{append_blocks, append_ops, in_blocks, in_regions, move_region, on_block, on_op, on_ops, on_region, on_regions, without}
use Rattle.ir_model.specs.Edits.{MayGoBeside, MayGoInto, MayJoin}
use Rattle.ir_model.proofs.Entries.{AddsOne}
use Rattle.ir_model.proofs.Found.{there}
use Rattle.ir_model.proofs.KeepsLists.{AppendBlocks-kept, AppendOps-kept, UnlinkBlock-kept, UnlinkOp-kept, block_beside_keeps, block_into_keeps, op_beside_keeps, op_into_keeps}
use Rattle.ir_model.proofs.KeepsRegions.{MoveRegion-kept}
use Rattle.ir_model.proofs.Parts.{Kept, SameButLists, ops_part, regions_part, rewrite_shape, same_but_blocks, same_but_ops, same_but_regions, then_same, whole}
use Rattle.ir_model.proofs.TwoRuns.{lawful}

module _ {W : Dialect} where
  -- the forest is well formed, and only lists differ
  pub record KeepsLists (f g : Forest context_ids W) (keys : ℕ) : Type 0 where
    pub kept : Kept f g keys []
    pub same : SameButLists f g

  -- what is named is live still
  pub named-still : (f g : Forest context_ids W) → SameButLists f g → (d : Named context_ids) → IsLiveNamed f d → IsLiveNamed g d
  named-still f g s (a_value v) h = rw (s.definitions v.definer) h
  named-still f g s (the_block b) h = s.blocks b ∙ h

  module _ (f : Forest context_ids W) where
    -- one block's list is rewritten
    block-same : (b : ArenaIndex) (g : List ArenaIndex → List ArenaIndex) → SameButLists f (on_block f b (on_ops g))
    block-same b g = same_but_ops f _ (λ c os. cond (same_id c b) (g os) os) (rewrite_shape ops_part same_id b g f.blocks)

    -- one region's list is rewritten
    region-same : (r : ArenaIndex) (g : List ArenaIndex → List ArenaIndex) → SameButLists f (on_region f r g)
    region-same r g = same_but_blocks f _ (λ c bs. cond (same_id c r) (g bs) bs) (rewrite_shape (whole (List ArenaIndex)) same_id r g f.regions)

    -- the list of regions of one operation is rewritten
    op-same : (o : ArenaIndex) (g : List ArenaIndex → List ArenaIndex) → SameButLists f (on_op f o (on_regions g))
    op-same o g = same_but_regions f _ (λ c rs. cond (same_id c o) (g rs) rs) (rewrite_shape regions_part same_id o g f.ops)

  module _ (f : Forest context_ids W) (keys : ℕ) (formed : WellFormed f keys) where
    pub unchanged : KeepsLists f f keys
    unchanged = record {
      kept = record { forest = formed; values = λ v h. h; uses = λ o u h. inl h };
      same = record { definitions = λ d. refl; uses = λ o. refl; names = λ o. refl; ops = λ o. refl; blocks = λ b. refl; regions = λ r h. h };
    }

    -- operations
    pub op-into : (o b : ArenaIndex) (g : List ArenaIndex → List ArenaIndex) → ((xs : List ArenaIndex) → AddsOne o xs (g xs))
        → IsLive f (an_op o) → MayGoInto f (an_op o) (a_block b) → KeepsLists f (on_block f b (on_ops g)) keys
    op-into o b g adds live may = record { kept = op_into_keeps lawful f keys [] formed o live may.0 b g adds may.1; same = block-same f b g }

    pub op-beside : (o mark : ArenaIndex) (g : List ArenaIndex → List ArenaIndex) → ((xs : List ArenaIndex) → (g xs ≡ xs) ⊎ (AddsOne o xs (g xs) × In mark xs))
        → IsLive f (an_op o) → MayGoBeside f (an_op o) (an_op mark) → KeepsLists f (in_blocks f g) keys
    op-beside o mark g joins live may = record {
      kept = op_beside_keeps lawful f keys [] formed o live may.0 mark may.1.0 g joins may.1.1 may.1.2;
      same = same_but_ops f _ (λ _. g) (λ _. refl);
    }

    pub op-out : (o : ArenaIndex) → KeepsLists f (in_blocks f (without same_id o)) keys
    op-out o = record { kept = UnlinkOp-kept lawful f keys [] formed o; same = same_but_ops f _ (λ _. without same_id o) (λ _. refl) }

    pub ops-joined : (b c : ArenaIndex) → IsLive f (a_block c) → MayJoin f (a_block b) (a_block c) → KeepsLists f (append_ops f b c (ops_of f c)) keys
    ops-joined b c live may =
        let q = there (f.blocks c) live in
        record {
          kept = subst (λ (os : List ArenaIndex). Kept f (append_ops f b c os) keys []) (sym (ap (list_of (λ r. r.ops)) q.1)) (AppendOps-kept lawful f keys [] formed b c q.0 q.1 may.0 (λ x h. (may.1 x h).0));
          same = then_same f (on_block f b (on_ops (λ xs. xs ++ ops_of f c))) _ (block-same f b (λ xs. xs ++ ops_of f c)) (block-same (on_block f b (on_ops (λ xs. xs ++ ops_of f c))) c (λ _. []));
        }

    -- blocks
    pub block-into : (b r : ArenaIndex) (g : List ArenaIndex → List ArenaIndex) → ((xs : List ArenaIndex) → AddsOne b xs (g xs))
        → IsLive f (a_block b) → MayGoInto f (a_block b) (a_region r) → KeepsLists f (on_region f r g) keys
    block-into b r g adds live may = record { kept = block_into_keeps lawful f keys [] formed b live may.0 r g adds may.1; same = region-same f r g }

    pub block-beside : (b mark : ArenaIndex) (g : List ArenaIndex → List ArenaIndex) → ((xs : List ArenaIndex) → (g xs ≡ xs) ⊎ (AddsOne b xs (g xs) × In mark xs))
        → IsLive f (a_block b) → MayGoBeside f (a_block b) (a_block mark) → KeepsLists f (in_regions f g) keys
    block-beside b mark g joins live may = record {
      kept = block_beside_keeps lawful f keys [] formed b live may.0 mark may.1.0 g joins may.1.1 may.1.2;
      same = same_but_blocks f _ (λ _. g) (λ _. refl);
    }

    pub block-out : (b : ArenaIndex) → KeepsLists f (in_regions f (without same_id b)) keys
    block-out b = record { kept = UnlinkBlock-kept lawful f keys [] formed b; same = same_but_blocks f _ (λ _. without same_id b) (λ _. refl) }

    pub blocks-joined : (r q : ArenaIndex) → IsLive f (a_region q) → MayJoin f (a_region r) (a_region q) → KeepsLists f (append_blocks f r q (blocks_of f q)) keys
    blocks-joined r q live may =
        let found = there (f.regions q) live in
        record {
          kept = subst (λ (bs : List ArenaIndex). Kept f (append_blocks f r q bs) keys []) (sym (ap (list_of (λ bs. bs)) found.1)) (AppendBlocks-kept lawful f keys [] formed r q found.0 found.1 may.0 (λ x h. (may.1 x h).0));
          same = then_same f (on_region f r (λ xs. xs ++ blocks_of f q)) _ (region-same f r (λ xs. xs ++ blocks_of f q)) (region-same (on_region f r (λ xs. xs ++ blocks_of f q)) q (λ _. []));
        }

    -- a region
    pub region-moved : (r o : ArenaIndex) → IsLive f (a_region r) → IsLive f (an_op o) → (Inside f (a_region r) (an_op o) → ⊥) → KeepsLists f (move_region f r o) keys
    region-moved r o live op_live outside =
        let q = there (f.ops o) op_live in
        let lifted : Forest context_ids W = record f { ops = λ p. option_map (on_regions (without same_id r)) (f.ops p) } in
        record {
          kept = MoveRegion-kept lawful f keys [] formed r o q.0 q.1 live outside;
          same = then_same f lifted _ (same_but_regions f _ (λ _. without same_id r) (λ _. refl)) (op-same lifted o (λ rs. rs ++ r ∷ []));
        }
