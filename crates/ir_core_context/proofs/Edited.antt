-- What an edit of the lists leaves of a context.
use Rattle.std.proofs.Common.{◌≡◌, ◌∷◌, ◌++◌, ℕ, ◌⊎◌, Bool, true, false, if◌then◌else◌, List, [], length, refl, sym, subst, ◌∙◌, inl, inr}
use Rattle.ir_model.specs.declared.ids.ArenaIndex.{ArenaIndex}
use Rattle.ir_model.specs.ContextIds.{context_ids, same_id}
use Rattle.ir_model.specs.Forest.{Forest, a_block, a_region, an_op}
use Rattle.ir_model.specs.Nesting.{In, Inside, IsLive, IsLiveNamed, WellFormed, blocks_of, numbers_of, ops_of, use_numbers_of}
use Rattle.ir_model.specs.Changes.{append_blocks, append_ops, in_blocks, in_regions, move_region, on_block, on_ops, on_region, without}
use Rattle.ir_model.specs.Edits.{MayGoBeside, MayGoInto, MayJoin}
use Rattle.ir_model.proofs.Entries.{AddsOne}
use Rattle.ir_model.proofs.Parts.{still_live}
use Rattle.ir_base_arenas.specs.Arena.{Arena}
use Rattle.ir_base_arenas.specs.Lists.{SameIds}
use Rattle.ir_core_records.specs.declared.records.Records.{Records}
use Rattle.ir_core_records.specs.Chains.{AreLinked}
use Rattle.ir_core_records.specs.Meaning.{closed, forest_in}
use Rattle.ir_core_records.specs.Nested.{AreNested}
use Rattle.ir_core_records.specs.Tree.{tree_of}
use Rattle.ir_core_nesting.specs.Edits.{KeepsChains}
use Rattle.ir_core_context.specs.Calls.{KeepsAll, SameButForest}
use Rattle.ir_core_context.specs.Sound.{IsSound, Keeps}
use Rattle.ir_core_context.specs.State.{ContextState, bare, forest_of, passed_of}
use Rattle.ir_core_context.proofs.EditedLists.{KeepsLists, block-beside, block-into, block-out, blocks-joined, named-still, op-beside, op-into, op-out, ops-joined, region-moved, unchanged}

module _ {D A K B S X L : Type 0} where
  -- the context is sound, all but its forest is as before, and what was live is live
  pub record Edited (s : ContextState D A K B S X L) (t : Records D A K B S X L) : Type 0 where
    pub sound : IsSound (record s { records = t })
    pub rest : SameButForest (bare s) (bare (record s { records = t }))
    pub keeps : KeepsAll s (record s { records = t })

  -- an arena with the same ids keeps to the limits
  pub keeps-same : {T : Type 0} (s : ContextState D A K B S X L) (a b : Arena T) → SameIds a b → Keeps s.limits a → Keeps s.limits b
  keeps-same s a b same keeps = record { limit = same.limit ∙ keeps.limit; last_version = same.last_version ∙ keeps.last_version }

  module _ {s : ContextState D A K B S X L} {t : Records D A K B S X L} (sound : IsSound s) (keeps : KeepsChains s.records t) (nested : AreNested (tree_of t)) where
    edited : (g : Forest context_ids (closed A K B S X L)) → forest_in t ≡ g → KeepsLists (forest_of s) g (length s.types) → Edited s t
    edited g is lists = record {
      sound = record {
        linked = subst AreLinked (sym keeps.chains) sound.linked;
        nested = nested;
        own = keeps.own sound.own;
        formed = subst (λ f. WellFormed f (length s.types)) (sym is) lists.kept.forest;
        counted = record {
          values = λ d n h. sound.counted.values d n (lists.kept.values (record { definer = d; number = n }) (subst (λ f. In n (numbers_of f d)) is h));
          uses = λ o n h. elim (lists.kept.uses o n (subst (λ f. In n (use_numbers_of f o)) is h)) [ inl k ↦ sound.counted.uses o n k | inr k ↦ absurd k ];
          value_limit = sound.counted.value_limit;
          use_limit = sound.counted.use_limit;
          limits = sound.counted.limits;
          op_slots = keeps-same s s.records.ops t.ops keeps.op_ids sound.counted.op_slots;
          block_slots = keeps-same s s.records.blocks t.blocks keeps.block_ids sound.counted.block_slots;
          region_slots = keeps-same s s.records.regions t.regions keeps.region_ids sound.counted.region_slots;
          aux_slots = sound.counted.aux_slots;
        };
      };
      rest = record {
        store = refl;
        beside = refl;
        passed = λ i. record (passed_of s) { ops = λ id. keeps.op_ids.passed id i; blocks = λ id. keeps.block_ids.passed id i; regions = λ id. keeps.region_ids.passed id i };
        limits = refl;
      };
      keeps = record {
        stay_live = λ d h. subst (λ f. IsLiveNamed f d) (sym is) (named-still (forest_of s) g lists.same d h);
        entities_stay_live = λ e h. subst (λ f. IsLive f e) (sym is) (still_live (forest_of s) g lists.same e h);
        types_stay = refl;
      };
    }

    pub same-edited : forest_in t ≡ forest_of s → Edited s t
    same-edited is = edited _ is (unchanged (forest_of s) (length s.types) sound.formed)

    pub op-into-edited : (o b : ArenaIndex) (g : List ArenaIndex → List ArenaIndex) → ((xs : List ArenaIndex) → AddsOne o xs (g xs))
        → IsLive (forest_of s) (an_op o) → MayGoInto (forest_of s) (an_op o) (a_block b) → forest_in t ≡ on_block (forest_of s) b (on_ops g) → Edited s t
    op-into-edited o b g adds live may is = edited _ is (op-into (forest_of s) (length s.types) sound.formed o b g adds live may)

    pub op-beside-edited : (o mark : ArenaIndex) (g : List ArenaIndex → List ArenaIndex) → ((xs : List ArenaIndex) → (g xs ≡ xs) ⊎ (AddsOne o xs (g xs) × In mark xs))
        → IsLive (forest_of s) (an_op o) → MayGoBeside (forest_of s) (an_op o) (an_op mark) → forest_in t ≡ in_blocks (forest_of s) g → Edited s t
    op-beside-edited o mark g joins live may is = edited _ is (op-beside (forest_of s) (length s.types) sound.formed o mark g joins live may)

    pub op-out-edited : (o : ArenaIndex) → forest_in t ≡ in_blocks (forest_of s) (without same_id o) → Edited s t
    op-out-edited o is = edited _ is (op-out (forest_of s) (length s.types) sound.formed o)

    pub ops-joined-edited : (b c : ArenaIndex) → IsLive (forest_of s) (a_block c) → MayJoin (forest_of s) (a_block b) (a_block c) → forest_in t ≡ append_ops (forest_of s) b c (ops_of (forest_of s) c) → Edited s t
    ops-joined-edited b c live may is = edited _ is (ops-joined (forest_of s) (length s.types) sound.formed b c live may)

    pub block-into-edited : (b r : ArenaIndex) (g : List ArenaIndex → List ArenaIndex) → ((xs : List ArenaIndex) → AddsOne b xs (g xs))
        → IsLive (forest_of s) (a_block b) → MayGoInto (forest_of s) (a_block b) (a_region r) → forest_in t ≡ on_region (forest_of s) r g → Edited s t
    block-into-edited b r g adds live may is = edited _ is (block-into (forest_of s) (length s.types) sound.formed b r g adds live may)

    pub block-beside-edited : (b mark : ArenaIndex) (g : List ArenaIndex → List ArenaIndex) → ((xs : List ArenaIndex) → (g xs ≡ xs) ⊎ (AddsOne b xs (g xs) × In mark xs))
        → IsLive (forest_of s) (a_block b) → MayGoBeside (forest_of s) (a_block b) (a_block mark) → forest_in t ≡ in_regions (forest_of s) g → Edited s t
    block-beside-edited b mark g joins live may is = edited _ is (block-beside (forest_of s) (length s.types) sound.formed b mark g joins live may)

    pub block-out-edited : (b : ArenaIndex) → forest_in t ≡ in_regions (forest_of s) (without same_id b) → Edited s t
    block-out-edited b is = edited _ is (block-out (forest_of s) (length s.types) sound.formed b)

    pub blocks-joined-edited : (r q : ArenaIndex) → IsLive (forest_of s) (a_region q) → MayJoin (forest_of s) (a_region r) (a_region q) → forest_in t ≡ append_blocks (forest_of s) r q (blocks_of (forest_of s) q) → Edited s t
    blocks-joined-edited r q live may is = edited _ is (blocks-joined (forest_of s) (length s.types) sound.formed r q live may)

    -- the region stands there already, or goes there
    pub region-moved-edited : (r o : ArenaIndex) (there : Bool) → IsLive (forest_of s) (a_region r) → IsLive (forest_of s) (an_op o) → (Inside (forest_of s) (a_region r) (an_op o) → ⊥)
        → forest_in t ≡ (if there then forest_of s else move_region (forest_of s) r o) → Edited s t
    region-moved-edited r o true live op_live outside is = same-edited is
    region-moved-edited r o false live op_live outside is = edited _ is (region-moved (forest_of s) (length s.types) sound.formed r o live op_live outside)
