-- What a block made in the records makes of a context.
use Rattle.std.proofs.Common.{◌≡◌, ℕ, ◌+◌, ◌<◌, ◌≤◌, All, List, [], ◌∷◌, length, map, Option, None, refl, sym, ap, subst, inl, arith}
use Rattle.std.specs.Option.{option_map}
use Rattle.ir_model.specs.declared.ids.ArenaIndex.{ArenaIndex}
use Rattle.ir_model.specs.Forest.{Text}
use Rattle.ir_model.specs.Changes.{new_block}
use Rattle.ir_base_arenas.specs.Arena.{Arena}
use Rattle.ir_base_dialects.specs.declared.type_handle.TypeHandle.{TypeHandle}
use Rattle.ir_core_records.specs.declared.record.Definition.{Definition}
use Rattle.ir_core_records.specs.declared.records.Records.{Records}
use Rattle.ir_core_records.specs.Growth.{Grows}
use Rattle.ir_core_records.specs.Lists.{definitions_from}
use Rattle.ir_core_records.specs.Meaning.{block_record, definition_of, forest_in}
use Rattle.ir_core_records.specs.Tree.{ops_in, tree_of}
use Rattle.ir_core_context.specs.Calls.{EntitiesStayLive, HasAll, KeepsAll, MakesBlock, StayLive, block_needs}
use Rattle.ir_core_context.specs.Creation.{Extends, HoldTogether}
use Rattle.ir_core_context.specs.Sound.{IsSound}
use Rattle.ir_core_context.specs.State.{ContextState, bare, forest_of, types_of}
use Rattle.ir_core_context.proofs.Growths.{Grows-none}
use Rattle.ir_core_context.proofs.Handed.{made}
use Rattle.ir_core_context.proofs.Made.{block-made, block-sound}
use Rattle.ir_core_context.proofs.StayLive.{block-entities-stay, block-stays}
use Rattle.ir_core_context.proofs.StoredTypes.{length-stored}

module _ {D A K B S X L : Type 0} (s : ContextState D A K B S X L) (t : Records D A K B S X L) (unknown : L) (b : ArenaIndex) (label : Option Text) (arguments : List Definition)
    (grows : Grows s.records.blocks t.blocks (b ∷ [])) (is : forest_in t ≡ new_block (forest_of s) b unknown label (map definition_of arguments)) where
  dead : (forest_of s).blocks b ≡ None
  dead = ap (option_map (block_record (ops_in (tree_of s.records) b))) (grows.dead b (inl refl))

  pub created-block-keeps : (next : ℕ) → KeepsAll s (record s { records = t; next_value = next })
  created-block-keeps next = record {
    stay_live = subst (StayLive (forest_of s)) (sym is) (block-stays (forest_of s) b unknown label (map definition_of arguments) dead);
    entities_stay_live = subst (EntitiesStayLive (forest_of s)) (sym is) (block-entities-stay (forest_of s) b unknown label (map definition_of arguments) dead);
    types_stay = refl;
  }

  module _ (sound : IsSound s) (together : HoldTogether t) (ts : List TypeHandle) (numbered : arguments ≡ definitions_from s.next_value ts)
      (ops : t.ops ≡ s.records.ops) (regions : t.regions ≡ s.records.regions)
      (known : All (λ (y : TypeHandle). y.place < length (types_of s)) ts) (room : HasAll s (block_needs (length ts))) where
    extends : Extends s.records t [] (b ∷ []) []
    extends = record {
      ops = subst (λ (a : Arena _). Grows s.records.ops a []) (sym ops) (Grows-none s.records.ops);
      blocks = grows;
      regions = subst (λ (a : Arena _). Grows s.records.regions a []) (sym regions) (Grows-none s.records.regions);
    }

    forest : forest_in t ≡ new_block (forest_of s) b unknown label (map definition_of (definitions_from s.next_value ts))
    forest = subst (λ (xs : List Definition). forest_in t ≡ new_block (forest_of s) b unknown label (map definition_of xs)) numbered is

    all_known : All (λ (y : TypeHandle). y.place < length s.types) ts
    all_known = subst (λ n. All (λ (y : TypeHandle). y.place < n) ts) (length-stored A K B S X L s.types) known

    no_uses : s.next_use + 0 ≡ s.next_use
    no_uses = omega arith

    uses_fit : s.next_use + 0 ≤ s.limits.uses
    uses_fit = omega (arith, sound.counted.use_limit)

    abbrev after : ContextState D A K B S X L
    after = record { records = t; types = s.types; next_value = s.next_value + length ts; next_use = s.next_use; side = s.side; limits = s.limits }

    is_after : made s sound t together [] (b ∷ []) [] extends (length ts) 0 room.values uses_fit ≡ after
    is_after i = record { records = t; types = s.types; next_value = s.next_value + length ts; next_use = no_uses i; side = s.side; limits = s.limits }

    pub created-block-sound : IsSound after
    created-block-sound = subst IsSound is_after (block-sound s sound t together unknown b label ts extends forest dead all_known room.values uses_fit)

    pub created-block-made : MakesBlock unknown (bare s) (bare after) b label (map (λ (y : TypeHandle). y.place) ts)
    created-block-made =
        subst (λ (z : ContextState D A K B S X L). MakesBlock unknown (bare s) (bare z) b label (map (λ (y : TypeHandle). y.place) ts)) is_after
        (block-made s sound t together unknown b label ts extends forest dead all_known room.values uses_fit)
