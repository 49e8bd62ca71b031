-- What dropping uses and erasing leave of a context.
use Rattle.std.proofs.Common.{◌≡◌, List, [], length, map, Option, Some, None, is_some, IsSome, inl, inr, refl, sym, ap, subst, ◌∙◌}
use Rattle.std.specs.Option.{option_map}
use Rattle.ir_model.specs.declared.ids.ArenaIndex.{ArenaIndex}
use Rattle.ir_model.specs.ContextIds.{context_ids}
use Rattle.ir_model.specs.Changes.{DropsUses, Removes, no_uses}
use Rattle.ir_model.specs.Forest.{Dialect, Definer, of_op, of_block, Definition, Entity, Forest, OpRecord, BlockRecord, a_block, a_region, a_value, an_op, the_block}
use Rattle.ir_model.specs.Nesting.{In, IsClosed, IsLive, IsLiveNamed, definitions_of, list_of}
use Rattle.ir_model.proofs.Keeps.{is_some-map}
use Rattle.ir_model.proofs.KeepsErase.{Removes-kept}
use Rattle.ir_model.proofs.KeepsUses.{DropsUses-kept}
use Rattle.ir_model.proofs.Parts.{Kept}
use Rattle.ir_model.proofs.TwoRuns.{lawful}
use Rattle.ir_base_arenas.specs.Arena.{Arena}
use Rattle.ir_core_records.specs.declared.records.Records.{Records}
use Rattle.ir_core_records.specs.Chains.{AreLinked, chains_of}
use Rattle.ir_core_records.specs.Frames.{KeepsTree}
use Rattle.ir_core_records.specs.Meaning.{forest_in}
use Rattle.ir_core_records.specs.Nested.{AreNested}
use Rattle.ir_core_records.specs.Table.{KnowOwn}
use Rattle.ir_core_records.specs.Tree.{tree_of}
use Rattle.ir_core_erasing.specs.Erasing.{HandsOutNone, SamePassed}
use Rattle.ir_core_context.specs.Calls.{EntitiesStayLive, SameButForest, StayLive}
use Rattle.ir_core_context.specs.Sound.{IsSound, Keeps}
use Rattle.ir_core_context.specs.State.{ContextState, bare, forest_of, passed_of}
use Rattle.ir_core_context.proofs.Edited.{Edited}
use Rattle.ir_core_context.proofs.PlacedUses.{kept-edited}

module _ {D A K B S X L : Type 0} (s : ContextState D A K B S X L) (sound : IsSound s) (t : Records D A K B S X L) (ids : HandsOutNone s.records t) where
  keeps-passed : {T : Type 0} (a b : Arena T) → SamePassed a b → Keeps s.limits a → Keeps s.limits b
  keeps-passed a b same keeps = record { limit = same.limit ∙ keeps.limit; last_version = same.last_version ∙ keeps.last_version }

  -- no id was handed out, and the forest has nothing that wasn't there
  pub kept-sound : AreLinked (chains_of t) → AreNested (tree_of t) → KnowOwn t → Kept (forest_of s) (forest_in t) (length s.types) [] → IsSound (record s { records = t })
  kept-sound linked nested own kept = record {
    linked = linked;
    nested = nested;
    own = own;
    formed = kept.forest;
    counted = record {
      values = λ d n h. sound.counted.values d n (kept.values (record { definer = d; number = n }) h);
      uses = λ o n h. elim (kept.uses o n h) [ inl k ↦ sound.counted.uses o n k | inr k ↦ absurd k ];
      value_limit = sound.counted.value_limit;
      use_limit = sound.counted.use_limit;
      limits = sound.counted.limits;
      op_slots = keeps-passed s.records.ops t.ops ids.ops sound.counted.op_slots;
      block_slots = keeps-passed s.records.blocks t.blocks ids.blocks sound.counted.block_slots;
      region_slots = keeps-passed s.records.regions t.regions ids.regions sound.counted.region_slots;
      aux_slots = sound.counted.aux_slots;
    };
  }

  pub kept-rest : SameButForest (bare s) (bare (record s { records = t }))
  kept-rest = record {
    store = refl;
    beside = refl;
    passed = λ i. record (passed_of s) { ops = λ id. ids.ops.passed id i; blocks = λ id. ids.blocks.passed id i; regions = λ id. ids.regions.passed id i };
    limits = refl;
  }

-- where uses were dropped all definitions and entities stand
module _ {W : Dialect} (f g : Forest context_ids W) (e : Entity context_ids) (drops : DropsUses f e g) where
  abbrev Rec : Type 0
  Rec = OpRecord context_ids W

  results-stay : (o : ArenaIndex) → list_of (λ (r : Rec). r.results) (g.ops o) ≡ list_of (λ (r : Rec). r.results) (f.ops o)
  results-stay o = elim (drops.either o) [
    | inl k ↦ ap (list_of (λ (r : Rec). r.results)) k
    | inr k ↦ ap (list_of (λ (r : Rec). r.results)) k ∙ by (f.ops o)
  ]
    where
      by : (x : Option Rec) → list_of (λ (r : Rec). r.results) (option_map no_uses x) ≡ list_of (λ (r : Rec). r.results) x
      by None = refl
      by (Some r) = refl

  definitions-stay : (d : Definer context_ids) → definitions_of g d ≡ definitions_of f d
  definitions-stay (of_op o) = results-stay o
  definitions-stay (of_block b) = ap (λ (m : ArenaIndex → Option (BlockRecord context_ids W)). list_of (λ (r : BlockRecord context_ids W). r.arguments) (m b)) drops.blocks

  pub dropped-live : StayLive f g
  dropped-live (a_value v) h = subst (λ (xs : List (Definition context_ids W)). In v.number (map (λ (x : Definition context_ids W). x.number) xs)) (sym (definitions-stay v.definer)) h
  dropped-live (the_block b) h = subst (λ (m : ArenaIndex → Option (BlockRecord context_ids W)). IsSome (m b)) (sym drops.blocks) h

  pub dropped-entities-live : EntitiesStayLive f g
  dropped-entities-live (an_op o) h = elim (drops.either o) [
    | inl k ↦ ap is_some k ∙ h
    | inr k ↦ ap is_some k ∙ is_some-map no_uses (f.ops o) ∙ h
  ]
  dropped-entities-live (a_block b) h = subst (λ (m : ArenaIndex → Option (BlockRecord context_ids W)). IsSome (m b)) (sym drops.blocks) h
  dropped-entities-live (a_region r) h = subst (λ (m : ArenaIndex → Option (List ArenaIndex)). IsSome (m r)) (sym drops.regions) h

module _ {D A K B S X L : Type 0} {s : ContextState D A K B S X L} {t : Records D A K B S X L} (sound : IsSound s) where
  -- uses were dropped
  pub uses-dropped : (e : Entity context_ids) → KeepsTree s.records t → AreLinked (chains_of t) → DropsUses (forest_of s) e (forest_in t) → Edited s t
  uses-dropped e keeps linked drops =
      kept-edited sound keeps linked (forest_in t) refl (DropsUses-kept (forest_of s) (length s.types) [] sound.formed (forest_in t) e drops)
      (dropped-live (forest_of s) (forest_in t) e drops) (dropped-entities-live (forest_of s) (forest_in t) e drops)

  -- an entity that was closed went
  pub whole-erased : (e : Entity context_ids) → HandsOutNone s.records t → AreLinked (chains_of t) → AreNested (tree_of t) → (KnowOwn s.records → KnowOwn t)
      → IsClosed (forest_of s) e → Removes (forest_of s) e (forest_in t) → IsSound (record s { records = t })
  whole-erased e ids linked nested own closed removes =
      kept-sound s sound t ids linked nested (own sound.own) (Removes-kept lawful (forest_of s) (forest_in t) e (length s.types) sound.formed removes [] closed)
