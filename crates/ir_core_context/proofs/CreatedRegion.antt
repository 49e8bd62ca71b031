-- What a region made in the records makes of a context, or what a refusal leaves of it.
use Rattle.std.proofs.Common.{◌≡◌, ◌+◌, ◌≤◌, [], ◌∷◌, None, Result, Ok, Err, IfOk, OnOk, OnErr, IsSome, refl, sym, subst, inl, arith}
use Rattle.ir_model.specs.declared.ids.ArenaIndex.{ArenaIndex}
use Rattle.ir_model.specs.Changes.{add_region}
use Rattle.ir_model.proofs.Found.{there}
use Rattle.ir_base_arenas.specs.Arena.{Arena}
use Rattle.ir_base_arenas.specs.Lists.{SameIds}
use Rattle.ir_core_records.specs.declared.records.Records.{Records}
use Rattle.ir_core_records.specs.Growth.{Grows, SkipsIds}
use Rattle.ir_core_records.specs.Meaning.{forest_in}
use Rattle.ir_core_context.specs.Calls.{EntitiesStayLive, KeepsAll, MakesRegion, SkipsAtMost, StayLive, region_needs}
use Rattle.ir_core_context.specs.Creation.{Extends, HoldTogether, SkipsUpTo}
use Rattle.ir_core_context.specs.Sound.{IsSound}
use Rattle.ir_core_context.specs.State.{ContextState, bare, forest_of}
use Rattle.ir_core_context.proofs.GivenRecords.{dead-region}
use Rattle.ir_core_context.proofs.Growths.{Grows-ids, Grows-none, Skips-of}
use Rattle.ir_core_context.proofs.Handed.{made, skipped-skips, skipped-sound}
use Rattle.ir_core_context.proofs.Made.{region-made, region-sound}
use Rattle.ir_core_context.proofs.StayLive.{region-entities-stay, region-stays}

module _ {D A K B S X L E : Type 0} (s : ContextState D A K B S X L) (t : Records D A K B S X L) (o : ArenaIndex) where
  pub created-region-keeps : (result : Result ArenaIndex E) → IfOk result (λ r. forest_in t ≡ add_region (forest_of s) o r) → OnOk result (KeepsAll s (record s { records = t }))
  created-region-keeps (Ok r) forest = record {
    stay_live = subst (StayLive (forest_of s)) (sym forest) (region-stays (forest_of s) o r);
    entities_stay_live = subst (EntitiesStayLive (forest_of s)) (sym forest) (region-entities-stay (forest_of s) o r);
    types_stay = refl;
  }
  created-region-keeps (Err e) forest = tt

module _ {D A K B S X L : Type 0} (s : ContextState D A K B S X L) (sound : IsSound s) (t : Records D A K B S X L) (together : HoldTogether t)
    (op_ids : SameIds s.records.ops t.ops) (blocks : t.blocks ≡ s.records.blocks) (o : ArenaIndex) (live : IsSome ((forest_of s).ops o)) where
  abbrev after : ContextState D A K B S X L
  after = record s { records = t }

  same_ops : Grows s.records.ops t.ops []
  same_ops = Grows-ids s.records.ops s.records.ops t.ops [] (Grows-none s.records.ops) op_ids

  same_blocks : Grows s.records.blocks t.blocks []
  same_blocks = subst (λ (a : Arena _). Grows s.records.blocks a []) (sym blocks) (Grows-none s.records.blocks)

  module _ (r : ArenaIndex) (grows : Grows s.records.regions t.regions (r ∷ [])) (forest : forest_in t ≡ add_region (forest_of s) o r) where
    extends : Extends s.records t [] [] (r ∷ [])
    extends = record { ops = same_ops; blocks = same_blocks; regions = grows }

    no_values : s.next_value + 0 ≡ s.next_value
    no_values = omega arith

    no_uses : s.next_use + 0 ≡ s.next_use
    no_uses = omega arith

    values_fit : s.next_value + 0 ≤ s.limits.values
    values_fit = omega (arith, sound.counted.value_limit)

    uses_fit : s.next_use + 0 ≤ s.limits.uses
    uses_fit = omega (arith, sound.counted.use_limit)

    dead : (forest_of s).regions r ≡ None
    dead = dead-region s.records r (grows.dead r (inl refl))

    is_after : made s sound t together [] [] (r ∷ []) extends 0 0 values_fit uses_fit ≡ after
    is_after i = record { records = t; types = s.types; next_value = no_values i; next_use = no_uses i; side = s.side; limits = s.limits }

    one-sound : IsSound after
    one-sound = let q = there ((forest_of s).ops o) live in subst IsSound is_after (region-sound s sound t together o r q.0 extends forest q.1 dead values_fit uses_fit)

    one-made : MakesRegion (bare s) (bare after) o r
    one-made = let q = there ((forest_of s).ops o) live in subst (λ (z : ContextState D A K B S X L). MakesRegion (bare s) (bare z) o r) is_after (region-made s sound t together o r q.0 extends forest q.1 dead values_fit uses_fit)

  module _ (same : forest_in t ≡ forest_of s) (skipped : SkipsIds s.records.regions t.regions 1) where
    skips : SkipsUpTo s.records t 0 0 1
    skips = record { ops = Skips-of s.records.ops t.ops [] 0 same_ops (omega arith); blocks = Skips-of s.records.blocks t.blocks [] 0 same_blocks (omega arith); regions = skipped }

    none-sound : IsSound after
    none-sound = skipped-sound s sound t together same 0 0 1 skips

    none-skips : SkipsAtMost (bare s) (bare after) region_needs
    none-skips = skipped-skips s sound t together same 0 0 1 skips 0 0

  pub created-region-sound : {E : Type 0} (result : Result ArenaIndex E) → IfOk result (λ r. Grows s.records.regions t.regions (r ∷ [])) → IfOk result (λ r. forest_in t ≡ add_region (forest_of s) o r)
      → OnErr result (forest_in t ≡ forest_of s) → OnErr result (SkipsIds s.records.regions t.regions 1) → IsSound after
  created-region-sound (Ok r) grows forest same skipped = one-sound r grows forest
  created-region-sound (Err e) grows forest same skipped = none-sound same skipped

  pub created-region-made : {E : Type 0} (result : Result ArenaIndex E) → IfOk result (λ r. Grows s.records.regions t.regions (r ∷ [])) → IfOk result (λ r. forest_in t ≡ add_region (forest_of s) o r)
      → IfOk result (λ r. MakesRegion (bare s) (bare after) o r)
  created-region-made (Ok r) grows forest = one-made r grows forest
  created-region-made (Err e) grows forest = tt

  pub created-region-skips : {E : Type 0} (result : Result ArenaIndex E) → OnErr result (forest_in t ≡ forest_of s) → OnErr result (SkipsIds s.records.regions t.regions 1) → OnErr result (SkipsAtMost (bare s) (bare after) region_needs)
  created-region-skips (Ok r) same skipped = tt
  created-region-skips (Err e) same skipped = none-skips same skipped
