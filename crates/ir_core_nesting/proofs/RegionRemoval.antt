-- An empty region that is removed, wherever it stands in the list of its operation.
use mathlib.Core.Path.{fun_ext}
use Rattle.std.proofs.Common.{◌≡◌, true, cond, List, Option, Some, None, refl, sym, ap, ◌∙◌, subst, inl, inr}
use Rattle.std.specs.Option.{option_map}
use Rattle.std.proofs.lemmas.Option.{same_Some}
use Rattle.ir_model.specs.declared.ids.ArenaIndex.{ArenaIndex}
use Rattle.ir_model.specs.ContextIds.{same_id}
use Rattle.ir_model.specs.Nesting.{In}
use Rattle.ir_model.specs.Changes.{on_regions, rewrite, rewrite_all, without}
use Rattle.ir_model.proofs.IdCases.{id_cases, id_same, id_differs}
use Rattle.ir_model.proofs.Filters.{In-filter}
use Rattle.ir_model.proofs.Relinks.{without_absent}
use Rattle.ir_model.proofs.TwoRuns.{id_tells}
use Rattle.ir_model.proofs.Arenas.{get-cut_other}
use Rattle.ir_base_arenas.specs.Arena.{Arena, get, IsLiveIn, fill, cut}
use Rattle.ir_base_arenas.specs.Lists.{AreLists, seen}
use Rattle.ir_core_records.specs.declared.record.Operation.{Operation}
use Rattle.ir_core_records.specs.declared.record.Region.{Region}
use Rattle.ir_core_records.specs.declared.records.Records.{Records}
use Rattle.ir_core_records.specs.Nested.{AreNested}
use Rattle.ir_core_records.specs.Meaning.{forest_in, op_record, region_index}
use Rattle.ir_core_records.specs.Tree.{tree_of, blocks_in, block_links, region_ends, region_parent}
use Rattle.ir_core_nesting.specs.Leaves.{in_ops, without_region}
use Rattle.ir_core_nesting.proofs.Readings.{live-of, places-cut, seen-cut}
use Rattle.ir_core_nesting.proofs.Kept.{OpsFound, BlocksFound, Becomes}
use Rattle.ir_core_nesting.proofs.RegionLists.{with_regions, relisted-chains, relisted-own, relisted-nested, relisted-forest, owned-by}

module _ {D A K B S X L : Type 0} (old : Records D A K B S X L) (op r : ArenaIndex) (x : Operation D A K B S X L) (found : get old.ops op ≡ Some x)
    (region : Region) (found_region : get old.regions r ≡ Some region) (knows : region.parent ≡ op)
    (found_ops : OpsFound D A K B S X L) (found_blocks : BlocksFound D A K B S X L) (nested : AreNested (tree_of old))
    (lists : AreLists (seen block_links old.blocks) (seen region_ends (cut old.regions r)) (blocks_in (tree_of old))) where
  abbrev kept : List ArenaIndex
  kept = without same_id r x.regions

  abbrev left : Records D A K B S X L
  left = with_regions old op x found kept (cut old.regions r)

  live : IsLiveIn old.regions r
  live = live-of old.regions r region found_region

  owned : option_map region_parent (get old.regions r) ≡ Some op
  owned = ap (option_map region_parent) found_region ∙ ap Some knows

  still : (g o : ArenaIndex) → (g ≡ r → ⊥) → option_map region_parent (get old.regions g) ≡ Some o → option_map region_parent (get (cut old.regions r) g) ≡ Some o
  still g o ne h = ap (option_map region_parent) (get-cut_other old.regions r g live ne) ∙ h

  here : (g : ArenaIndex) → In g kept → (tree_of left).parent_ops g ≡ Some op
  here g h =
      let k = In-filter _ g x.regions h in
      let other : g ≡ r → ⊥ = λ e. (let same : same_id g r ≡ true = ap (λ z. same_id z r) e ∙ id_same r in let u = k.1 in cc) in
      still g op other (owned-by old nested op g x found k.0)

  -- the region stands in no other list
  elsewhere : (p : ArenaIndex) (z : Operation D A K B S X L) → get old.ops p ≡ Some z → (p ≡ op → ⊥) → In r z.regions → ⊥
  elsewhere p z is other h = other (same_Some _ _ (sym (owned-by old nested p r z is h) ∙ owned))

  left_alone : (p : ArenaIndex) → (p ≡ op → ⊥) → (m : Option (Operation D A K B S X L)) → get old.ops p ≡ m → option_map op_record m ≡ option_map (on_regions (without same_id r)) (option_map op_record m)
  left_alone p other None e = refl
  left_alone p other (Some z) e = sym (ap (λ rs. Some (record (op_record z) { regions = rs })) (without_absent same_id id_tells r z.regions (elsewhere p z e other)))

  -- to take it out of one list is to take it out of all
  one-all : (p : ArenaIndex) → rewrite same_id op (on_regions (without same_id r)) (forest_in old).ops p ≡ rewrite_all (on_regions (without same_id r)) (forest_in old).ops p
  one-all p = elim (id_cases p op) [
    | inl e ↦ ap (λ b. cond b (option_map (on_regions (without same_id r)) ((forest_in old).ops p)) ((forest_in old).ops p)) (ap (λ z. same_id z op) e ∙ id_same op)
    | inr ne ↦ ap (λ b. cond b (option_map (on_regions (without same_id r)) ((forest_in old).ops p)) ((forest_in old).ops p)) (id_differs p op ne) ∙ left_alone p ne (get old.ops p) refl
  ]

  region-gone : Becomes old left (without_region (in_ops (forest_in old) (without same_id r)) r)
  region-gone = record {
    forest = relisted-forest old op x found kept (cut old.regions r) found_ops found_blocks nested lists
        (on_regions (without same_id r)) refl
        (λ g. cond (same_id g r) None ((forest_in old).regions g))
        (λ g. seen-cut old.regions (λ _. blocks_in (tree_of old) g) r live g)
        ∙ (λ i. record (forest_in old) { ops = fun_ext one-all i; regions = λ g. cond (same_id g r) None ((forest_in old).regions g) });
    nested = relisted-nested old op x found kept (cut old.regions r) found_ops found_blocks nested lists here
        (λ o g ne h. still g o (λ e. ne (same_Some _ _ (sym (nested.parents o g h) ∙ ap (λ z. option_map region_parent (get old.regions z)) e ∙ owned))) (nested.parents o g h));
    chains = relisted-chains old op x found kept (cut old.regions r);
    own = relisted-own old op x found kept (cut old.regions r) (places-cut region_index old.regions r live);
  }

  -- as the records are written
  pub region-removed : (ops : Arena (Operation D A K B S X L)) (regions : Arena Region) → ops ≡ fill old.ops op (record x { regions = kept }) → regions ≡ cut old.regions r
      → Becomes old (record { ops = ops; blocks = old.blocks; regions = regions }) (without_region (in_ops (forest_in old) (without same_id r)) r)
  region-removed ops regions e f =
      subst (λ (t : Records D A K B S X L). Becomes old t (without_region (in_ops (forest_in old) (without same_id r)) r)) (sym (λ i. record { ops = e i; blocks = old.blocks; regions = f i })) region-gone
