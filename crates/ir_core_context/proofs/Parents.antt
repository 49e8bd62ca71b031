-- The operation that a region knows is the one whose list has it.
use Rattle.std.proofs.Common.{◌≡◌, List, refl, sym, ap, subst, ◌∙◌, Option, Some, None, is_some, Result, Ok, Err, IfOk}
use Rattle.std.specs.Prelude.{IsSome}
use Rattle.std.specs.Option.{option_map}
use Rattle.std.proofs.lemmas.Option.{same_Some}
use Rattle.ir_model.specs.declared.ids.ArenaIndex.{ArenaIndex}
use Rattle.ir_model.specs.ContextIds.{context_ids}
use Rattle.ir_model.specs.Forest.{Dialect, Forest, OpRecord, a_region, an_op}
use Rattle.ir_model.specs.Nesting.{In, blocks_of, list_of, regions_of}
use Rattle.ir_model.specs.Parent.{IsIn, first_of, last_of}
use Rattle.ir_model.proofs.Nests.{In-map}
use Rattle.ir_base_arenas.specs.Arena.{get}
use Rattle.ir_core_records.specs.declared.record.Operation.{Operation}
use Rattle.ir_core_records.specs.declared.record.Region.{Region}
use Rattle.ir_core_records.specs.Meaning.{closed, op_record}
use Rattle.ir_core_records.specs.Tree.{blocks_in, op_regions, region_ends, region_parent as parent_in, tree_of}
use Rattle.ir_core_records.specs.Found.{record-there}
use Rattle.ir_core_context.specs.Calls.{IsRegion}
use Rattle.ir_core_context.specs.Sound.{IsSound}
use Rattle.ir_core_context.specs.State.{ContextState, forest_of}
use Rattle.ir_core_context.specs.Ends.{head-is, tail-is}

module _ {D A K B S X L : Type 0} (s : ContextState D A K B S X L) (sound : IsSound s) where
  -- the regions of an operation, as the links and the forest have them
  regions-meant : (o : ArenaIndex) → regions_of (forest_of s) o ≡ list_of (λ gs. gs) ((tree_of s.records).regions_of o)
  regions-meant o = by (get s.records.ops o)
    where
      by : (m : Option (Operation D A K B S X L)) → list_of (λ (r : OpRecord context_ids (closed A K B S X L)). r.regions) (option_map op_record m) ≡ list_of (λ gs. gs) (option_map op_regions m)
      by None = refl
      by (Some op) = refl

  -- a region knows its own place and its ends, and stands in the list of the operation that it names, which is live
  pub region-parent : (g : ArenaIndex) (r : Region) → get s.records.regions g ≡ Some r → IsRegion (forest_of s) g r
  region-parent g r at =
      let live : IsSome ((forest_of s).regions g) = ap (λ (m : Option Region). is_some (option_map (λ _. blocks_in (tree_of s.records) g) m)) at in
      let p = sound.formed.nested.regions_linked g live in
      let known = sound.nested.parents p.0 g (subst (In g) (regions-meant p.0) p.1) in
      let e : p.0 ≡ r.parent = same_Some _ _ (sym known ∙ ap (option_map parent_in) at) in
      let here : In g (regions_of (forest_of s) r.parent) = subst (λ o. In g (regions_of (forest_of s) o)) e p.1 in
      let ends = sound.nested.block_lists.ends g (region_ends r) (ap (option_map region_ends) at) in
      let blocks : blocks_of (forest_of s) g ≡ blocks_in (tree_of s.records) g = ap (λ (m : Option Region). list_of (λ bs. bs) (option_map (λ _. blocks_in (tree_of s.records) g) m)) at in
      record {
        live = live;
        own = sound.own.regions g r at;
        parent = here;
        parent_live = record-there (λ (x : OpRecord context_ids (closed A K B S X L)). x.regions) g ((forest_of s).ops r.parent) here;
        first = head-is (region_ends r) (blocks_in (tree_of s.records) g) ends ∙ sym (ap (λ (xs : List ArenaIndex). first_of xs) blocks);
        last = tail-is (region_ends r) (blocks_in (tree_of s.records) g) ends ∙ sym (ap (λ (xs : List ArenaIndex). last_of xs) blocks);
      }

  -- a look-up that may answer a fault
  pub regions-found : {T E : Type 0} (g : ArenaIndex) (now : T → Region) (answer : Result T E) → IfOk answer (λ x. get s.records.regions g ≡ Some (now x)) → IfOk answer (λ x. IsRegion (forest_of s) g (now x))
  regions-found g now (Ok x) at = region-parent g (now x) at
  regions-found g now (Err e) at = tt

-- as the list of the operation has it
pub IsRegion-in : {W : Dialect} (f : Forest context_ids W) (g : ArenaIndex) (r : Region) → IsRegion f g r → IsIn f (a_region g) (an_op r.parent)
IsRegion-in f g r is = In-map a_region g (regions_of f r.parent) is.parent
