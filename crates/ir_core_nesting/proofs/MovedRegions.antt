-- A region that goes from one operation to another.
use mathlib.Core.Path.{fun_ext}
use Rattle.std.proofs.Common.{◌≡◌, ℕ, zero, suc, cond, true, List, [], ◌∷◌, ◌++◌, map, slice_get, Option, Some, None, IsSome, Result, Ok, Err, OnErr, is_some, refl, sym, ap, ◌∙◌, subst, inl, inr}
use Rattle.std.specs.List.{remove}
use Rattle.std.specs.Option.{option_map}
use Rattle.std.proofs.lemmas.Option.{same_Some}
use Rattle.ir_model.specs.declared.ids.ArenaIndex.{ArenaIndex}
use Rattle.ir_model.specs.ContextIds.{context_ids, same_id}
use Rattle.ir_model.specs.Ids.{Distinct}
use Rattle.ir_model.specs.Forest.{Entity, an_op, a_region, OpRecord}
use Rattle.ir_model.specs.Nesting.{In, list_of, Nested, regions_of}
use Rattle.ir_model.specs.Changes.{on_regions, without, move_region}
use Rattle.ir_model.proofs.Back.{slice_get-in}
use Rattle.ir_model.proofs.Filters.{In-filter}
use Rattle.ir_model.proofs.IdCases.{id_cases, id_same, id_differs}
use Rattle.ir_model.proofs.Keeps.{Distinct-unmap}
use Rattle.ir_model.proofs.Nests.{In-append, not_in-Absent}
use Rattle.ir_model.proofs.Relinks.{without_absent}
use Rattle.ir_model.proofs.TwoRuns.{id_tells}
use Rattle.ir_model.proofs.Arenas.{get-fill_live, get-fill_live_other}
use Rattle.ir_base_arenas.specs.Arena.{Arena, get, IsLiveIn, fill}
use Rattle.ir_base_arenas.specs.Lists.{AreLists, SameIds}
use Rattle.ir_core_records.specs.declared.record.Operation.{Operation}
use Rattle.ir_core_records.specs.declared.record.Region.{Region}
use Rattle.ir_core_records.specs.declared.records.Records.{Records}
use Rattle.ir_core_records.specs.Lists.{in_record, uses_with, edited}
use Rattle.ir_core_records.specs.Meaning.{closed, forest_in, op_record, block_record, region_index}
use Rattle.ir_core_records.specs.Nested.{AreNested}
use Rattle.ir_core_records.specs.Tree.{tree_of, ops_in, blocks_in, op_links, op_regions, region_ends, region_parent}
use Rattle.ir_core_nesting.specs.Edits.{EditsTo}
use Rattle.ir_core_nesting.proofs.Readings.{live-of, read-written, edited-at}
use Rattle.ir_core_nesting.proofs.Kept.{OpsFound, BlocksFound, ops-are, blocks-are, nested-still}
use Rattle.ir_core_nesting.proofs.Chained.{chains-same}
use Rattle.ir_core_nesting.proofs.Growths.{SameIds-none, SameIds-written}
use Rattle.ir_core_nesting.proofs.Relisted.{own-read}
use Rattle.ir_core_nesting.proofs.RegionLists.{owned-by}

pub remove-once : (xs : List ArenaIndex) (k : ℕ) (x : ArenaIndex) → Distinct xs → slice_get xs k ≡ Some x → remove xs k ≡ without same_id x xs
remove-once [] k x d e = absurd (slice_get-in [] k x e)
remove-once (y ∷ ys) zero x d e =
    let h : y ≡ x = same_Some _ _ e in
    rw (ap (λ z. same_id z x) h ∙ id_same x) (sym (without_absent same_id id_tells x ys (λ i. not_in-Absent y ys d.0 (subst (λ z. In z ys) (sym h) i))))
remove-once (y ∷ ys) (suc k) x d e =
    rw (id_differs y x (λ h. not_in-Absent y ys d.0 (subst (λ z. In z ys) (sym h) (slice_get-in ys k x e)))) (ap (λ zs. y ∷ zs) (remove-once ys k x d.1 e))

pub not-found : (xs : List ArenaIndex) (x : ArenaIndex) → ((k : ℕ) → slice_get xs k ≡ Some x → ⊥) → without same_id x xs ≡ xs
not-found xs x none = without_absent same_id id_tells x xs (λ h. by xs none h)
  where
    by : (xs : List ArenaIndex) → ((k : ℕ) → slice_get xs k ≡ Some x → ⊥) → In x xs → ⊥
    by [] none h = h
    by (y ∷ ys) none (inl e) = none zero (ap Some (sym e))
    by (y ∷ ys) none (inr h) = by ys (λ k. none (suc k)) h

pub err_holds : {T E P : Type 0} (r : Result T E) → P → OnErr r P
err_holds (Ok x) p = tt
err_holds (Err e) p = p

-- one edit after another
pub SameIds-trans : {T : Type 0} (a b c : Arena T) → SameIds a b → SameIds b c → SameIds a c
SameIds-trans a b c f g = record {
  live = λ i. (λ h. (f.live i).0 ((g.live i).0 h), λ h. (g.live i).1 ((f.live i).1 h));
  passed = λ i. g.passed i ∙ f.passed i;
  room = g.room ∙ f.room;
  len = g.len ∙ f.len;
  limit = g.limit ∙ f.limit;
  last_version = g.last_version ∙ f.last_version;
  removals = g.removals ∙ f.removals;
}

module _ {D A K B S X L : Type 0} (t : Records D A K B S X L) (nested : AreNested (tree_of t)) where
  listed : (o g : ArenaIndex) → In g (regions_of (forest_in t) o) → In g (list_of (λ gs. gs) ((tree_of t).regions_of o))
  listed o g h = by (get t.ops o) h
    where
      by : (m : Option (Operation D A K B S X L)) → In g (list_of (λ (r : OpRecord context_ids (closed A K B S X L)). r.regions) (option_map op_record m)) → In g (list_of (λ gs. gs) (option_map op_regions m))
      by None k = absurd k
      by (Some y) k = k

  -- each list of regions has no region that names another operation
  pub only-owner : (r o : ArenaIndex) (region : Region) → get t.regions r ≡ Some region → In r (regions_of (forest_in t) o) → region.parent ≡ o
  only-owner r o region found h = same_Some _ _ (sym (ap (option_map region_parent) found) ∙ nested.parents o r (listed o r h))

  -- the operation that a live region names has it in its list
  pub owner-has : Nested (forest_in t) → (r : ArenaIndex) (region : Region) → get t.regions r ≡ Some region → In r (regions_of (forest_in t) region.parent)
  owner-has formed r region found =
      let live : IsSome (option_map (λ (_ : Region). blocks_in (tree_of t) r) (get t.regions r)) = ap (λ (m : Option Region). is_some (option_map (λ (_ : Region). blocks_in (tree_of t) r) m)) found in
      let at = formed.regions_linked r live in
      subst (λ o. In r (regions_of (forest_in t) o)) (sym (only-owner r at.0 region found at.1)) at.1

  pub owner-held : (r o : ArenaIndex) → In r (regions_of (forest_in t) o) → IsLiveIn t.ops o
  owner-held r o h = by (get t.ops o) h
    where
      by : (m : Option (Operation D A K B S X L)) → In r (list_of (λ (r : OpRecord context_ids (closed A K B S X L)). r.regions) (option_map op_record m)) → IsSome m
      by None k = absurd k
      by (Some y) k = refl

  -- no operation has a region twice
  pub regions-once : Nested (forest_in t) → (o : ArenaIndex) → Distinct (in_record op_regions [] (get t.ops o))
  regions-once formed o = by (get t.ops o) (formed.once (an_op o))
    where
      by : (m : Option (Operation D A K B S X L)) → Distinct {A = Entity context_ids} (map a_region (list_of (λ (r : OpRecord context_ids (closed A K B S X L)). r.regions) (option_map op_record m))) → Distinct (in_record op_regions [] m)
      by None d = tt
      by (Some y) d = Distinct-unmap a_region y.regions d

module _ {D A K B S X L : Type 0} (old : Records D A K B S X L) (op from r : ArenaIndex) (place : ℕ) (x y : Operation D A K B S X L) (region : Region)
    (found : get old.ops op ≡ Some x) (found_from : get old.ops from ≡ Some y) (found_region : get old.regions r ≡ Some region) (knows : region.parent ≡ from) (two : from ≡ op → ⊥)
    (nested : AreNested (tree_of old)) (found_ops : OpsFound D A K B S X L) (found_blocks : BlocksFound D A K B S X L) where
  abbrev taken : Operation D A K B S X L
  taken = record x { regions = x.regions ++ r ∷ [] }

  abbrev given : Operation D A K B S X L
  given = record y { regions = without same_id r y.regions }

  abbrev pushed : Arena (Operation D A K B S X L)
  pushed = fill old.ops op taken

  abbrev pub moved : Records D A K B S X L
  moved = record { ops = fill pushed from given; blocks = old.blocks; regions = fill old.regions r (record region { parent = op; place = place }) }

  live : IsLiveIn old.ops op
  live = live-of old.ops op x found

  still_from : get pushed from ≡ Some y
  still_from = get-fill_live_other old.ops op from taken live two ∙ found_from

  live_from : IsLiveIn pushed from
  live_from = live-of pushed from y still_from

  -- whatever does not see the regions
  op_rest : {Y : Type 0} (read : Option (Operation D A K B S X L) → Y) → ((z : Operation D A K B S X L) (rs : List ArenaIndex) → read (Some (record z { regions = rs })) ≡ read (Some z)) → (i : ArenaIndex) → read (get moved.ops i) ≡ read (get old.ops i)
  op_rest read blind i = read-written pushed from read y given still_from (blind y (without same_id r y.regions)) i ∙ read-written old.ops op read x taken found (blind x (x.regions ++ r ∷ [])) i

  -- whatever sees neither the parent nor the place
  region_rest : {Y : Type 0} (read : Option Region → Y) → ((z : Region) (p : ArenaIndex) (n : ℕ) → read (Some (record z { parent = p; place = n })) ≡ read (Some z)) → (g : ArenaIndex) → read (get moved.regions g) ≡ read (get old.regions g)
  region_rest read blind g = read-written old.regions r read region (record region { parent = op; place = place }) found_region (blind region op place) g

  op_lists : AreLists (tree_of moved).ops (tree_of moved).block_ends (ops_in (tree_of old))
  op_lists = subst (λ h. AreLists h (tree_of old).block_ends (ops_in (tree_of old))) (sym (fun_ext (op_rest (option_map op_links) (λ z rs. refl)))) nested.op_lists

  block_lists : AreLists (tree_of moved).blocks (tree_of moved).region_ends (blocks_in (tree_of old))
  block_lists = subst (λ h. AreLists (tree_of old).blocks h (blocks_in (tree_of old))) (sym (fun_ext (region_rest (option_map region_ends) (λ z p n. refl)))) nested.block_lists

  ops-stay : ops_in (tree_of moved) ≡ ops_in (tree_of old)
  ops-stay = ops-are old moved found_ops op_lists

  blocks-stay : blocks_in (tree_of moved) ≡ blocks_in (tree_of old)
  blocks-stay = blocks-are old moved found_blocks block_lists

  at_from : get moved.ops from ≡ Some given
  at_from = get-fill_live pushed from given live_from

  at_op : get moved.ops op ≡ Some taken
  at_op = get-fill_live_other pushed from op given live_from (λ e. two (sym e)) ∙ get-fill_live old.ops op taken live

  at_other : (p : ArenaIndex) → (p ≡ from → ⊥) → (p ≡ op → ⊥) → get moved.ops p ≡ get old.ops p
  at_other p not_from not_op = get-fill_live_other pushed from p given live_from not_from ∙ get-fill_live_other old.ops op p taken live not_op

  -- the region stands in no other list
  elsewhere : (p : ArenaIndex) (z : Operation D A K B S X L) → get old.ops p ≡ Some z → (p ≡ from → ⊥) → In r z.regions → ⊥
  elsewhere p z is not_from h = not_from (same_Some _ _ (sym (owned-by old nested p r z is h) ∙ ap (option_map region_parent) found_region ∙ ap Some knows))

  parent_still : (g p : ArenaIndex) → (g ≡ r → ⊥) → option_map region_parent (get old.regions g) ≡ Some p → option_map region_parent (get moved.regions g) ≡ Some p
  parent_still g p ne h = ap (option_map region_parent) (get-fill_live_other old.regions r g (record region { parent = op; place = place }) (live-of old.regions r region found_region) ne) ∙ h

  by_from : (g : ArenaIndex) → In g (without same_id r y.regions) → (tree_of moved).parent_ops g ≡ Some from
  by_from g h =
      let k = In-filter _ g y.regions h in
      let other : g ≡ r → ⊥ = λ e. (let same : same_id g r ≡ true = ap (λ z. same_id z r) e ∙ id_same r in let u = k.1 in cc) in
      parent_still g from other (owned-by old nested from g y found_from k.0)

  by_op : (g : ArenaIndex) → In g (x.regions ++ r ∷ []) → (tree_of moved).parent_ops g ≡ Some op
  by_op g h = elim (In-append g x.regions (r ∷ []) h) [
    | inl k ↦ parent_still g op (λ e. elsewhere op x found (λ e. two (sym e)) (subst (λ z. In z x.regions) e k)) (owned-by old nested op g x found k)
    | inr k ↦ elim k [
      | inl e ↦ ap (λ z. option_map region_parent (get moved.regions z)) e ∙ ap (option_map region_parent) (get-fill_live old.regions r (record region { parent = op; place = place }) (live-of old.regions r region found_region))
      | inr n ↦ absurd n
    ]
  ]

  by_other : (p g : ArenaIndex) → (p ≡ from → ⊥) → (m : Option (Operation D A K B S X L)) → get old.ops p ≡ m → In g (list_of (λ gs. gs) (option_map op_regions m)) → (tree_of moved).parent_ops g ≡ Some p
  by_other p g not_from None e h = absurd h
  by_other p g not_from (Some z) e h = parent_still g p (λ q. elsewhere p z e not_from (subst (λ v. In v z.regions) q h)) (owned-by old nested p g z e h)

  parents : (p g : ArenaIndex) → In g (list_of (λ gs. gs) ((tree_of moved).regions_of p)) → (tree_of moved).parent_ops g ≡ Some p
  parents p g h = elim (id_cases p from) [
    | inl e ↦ by_from g (subst (λ (m : Option (Operation D A K B S X L)). In g (list_of (λ gs. gs) (option_map op_regions m))) (ap (get moved.ops) e ∙ at_from) h) ∙ ap Some (sym e)
    | inr not_from ↦ elim (id_cases p op) [
      | inl e ↦ by_op g (subst (λ (m : Option (Operation D A K B S X L)). In g (list_of (λ gs. gs) (option_map op_regions m))) (ap (get moved.ops) e ∙ at_op) h) ∙ ap Some (sym e)
      | inr not_op ↦ by_other p g not_from (get old.ops p) refl (subst (λ (m : Option (Operation D A K B S X L)). In g (list_of (λ gs. gs) (option_map op_regions m))) (at_other p not_from not_op) h)
    ]
  ]

  left_alone : (p : ArenaIndex) → (p ≡ from → ⊥) → (m : Option (Operation D A K B S X L)) → get old.ops p ≡ m → option_map op_record m ≡ option_map (on_regions (without same_id r)) (option_map op_record m)
  left_alone p not_from None e = refl
  left_alone p not_from (Some z) e = sym (ap (λ rs. Some (record (op_record z) { regions = rs })) (without_absent same_id id_tells r z.regions (elsewhere p z e not_from)))

  abbrev dropped : ArenaIndex → Option (OpRecord context_ids (closed A K B S X L))
  dropped p = option_map (on_regions (without same_id r)) (option_map op_record (get old.ops p))

  ops_moved : (p : ArenaIndex) → option_map op_record (get moved.ops p) ≡ cond (same_id p op) (option_map (on_regions (λ rs. rs ++ r ∷ [])) (dropped p)) (dropped p)
  ops_moved p = elim (id_cases p from) [
    | inl e ↦ ap (λ z. option_map op_record (get moved.ops z)) e ∙ ap (option_map op_record) at_from
        ∙ sym (ap (λ b. cond b (option_map (on_regions (λ rs. rs ++ r ∷ [])) (dropped p)) (dropped p)) (id_differs p op (λ k. two (sym e ∙ k))) ∙ ap dropped e ∙ ap (λ (m : Option (Operation D A K B S X L)). option_map (on_regions (without same_id r)) (option_map op_record m)) found_from)
    | inr not_from ↦ elim (id_cases p op) [
      | inl e ↦ ap (λ z. option_map op_record (get moved.ops z)) e ∙ ap (option_map op_record) at_op
          ∙ sym (
          ap (λ b. cond b (option_map (on_regions (λ rs. rs ++ r ∷ [])) (dropped p)) (dropped p)) (ap (λ z. same_id z op) e ∙ id_same op)
          ∙ ap (λ z. option_map (on_regions (λ rs. rs ++ r ∷ [])) (dropped z)) e
          ∙ ap (λ (m : Option (Operation D A K B S X L)). option_map (on_regions (λ rs. rs ++ r ∷ [])) (option_map (on_regions (without same_id r)) (option_map op_record m))) found
          ∙ ap (λ (rs : List ArenaIndex). Some (record (op_record x) { regions = rs ++ r ∷ [] })) (without_absent same_id id_tells r x.regions (elsewhere op x found (λ k. two (sym k))))
          )
      | inr not_op ↦ ap (option_map op_record) (at_other p not_from not_op) ∙ left_alone p not_from (get old.ops p) refl
          ∙ sym (ap (λ b. cond b (option_map (on_regions (λ rs. rs ++ r ∷ [])) (dropped p)) (dropped p)) (id_differs p op not_op))
    ]
  ]

  region-moved : EditsTo old moved (move_region (forest_in old) r op)
  region-moved = record {
    forest = λ i. record {
      ops = fun_ext ops_moved i;
      blocks = λ b. option_map (block_record (ops-stay i b)) (get old.blocks b);
      regions = fun_ext (λ g. ap (λ (f : ArenaIndex → List ArenaIndex). option_map (λ (_ : Region). f g) (get moved.regions g)) blocks-stay ∙ region_rest (option_map (λ _. blocks_in (tree_of old) g)) (λ z p n. refl) g) i;
    };
    nested = nested-still old moved ops-stay blocks-stay op_lists block_lists parents;
    keeps = record {
      chains = chains-same old moved
          (op_rest (in_record (λ z. z.operands) []) (λ z rs. refl))
          (op_rest (in_record (λ z. z.successors) []) (λ z rs. refl))
          (λ o n. op_rest (λ m. uses_with (in_record (λ z. z.results) [] m) n) (λ z rs. refl) o)
          (λ b n. refl)
          (λ b. refl);
      op_ids = SameIds-trans old.ops pushed moved.ops (SameIds-written old.ops op taken live) (SameIds-written pushed from given live_from);
      block_ids = SameIds-none old.blocks;
      region_ids = SameIds-written old.regions r (record region { parent = op; place = place }) (live-of old.regions r region found_region);
      own = λ know. record {
        ops = own-read (λ z. z.index) old.ops moved.ops (op_rest (option_map (λ z. z.index)) (λ z rs. refl)) know.ops;
        blocks = know.blocks;
        regions = own-read region_index old.regions moved.regions (region_rest (option_map region_index) (λ z p n. refl)) know.regions;
      };
    };
  }

  -- the list of the other operation, as it is written
  pub drops : (ops all : Arena (Operation D A K B S X L)) → ops ≡ pushed → all ≡ edited (λ z. record z { regions = without same_id r z.regions }) ops from → all ≡ moved.ops
  drops ops all e f = f ∙ ap (λ a. edited (λ z. record z { regions = without same_id r z.regions }) a from) e ∙ edited-at (λ z. record z { regions = without same_id r z.regions }) pushed from y still_from

  pub kept-from : get pushed from ≡ get old.ops from
  kept-from = get-fill_live_other old.ops op from taken live two

  -- the records as they are written
  pub records-moved : (ops : Arena (Operation D A K B S X L)) (regions : Arena Region) → ops ≡ moved.ops → regions ≡ moved.regions
      → EditsTo old (record { ops = ops; blocks = old.blocks; regions = regions }) (move_region (forest_in old) r op)
  records-moved ops regions e f =
      subst (λ (t : Records D A K B S X L). EditsTo old t (move_region (forest_in old) r op)) (sym (λ i. record { ops = e i; blocks = old.blocks; regions = f i })) region-moved

-- a list that could not grow
module _ {D A K B S X L : Type 0} (old : Records D A K B S X L) (op : ArenaIndex) (x : Operation D A K B S X L) (found : get old.ops op ≡ Some x) (nested : AreNested (tree_of old)) (found_ops : OpsFound D A K B S X L) where
  abbrev after : Records D A K B S X L
  after = record old { ops = fill old.ops op x }

  rest : {Y : Type 0} (read : Option (Operation D A K B S X L) → Y) → (i : ArenaIndex) → read (get after.ops i) ≡ read (get old.ops i)
  rest read i = read-written old.ops op read x x found refl i

  lists : AreLists (tree_of after).ops (tree_of after).block_ends (ops_in (tree_of old))
  lists = subst (λ h. AreLists h (tree_of old).block_ends (ops_in (tree_of old))) (sym (fun_ext (rest (option_map op_links)))) nested.op_lists

  kept : EditsTo old after (forest_in old)
  kept = record {
    forest = λ i. record {
      ops = fun_ext (rest (option_map op_record)) i;
      blocks = λ b. option_map (block_record (ops-are old after found_ops lists i b)) (get old.blocks b);
      regions = (forest_in old).regions;
    };
    nested = nested-still old after (ops-are old after found_ops lists) refl lists nested.block_lists
        (λ o g h. nested.parents o g (subst (λ (xs : List ArenaIndex). In g xs) (rest (λ m. list_of (λ gs. gs) (option_map op_regions m)) o) h));
    keeps = record {
      chains = chains-same old after
          (rest (in_record (λ z. z.operands) []))
          (rest (in_record (λ z. z.successors) []))
          (λ o n. rest (λ m. uses_with (in_record (λ z. z.results) [] m) n) o)
          (λ b n. refl)
          (λ b. refl);
      op_ids = SameIds-written old.ops op x (live-of old.ops op x found);
      block_ids = SameIds-none old.blocks;
      region_ids = SameIds-none old.regions;
      own = λ know. record {
        ops = own-read (λ z. z.index) old.ops after.ops (rest (option_map (λ z. z.index))) know.ops;
        blocks = know.blocks;
        regions = know.regions;
      };
    };
  }

  pub records-kept : (ops : Arena (Operation D A K B S X L)) → ops ≡ fill old.ops op (record x { regions = x.regions }) → EditsTo old (record old { ops = ops }) (forest_in old)
  records-kept ops is = subst (λ (a : Arena (Operation D A K B S X L)). EditsTo old (record old { ops = a }) (forest_in old)) (sym is) kept
