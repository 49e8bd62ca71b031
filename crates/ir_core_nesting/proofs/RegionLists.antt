-- An operation with one region more, or with its last one taken back.
use mathlib.Core.Path.{fun_ext}
use Rattle.std.proofs.Common.{◌≡◌, List, [], ◌∷◌, ◌++◌, length, Option, Some, None, is_some, refl, sym, ap, ◌∙◌, subst, inl, inr, cond, arith}
use Rattle.std.specs.Option.{option_map}
use Rattle.std.proofs.lemmas.Option.{same_Some}
use Rattle.std.proofs.lemmas.List.{length_push}
use Rattle.ir_model.specs.declared.ids.ArenaIndex.{ArenaIndex}
use Rattle.ir_model.specs.ContextIds.{context_ids, same_id}
use Rattle.ir_model.specs.Forest.{OpRecord}
use Rattle.ir_model.specs.Changes.{put, rewrite, add_region, on_op, on_regions}
use Rattle.ir_model.specs.Ids.{Distinct}
use Rattle.ir_model.specs.Nesting.{In, list_of, regions_of}
use Rattle.ir_model.proofs.IdCases.{id_cases, id_same, id_differs}
use Rattle.ir_model.proofs.Nests.{In-append, In-left, In-right, not_in-Absent}
use Rattle.ir_model.proofs.Arenas.{get-fill_new, get-fill_new_other, get-new, get-cut, get-cut_other, get-fill_live, get-fill_live_other}
use Rattle.ir_base_arenas.specs.Arena.{Arena, get, IsLiveIn, IsNew, fill, cut}
use Rattle.ir_base_arenas.specs.Lists.{AreLists, seen}
use Rattle.ir_core_records.specs.declared.record.Operation.{Operation}
use Rattle.ir_core_records.specs.declared.record.Region.{Region}
use Rattle.ir_core_records.specs.declared.records.Records.{Records}
use Rattle.ir_core_records.specs.Lists.{in_record, uses_with}
use Rattle.ir_core_records.specs.Chains.{chains_of}
use Rattle.ir_core_records.specs.Table.{KnowOwn}
use Rattle.ir_core_records.specs.Tree.{tree_of, ops_in, blocks_in, op_links, block_links, op_regions, region_ends, region_parent}
use Rattle.ir_core_records.specs.Nested.{AreNested}
use Rattle.ir_core_records.specs.Meaning.{closed, forest_in, op_record, block_record, region_index}
use Rattle.ir_core_nesting.specs.Leaves.{without_region}
use Rattle.ir_core_nesting.proofs.Readings.{KnowPlaces, live-of, places-cut, places-new, read-written, seen-written, seen-cut}
use Rattle.ir_core_nesting.proofs.Kept.{OpsFound, BlocksFound, Becomes, ops-are, blocks-are, nested-still}
use Rattle.ir_core_nesting.proofs.Chained.{chains-same}

-- two lists with a last item each
pub last-same : {Y : Type 0} (xs ys : List Y) (x y : Y) → xs ++ x ∷ [] ≡ ys ++ y ∷ [] → (xs ≡ ys) × (x ≡ y)
last-same [] [] x y e = (refl, cc)
last-same [] (b ∷ ys) x y e = absurd (omega (arith, ap length e, length_push ys y))
last-same (a ∷ xs) [] x y e = absurd (omega (arith, ap length e, length_push xs x))
last-same (a ∷ xs) (b ∷ ys) x y e =
    let head : a ≡ b = cc in
    let rest = last-same xs ys x y (let t : xs ++ x ∷ [] ≡ ys ++ y ∷ [] = cc in t) in
    ((λ i. head i ∷ rest.0 i), rest.1)

-- the last of a list in which nothing stands twice is not among the others
pub last-once : {Y : Type 0} (xs : List Y) (x : Y) → Distinct (xs ++ x ∷ []) → In x xs → ⊥
last-once [] x d h = absurd h
last-once (y ∷ ys) x d (inl e) = not_in-Absent y (ys ++ x ∷ []) d.0 (subst (λ z. In z (ys ++ x ∷ [])) e (In-right x ys (x ∷ []) (inl refl)))
last-once (y ∷ ys) x d (inr h) = last-once ys x d.1 h

module _ {D A K B S X L : Type 0} (old : Records D A K B S X L) (op : ArenaIndex) (x : Operation D A K B S X L) (found : get old.ops op ≡ Some x) (rs : List ArenaIndex) (regions : Arena Region) where
  abbrev pub with_regions : Records D A K B S X L
  with_regions = record { ops = fill old.ops op (record x { regions = rs }); blocks = old.blocks; regions = regions }

  pub relisted-chains : chains_of with_regions ≡ chains_of old
  relisted-chains = chains-same old with_regions
      (read-written old.ops op (in_record (λ y. y.operands) []) x (record x { regions = rs }) found refl)
      (read-written old.ops op (in_record (λ y. y.successors) []) x (record x { regions = rs }) found refl)
      (λ o n. read-written old.ops op (λ m. uses_with (in_record (λ y. y.results) [] m) n) x (record x { regions = rs }) found refl o)
      (λ b n. refl)
      (λ b. refl)

  pub relisted-own : (KnowPlaces region_index old.regions → KnowPlaces region_index regions) → KnowOwn old → KnowOwn with_regions
  relisted-own places know = record {
    ops = λ i p is. elim (id_cases i op) [
      | inl e ↦ ap (λ (o : Operation D A K B S X L). o.index) (sym (same_Some _ _ (sym (ap (get with_regions.ops) e ∙ get-fill_live old.ops op (record x { regions = rs }) (live-of old.ops op x found)) ∙ is))) ∙ know.ops op x found ∙ sym e
      | inr ne ↦ know.ops i p (sym (get-fill_live_other old.ops op i (record x { regions = rs }) (live-of old.ops op x found) ne) ∙ is)
    ];
    blocks = know.blocks;
    regions = places know.regions;
  }

  relisted-ops : AreNested (tree_of old) → AreLists (tree_of with_regions).ops (tree_of old).block_ends (ops_in (tree_of old))
  relisted-ops nested = subst (λ h. AreLists h (tree_of old).block_ends (ops_in (tree_of old)))
      (sym (fun_ext (read-written old.ops op (option_map op_links) x (record x { regions = rs }) found refl))) nested.op_lists

  module _ (found_ops : OpsFound D A K B S X L) (found_blocks : BlocksFound D A K B S X L) (nested : AreNested (tree_of old))
      (lists : AreLists (tree_of old).blocks (tree_of with_regions).region_ends (blocks_in (tree_of old))) where
    ops-stay : ops_in (tree_of with_regions) ≡ ops_in (tree_of old)
    ops-stay = ops-are old with_regions found_ops (relisted-ops nested)

    blocks-stay : blocks_in (tree_of with_regions) ≡ blocks_in (tree_of old)
    blocks-stay = blocks-are old with_regions found_blocks lists

    -- what regions know is told for the operation, and for all others
    pub relisted-nested : ((g : ArenaIndex) → In g rs → (tree_of with_regions).parent_ops g ≡ Some op)
        → ((o g : ArenaIndex) → (o ≡ op → ⊥) → In g (list_of (λ gs. gs) ((tree_of old).regions_of o)) → (tree_of with_regions).parent_ops g ≡ Some o)
        → AreNested (tree_of with_regions)
    relisted-nested here others = nested-still old with_regions ops-stay blocks-stay (relisted-ops nested) lists parents
      where
        parents : (o g : ArenaIndex) → In g (list_of (λ gs. gs) ((tree_of with_regions).regions_of o)) → (tree_of with_regions).parent_ops g ≡ Some o
        parents o g h = elim (id_cases o op) [
          | inl e ↦ here g (subst (λ (m : Option (Operation D A K B S X L)). In g (list_of (λ gs. gs) (option_map op_regions m))) (ap (get with_regions.ops) e ∙ get-fill_live old.ops op (record x { regions = rs }) (live-of old.ops op x found)) h) ∙ ap Some (sym e)
          | inr ne ↦ others o g ne (subst (λ (m : Option (Operation D A K B S X L)). In g (list_of (λ gs. gs) (option_map op_regions m))) (get-fill_live_other old.ops op o (record x { regions = rs }) (live-of old.ops op x found) ne) h)
        ]

    -- the record of the operation is rewritten, and the regions are told one by one
    pub relisted-forest : (change : OpRecord context_ids (closed A K B S X L) → OpRecord context_ids (closed A K B S X L)) → op_record (record x { regions = rs }) ≡ change (op_record x)
        → (lists_now : ArenaIndex → Option (List ArenaIndex)) → ((g : ArenaIndex) → option_map (λ (_ : Region). blocks_in (tree_of old) g) (get regions g) ≡ lists_now g)
        → forest_in with_regions ≡ record (forest_in old) { ops = rewrite same_id op change (forest_in old).ops; regions = lists_now }
    relisted-forest change changed lists_now is = λ i. record {
      ops = fun_ext (seen-written old.ops op_record op change x (record x { regions = rs }) found changed) i;
      blocks = λ b. option_map (block_record (ops-stay i b)) (get old.blocks b);
      regions = fun_ext (λ g. ap (λ (f : ArenaIndex → List ArenaIndex). option_map (λ (_ : Region). f g) (get regions g)) blocks-stay ∙ is g) i;
    }

-- the regions of the operation, as its record has them
pub owned-by : {D A K B S X L : Type 0} (t : Records D A K B S X L) → AreNested (tree_of t) → (op g : ArenaIndex) (x : Operation D A K B S X L) → get t.ops op ≡ Some x → In g x.regions → option_map region_parent (get t.regions g) ≡ Some op
owned-by {D} {A} {K} {B} {S} {X} {L} t nested op g x found h =
    nested.parents op g (subst (λ (m : Option (Operation D A K B S X L)). In g (list_of (λ gs. gs) (option_map op_regions m))) (sym found) h)

module _ {D A K B S X L : Type 0} (old : Records D A K B S X L) (op : ArenaIndex) (x : Operation D A K B S X L) (found : get old.ops op ≡ Some x)
    (found_ops : OpsFound D A K B S X L) (found_blocks : BlocksFound D A K B S X L) (nested : AreNested (tree_of old)) where
  -- a new region, the last of the operation
  module _ (r : ArenaIndex) (region : Region) (is_new : IsNew old.regions r) where
    abbrev pub added : Records D A K B S X L
    added = with_regions old op x found (x.regions ++ r ∷ []) (fill old.regions r region)

    still : (o g : ArenaIndex) → option_map region_parent (get old.regions g) ≡ Some o → option_map region_parent (get (fill old.regions r region) g) ≡ Some o
    still o g h = elim (id_cases g r) [
      | inl e ↦ absurd (let none : option_map region_parent (get old.regions g) ≡ None = ap (option_map region_parent) (ap (get old.regions) e ∙ get-new old.regions r is_new) in cc)
      | inr ne ↦ ap (option_map region_parent) (get-fill_new_other old.regions r g region is_new ne) ∙ h
    ]

    module _ (lists : AreLists (tree_of old).blocks (tree_of added).region_ends (blocks_in (tree_of old))) where
      pub added-nested : region.parent ≡ op → AreNested (tree_of added)
      added-nested knows = relisted-nested old op x found (x.regions ++ r ∷ []) (fill old.regions r region) found_ops found_blocks nested lists
          (λ g h. elim (In-append g x.regions (r ∷ []) h) [
            | inl k ↦ still op g (owned-by old nested op g x found k)
            | inr k ↦ elim k [
              | inl e ↦ ap (λ z. option_map region_parent (get (fill old.regions r region) z)) e ∙ ap (option_map region_parent) (get-fill_new old.regions r region is_new) ∙ ap Some knows
              | inr n ↦ absurd n
            ]
          ])
          (λ o g ne h. still o g (nested.parents o g h))

      none : blocks_in (tree_of old) r ≡ []
      none = nested.block_lists.absent r (ap (option_map region_ends) (get-new old.regions r is_new))

      pub added-forest : forest_in added ≡ add_region (forest_in old) op r
      added-forest = relisted-forest old op x found (x.regions ++ r ∷ []) (fill old.regions r region) found_ops found_blocks nested lists
          (λ rec. record rec { regions = rec.regions ++ r ∷ [] }) refl
          (put same_id r [] (forest_in old).regions)
          (λ g. elim (id_cases g r) [
            | inl e ↦ ap (λ z. option_map (λ (_ : Region). blocks_in (tree_of old) z) (get (fill old.regions r region) z)) e
                ∙ ap (option_map (λ _. blocks_in (tree_of old) r)) (get-fill_new old.regions r region is_new)
                ∙ ap Some none
                ∙ sym (ap (λ q. cond q (Some []) ((forest_in old).regions g)) (ap (λ z. same_id z r) e ∙ id_same r))
            | inr ne ↦ ap (option_map (λ (_ : Region). blocks_in (tree_of old) g)) (get-fill_new_other old.regions r g region is_new ne)
                ∙ sym (ap (λ q. cond q (Some []) ((forest_in old).regions g)) (id_differs g r ne))
          ])

  -- the regions of the operation and all regions are as they were
  module _ (regions : Arena Region) (same : (g : ArenaIndex) → get regions g ≡ get old.regions g) where
    abbrev pub undone : Records D A K B S X L
    undone = with_regions old op x found x.regions regions

    undone-lists : AreLists (tree_of old).blocks (tree_of undone).region_ends (blocks_in (tree_of old))
    undone-lists = subst (λ h. AreLists (tree_of old).blocks h (blocks_in (tree_of old))) (sym (fun_ext (λ g. ap (option_map region_ends) (same g)))) nested.block_lists

    pub undone-nested : AreNested (tree_of undone)
    undone-nested = relisted-nested old op x found x.regions regions found_ops found_blocks nested undone-lists
        (λ g h. ap (option_map region_parent) (same g) ∙ owned-by old nested op g x found h)
        (λ o g ne h. ap (option_map region_parent) (same g) ∙ nested.parents o g h)

    pub undone-forest : forest_in undone ≡ forest_in old
    undone-forest = λ i. record {
      ops = fun_ext (read-written old.ops op (option_map op_record) x x found refl) i;
      blocks = λ b. option_map (block_record (ops-are old undone found_ops (relisted-ops old op x found x.regions regions nested) i b)) (get old.blocks b);
      regions = fun_ext (λ g. ap (λ (f : ArenaIndex → List ArenaIndex). option_map (λ (_ : Region). f g) (get regions g)) (blocks-are old undone found_blocks undone-lists) ∙ ap (option_map (λ (_ : Region). blocks_in (tree_of old) g)) (same g)) i;
    }

  -- the last region is taken back
  module _ (rest : List ArenaIndex) (r : ArenaIndex) (splits : x.regions ≡ rest ++ r ∷ []) (live : IsLiveIn old.regions r) where
    abbrev pub left : Records D A K B S X L
    left = with_regions old op x found rest (cut old.regions r)

    last_owned : option_map region_parent (get old.regions r) ≡ Some op
    last_owned = owned-by old nested op r x found (subst (λ xs. In r xs) (sym splits) (In-right r rest (r ∷ []) (inl refl)))

    module _ (lists : AreLists (tree_of old).blocks (tree_of left).region_ends (blocks_in (tree_of old))) where
      pub left-nested : Distinct x.regions → AreNested (tree_of left)
      left-nested once = relisted-nested old op x found rest (cut old.regions r) found_ops found_blocks nested lists
          (λ g h. ap (option_map region_parent) (get-cut_other old.regions r g live (λ e. last-once rest r (subst Distinct splits once) (subst (λ z. In z rest) e h)))
          ∙ owned-by old nested op g x found (subst (λ xs. In g xs) (sym splits) (In-left g rest (r ∷ []) h)))
          (λ o g ne h. ap (option_map region_parent) (get-cut_other old.regions r g live (λ e. ne (same_Some _ _ (sym (nested.parents o g h) ∙ ap (λ z. option_map region_parent (get old.regions z)) e ∙ last_owned))))
          ∙ nested.parents o g h)

      pub left-forest : forest_in left ≡ without_region (on_op (forest_in old) op (on_regions (λ _. rest))) r
      left-forest = relisted-forest old op x found rest (cut old.regions r) found_ops found_blocks nested lists
          (on_regions (λ _. rest)) refl
          (λ g. cond (same_id g r) None ((forest_in old).regions g))
          (λ g. seen-cut old.regions (λ _. blocks_in (tree_of old) g) r live g)

-- what was made and taken back leaves what was there
pub made-undone : {T : Type 0} (a : Arena T) (id : ArenaIndex) (v : T) → IsNew a id → (i : ArenaIndex) → get (cut (fill a id v) id) i ≡ get a i
made-undone a id v is_new i =
    let live = live-of (fill a id v) id v (get-fill_new a id v is_new) in
    elim (id_cases i id) [
      | inl e ↦ ap (get (cut (fill a id v) id)) e ∙ get-cut (fill a id v) id live ∙ sym (ap (get a) e ∙ get-new a id is_new)
      | inr ne ↦ get-cut_other (fill a id v) id i live ne ∙ get-fill_new_other a id i v is_new ne
    ]

module _ {D A K B S X L : Type 0} (old : Records D A K B S X L) (op : ArenaIndex) (x : Operation D A K B S X L) (found : get old.ops op ≡ Some x)
    (ops : Arena (Operation D A K B S X L)) (regions : Arena Region) (found_ops : OpsFound D A K B S X L) (found_blocks : BlocksFound D A K B S X L) (nested : AreNested (tree_of old)) where
  abbrev now : Records D A K B S X L
  now = record { ops = ops; blocks = old.blocks; regions = regions }

  now-is : (rs : List ArenaIndex) (all : Arena Region) → ops ≡ fill old.ops op (record x { regions = rs }) → regions ≡ all → now ≡ with_regions old op x found rs all
  now-is rs all e f = λ i. record { ops = e i; blocks = old.blocks; regions = f i }

  pub region-added : (r : ArenaIndex) (region : Region) → IsNew old.regions r → region.index ≡ r → region.parent ≡ op
      → ops ≡ fill old.ops op (record x { regions = x.regions ++ r ∷ [] }) → regions ≡ fill old.regions r region
      → AreLists (seen block_links old.blocks) (seen region_ends (fill old.regions r region)) (blocks_in (tree_of old))
      → Becomes old now (add_region (forest_in old) op r)
  region-added r region is_new own knows e f lists =
      subst (λ (t : Records D A K B S X L). Becomes old t (add_region (forest_in old) op r)) (sym (now-is (x.regions ++ r ∷ []) (fill old.regions r region) e f)) (record {
        forest = added-forest old op x found found_ops found_blocks nested r region is_new lists;
        nested = added-nested old op x found found_ops found_blocks nested r region is_new lists knows;
        chains = relisted-chains old op x found (x.regions ++ r ∷ []) (fill old.regions r region);
        own = relisted-own old op x found (x.regions ++ r ∷ []) (fill old.regions r region) (places-new region_index old.regions r region is_new own);
      })

  pub region-undone : (r : ArenaIndex) (region : Region) → IsNew old.regions r
      → ops ≡ fill old.ops op (record x { regions = x.regions }) → regions ≡ cut (fill old.regions r region) r
      → Becomes old now (forest_in old)
  region-undone r region is_new e f =
      let all = cut (fill old.regions r region) r in
      let same = made-undone old.regions r region is_new in
      subst (λ (t : Records D A K B S X L). Becomes old t (forest_in old)) (sym (now-is x.regions all e f)) (record {
        forest = undone-forest old op x found found_ops found_blocks nested all same;
        nested = undone-nested old op x found found_ops found_blocks nested all same;
        chains = relisted-chains old op x found x.regions all;
        own = relisted-own old op x found x.regions all (λ know i g is. know i g (sym (same i) ∙ is));
      })

  pub region-left : (rest : List ArenaIndex) (r : ArenaIndex) → x.regions ≡ rest ++ r ∷ [] → Distinct x.regions → IsLiveIn old.regions r
      → ops ≡ fill old.ops op (record x { regions = rest }) → regions ≡ cut old.regions r
      → AreLists (seen block_links old.blocks) (seen region_ends (cut old.regions r)) (blocks_in (tree_of old))
      → Becomes old now (without_region (on_op (forest_in old) op (on_regions (λ _. rest))) r)
  region-left rest r splits once live e f lists =
      subst (λ (t : Records D A K B S X L). Becomes old t (without_region (on_op (forest_in old) op (on_regions (λ _. rest))) r)) (sym (now-is rest (cut old.regions r) e f)) (record {
        forest = left-forest old op x found found_ops found_blocks nested rest r splits live lists;
        nested = left-nested old op x found found_ops found_blocks nested rest r splits live lists once;
        chains = relisted-chains old op x found rest (cut old.regions r);
        own = relisted-own old op x found rest (cut old.regions r) (places-cut region_index old.regions r live);
      })

-- the regions of an operation in the forest are those of its record
pub regions-read : {D A K B S X L : Type 0} (t : Records D A K B S X L) (op : ArenaIndex) → regions_of (forest_in t) op ≡ in_record op_regions [] (get t.ops op)
regions-read {D} {A} {K} {B} {S} {X} {L} t op = by (get t.ops op)
  where
    by : (m : Option (Operation D A K B S X L)) → list_of (λ (r : OpRecord context_ids (closed A K B S X L)). r.regions) (option_map op_record m) ≡ in_record op_regions [] m
    by None = refl
    by (Some y) = refl

-- a region that is empty in the forest is live, and the walk finds nothing
pub empty-region : {D A K B S X L : Type 0} (t : Records D A K B S X L) (r : ArenaIndex) → (forest_in t).regions r ≡ Some [] → IsLiveIn t.regions r × (blocks_in (tree_of t) r ≡ [])
empty-region t r e = by (get t.regions r) refl e
  where
    by : (m : Option Region) → get t.regions r ≡ m → option_map (λ (_ : Region). blocks_in (tree_of t) r) m ≡ Some [] → IsLiveIn t.regions r × (blocks_in (tree_of t) r ≡ [])
    by None is h = absurd cc
    by (Some x) is h = (ap is_some is, same_Some _ _ h)
