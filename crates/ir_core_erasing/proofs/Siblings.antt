-- The last of a list, and the one before an entity in its list, as the records say.
use Rattle.std.proofs.Common.{◌≡◌, ◌≢◌, ◌-◌, ◌<◌, ◌≤◌, drop, ◌⊎◌, inl, inr, Bool, true, false, slice_index_or, cond, ℕ, zero, suc, List, [], ◌∷◌, ◌++◌, map, length, slice_get, Option, Some, None, refl, sym, ap, ◌∙◌, subst, arith}
use Rattle.std.specs.Option.{option_map, option_and_then}
use Rattle.std.proofs.lemmas.Option.{same_Some, slice_get-map}
use Rattle.std.proofs.lemmas.List.{map-append, append_assoc, length-map}
use Rattle.ir_model.specs.declared.ids.ArenaIndex.{ArenaIndex}
use Rattle.ir_model.specs.ContextIds.{context_ids, same_id}
use Rattle.ir_model.specs.Forest.{Entity, an_op, a_block, a_region, OpRecord, BlockRecord}
use Rattle.ir_model.specs.Nesting.{In, Nested, list_of, children, regions_of, ops_of, blocks_of}
use Rattle.ir_model.specs.Parent.{last_of as last_in}
use Rattle.ir_model.proofs.IdCases.{id_cases, id_same, id_differs}
use Rattle.ir_model.specs.Ids.{Absent, Distinct}
use Rattle.ir_model.proofs.Keeps.{Distinct-unmap}
use Rattle.ir_model.proofs.Nests.{In-map_back, not_in-Absent}
use Rattle.ir_base_arenas.specs.Arena.{get}
use Rattle.ir_base_arenas.specs.Lists.{Ends, Links, linked, head_or, last_from, last_or}
use Rattle.ir_core_records.specs.declared.record.Operation.{Operation}
use Rattle.ir_core_records.specs.declared.record.BasicBlock.{BasicBlock}
use Rattle.ir_core_records.specs.declared.record.Region.{Region}
use Rattle.ir_core_records.specs.declared.records.Records.{Records}
use Rattle.ir_core_records.specs.Meaning.{closed, forest_in, op_record, block_record}
use Rattle.ir_core_records.specs.Nested.{AreNested}
use Rattle.ir_core_records.specs.Tree.{tree_of, ops_in, blocks_in, block_ends, region_ends, op_regions}
use Rattle.ir_core_erasing.specs.Walks.{StartsWith, EndsWith, IsBefore, before_from, kept_last, kept_previous, tail_in, prev_in}
use Rattle.ir_core_erasing.proofs.Posts.{split}

module _ {E : Type 0} where
  -- this stands before x in the list, or x is the first
  abbrev pub PreviousIs : List E → E → Option E → Type 0
  PreviousIs xs x None = StartsWith xs x
  PreviousIs xs x (Some q) = IsBefore xs q x

  last-item : (y : E) (ys : List E) (x : E) → slice_get (y ∷ ys) (length ys) ≡ Some x → EndsWith (y ∷ ys) x
  last-item y [] x e = ([], ap (λ z. z ∷ []) (same_Some _ _ e))
  last-item y (z ∷ zs) x e = let m = last-item z zs x e in (y ∷ m.0, ap (λ ws. y ∷ ws) m.1)

  -- a list with a last item ends with it, and one without is empty
  pub last-ends : (xs : List E) (x : E) → last_in xs ≡ Some x → EndsWith xs x
  last-ends [] x e = absurd cc
  last-ends (y ∷ ys) x e = last-item y ys x (ap (slice_get (y ∷ ys)) (let k : length ys ≡ length (y ∷ ys) - 1 = omega arith in k) ∙ e)

  got : (y : E) (ys : List E) → slice_get (y ∷ ys) (length ys) ≡ None → ⊥
  got y [] e = absurd cc
  got y (z ∷ zs) e = got z zs e

  pub last-none : (xs : List E) → last_in xs ≡ None → xs ≡ []
  last-none [] e = refl
  last-none (y ∷ ys) e = absurd (got y ys (ap (slice_get (y ∷ ys)) (let k : length ys ≡ length (y ∷ ys) - 1 = omega arith in k) ∙ e))

module _ {A E : Type 0} (c : A → E) where
  last-map : (xs : List A) → option_map c (last_in xs) ≡ last_in (map c xs)
  last-map xs = sym (slice_get-map c xs (length xs - 1)) ∙ ap (slice_get (map c xs)) (let k : length xs - 1 ≡ length (map c xs) - 1 = omega (arith, length-map xs c) in k)

  map-before : (xs : List A) (q x : A) → IsBefore xs q x → IsBefore (map c xs) (c q) (c x)
  map-before xs q x m = (map c m.0, map c m.1, ap (map c) m.2 ∙ map-append c m.0 (q ∷ x ∷ m.1))

  map-previous : (xs : List A) (x : A) (o : Option A) → PreviousIs xs x o → PreviousIs (map c xs) (c x) (option_map c o)
  map-previous xs x None m = (map c m.0, ap (map c) m.1)
  map-previous xs x (Some q) m = map-before xs q x m

last-got : (x : ArenaIndex) (xs : List ArenaIndex) → Some (last_from x xs) ≡ slice_get (x ∷ xs) (length xs)
last-got x [] = refl
last-got x (y ∷ ys) = last-got y ys

-- the tail of a list is its last item
last-last : (xs : List ArenaIndex) → last_or None xs ≡ last_in xs
last-last [] = refl
last-last (x ∷ xs) = last-got x xs ∙ ap (slice_get (x ∷ xs)) (let e : length xs ≡ length (x ∷ xs) - 1 = omega arith in e)

of-ends : (y : ArenaIndex) (xs : List ArenaIndex) → EndsWith (y ∷ xs) (last_from y xs)
of-ends y [] = ([], refl)
of-ends y (x ∷ xs) = let m = of-ends x xs in (y ∷ m.0, ap (λ ws. y ∷ ws) m.1)

split-previous : (xs us vs : List ArenaIndex) (x : ArenaIndex) → xs ≡ us ++ x ∷ vs → PreviousIs xs x (last_or None us)
split-previous xs [] vs x is = (vs, is)
split-previous xs (u ∷ us) vs x is =
    let m = of-ends u us in
    (m.0, vs, is ∙ ap (λ ws. ws ++ x ∷ vs) m.1 ∙ append_assoc m.0 (last_from u us ∷ []) (x ∷ vs))

scan : (p : Option ArenaIndex) (x : ArenaIndex) (xs : List ArenaIndex) → In x xs
    → (StartsWith xs x × (before_from p x xs ≡ p)) ⊎ ((q : ArenaIndex) × (before_from p x xs ≡ Some q) × IsBefore xs q x)
scan p x [] h = absurd h
scan p x (y ∷ ys) h = elim (id_cases y x) [
  | inl e ↦ inl ((ys, ap (λ z. z ∷ ys) e), ap (λ b. cond b p (before_from (Some y) x ys)) (ap (λ z. same_id z x) e ∙ id_same x))
  | inr ne ↦
      let on : before_from p x (y ∷ ys) ≡ before_from (Some y) x ys = ap (λ b. cond b p (before_from (Some y) x ys)) (id_differs y x ne) in
      let more : In x ys = elim h [ inl e ↦ absurd (ne (sym e)) | inr k ↦ k ] in
      elim (scan (Some y) x ys more) [
        | inl m ↦ inr (y, on ∙ m.1, ([], m.0.0, ap (λ ws. y ∷ ws) m.0.1))
        | inr m ↦ inr (m.0, on ∙ m.1, (y ∷ m.2.0, m.2.1, ap (λ ws. y ∷ ws) m.2.2))
      ]
]

scan-previous : (x : ArenaIndex) (xs : List ArenaIndex) → In x xs → PreviousIs xs x (before_from None x xs)
scan-previous x xs h = elim (scan None x xs h) [
  | inl m ↦ subst (PreviousIs xs x) (sym m.1) m.0
  | inr m ↦ subst (PreviousIs xs x) (sym m.1) m.2
]

in-at : (xs : List ArenaIndex) (k : ℕ) (x : ArenaIndex) → slice_get xs k ≡ Some x → In x xs
in-at [] k x e = absurd cc
in-at (y ∷ ys) zero x e = inl (sym (same_Some y x e))
in-at (y ∷ ys) (suc k) x e = inr (in-at ys k x e)

-- where no item stands twice, the one before an item is the one at the place before
pub before-at : (p : Option ArenaIndex) (x y : ArenaIndex) (xs : List ArenaIndex) (k : ℕ) → Distinct xs → slice_get xs k ≡ Some y → slice_get xs (suc k) ≡ Some x → before_from p x xs ≡ Some y
before-at p x y [] k d e h = absurd cc
before-at p x y (z ∷ zs) zero d e h = past p x z zs (ne x z zs 0 d.0 h) ∙ here zs h
  where
    ne : (x z : ArenaIndex) (zs : List ArenaIndex) (k : ℕ) → Absent z zs → slice_get zs k ≡ Some x → z ≢ x
    ne x z zs k out at same = not_in-Absent z zs out (subst (λ w. In w zs) (sym same) (in-at zs k x at))

    past : (p : Option ArenaIndex) (x z : ArenaIndex) (zs : List ArenaIndex) → z ≢ x → before_from p x (z ∷ zs) ≡ before_from (Some z) x zs
    past p x z zs differ = ap (λ b. cond b p (before_from (Some z) x zs)) (id_differs z x differ)

    here : (ws : List ArenaIndex) → slice_get ws 0 ≡ Some x → before_from (Some z) x ws ≡ Some y
    here [] f = absurd cc
    here (w ∷ ws) f = ap (λ b. cond b (Some z) (before_from (Some w) x ws)) (ap (λ v. same_id v x) (same_Some w x f) ∙ id_same x) ∙ e
before-at p x y (z ∷ zs) (suc k) d e h =
    ap (λ b. cond b p (before_from (Some z) x zs)) (id_differs z x (λ same. not_in-Absent z zs d.0 (subst (λ w. In w zs) (sym same) (in-at zs (suc k) x h))))
    ∙ before-at (Some z) x y zs k d.1 e h

-- a node of these lists has its neighbours as links
abbrev pub AreNeighbours : (ArenaIndex → Option Links) → (ArenaIndex → List ArenaIndex) → Type 0
AreNeighbours nodes lists = (c x : ArenaIndex) (a b : List ArenaIndex) → lists c ≡ a ++ x ∷ b → nodes x ≡ Some (linked (last_or None a) (head_or None b) c)

module _ {D A K B S X L : Type 0} (t : Records D A K B S X L) (nested : AreNested (tree_of t)) where
  pub ops_of-is : (b : ArenaIndex) → ops_of (forest_in t) b ≡ ops_in (tree_of t) b
  ops_of-is b = by (get t.blocks b) refl
    where
      by : (m : Option (BasicBlock D A K B S X L)) → get t.blocks b ≡ m → list_of (λ (r : BlockRecord context_ids (closed A K B S X L)). r.ops) (option_map (block_record (ops_in (tree_of t) b)) m) ≡ ops_in (tree_of t) b
      by None e = sym (nested.op_lists.absent b (ap (option_map block_ends) e))
      by (Some r) e = refl

  pub blocks_of-is : (g : ArenaIndex) → blocks_of (forest_in t) g ≡ blocks_in (tree_of t) g
  blocks_of-is g = by (get t.regions g) refl
    where
      by : (m : Option Region) → get t.regions g ≡ m → list_of (λ (bs : List ArenaIndex). bs) (option_map (λ _. blocks_in (tree_of t) g) m) ≡ blocks_in (tree_of t) g
      by None e = sym (nested.block_lists.absent g (ap (option_map region_ends) e))
      by (Some r) e = refl

  pub regions_of-is : (o : ArenaIndex) → regions_of (forest_in t) o ≡ list_of (λ gs. gs) ((tree_of t).regions_of o)
  regions_of-is o = by (get t.ops o)
    where
      by : (m : Option (Operation D A K B S X L)) → list_of (λ (r : OpRecord context_ids (closed A K B S X L)). r.regions) (option_map op_record m) ≡ list_of (λ gs. gs) (option_map op_regions m)
      by None = refl
      by (Some x) = refl

  tail-is : (ends : Option Ends) (xs : List ArenaIndex) → ((e : Ends) → ends ≡ Some e → e.tail ≡ last_or None xs) → (ends ≡ None → xs ≡ []) → tail_in ends ≡ last_or None xs
  tail-is None xs there gone = sym (ap (last_or None) (gone refl))
  tail-is (Some e) xs there gone = there e refl

  -- the last child
  pub last-is : (e : Entity context_ids) → kept_last (tree_of t) e ≡ last_in (children (forest_in t) e)
  last-is (an_op o) = ap (λ gs. option_map a_region (last_in gs)) (sym (regions_of-is o)) ∙ last-map a_region (regions_of (forest_in t) o)
  last-is (a_block b) =
      ap (option_map an_op) (tail-is ((tree_of t).block_ends b) (ops_in (tree_of t) b) (λ e h. ap (λ (x : Ends). x.tail) (nested.op_lists.ends b e h)) (nested.op_lists.absent b) ∙ last-last (ops_in (tree_of t) b))
      ∙ last-map an_op (ops_in (tree_of t) b) ∙ ap (λ os. last_in (map an_op os)) (sym (ops_of-is b))
  last-is (a_region g) =
      ap (option_map a_block) (tail-is ((tree_of t).region_ends g) (blocks_in (tree_of t) g) (λ e h. ap (λ (x : Ends). x.tail) (nested.block_lists.ends g e h)) (nested.block_lists.absent g) ∙ last-last (blocks_in (tree_of t) g))
      ∙ last-map a_block (blocks_in (tree_of t) g) ∙ ap (λ bs. last_in (map a_block bs)) (sym (blocks_of-is g))

  module _ (op_links : AreNeighbours (tree_of t).ops (ops_in (tree_of t))) (block_links : AreNeighbours (tree_of t).blocks (blocks_in (tree_of t))) where
    -- the one before, whatever list the entity stands in
    pub previous-is : (p x : Entity context_ids) → In x (children (forest_in t) p) → PreviousIs (children (forest_in t) p) x (kept_previous (tree_of t) x)
    previous-is (an_op o) x h =
        let m = In-map_back a_region x (regions_of (forest_in t) o) h in
        subst (λ z. PreviousIs (children (forest_in t) (an_op o)) z (kept_previous (tree_of t) z)) (sym m.2)
        (by m.0 ((tree_of t).regions_of o) refl (subst (In m.0) (regions_of-is o) m.1))
      where
        by : (g : ArenaIndex) (w : Option (List ArenaIndex)) → (tree_of t).regions_of o ≡ w → In g (list_of (λ gs. gs) ((tree_of t).regions_of o))
            → PreviousIs (children (forest_in t) (an_op o)) (a_region g) (kept_previous (tree_of t) (a_region g))
        by g None e i = absurd (subst (λ (m : Option (List ArenaIndex)). In g (list_of (λ gs. gs) m)) e i)
        by g (Some gs) e i =
            let found : kept_previous (tree_of t) (a_region g) ≡ option_map a_region (before_from None g gs) =
            ap (λ (m : Option ArenaIndex). option_map a_region (option_and_then (λ (gs : List ArenaIndex). before_from None g gs) (option_and_then (tree_of t).regions_of m))) (nested.parents o g i)
            ∙ ap (λ (m : Option (List ArenaIndex)). option_map a_region (option_and_then (λ (gs : List ArenaIndex). before_from None g gs) m)) e in
            let regions : regions_of (forest_in t) o ≡ gs = regions_of-is o ∙ ap (list_of (λ gs. gs)) e in
            subst (PreviousIs (children (forest_in t) (an_op o)) (a_region g)) (sym found)
            (map-previous a_region (regions_of (forest_in t) o) g (before_from None g gs)
            (subst (λ xs. PreviousIs xs g (before_from None g gs)) (sym regions) (scan-previous g gs (subst (λ (m : Option (List ArenaIndex)). In g (list_of (λ gs. gs) m)) e i))))
    previous-is (a_block b) x h =
        let m = In-map_back an_op x (ops_of (forest_in t) b) h in
        let at = split m.0 (ops_in (tree_of t) b) (subst (In m.0) (ops_of-is b) m.1) in
        let links = op_links b m.0 at.0 at.1 at.2 in
        subst (λ z. PreviousIs (children (forest_in t) (a_block b)) z (kept_previous (tree_of t) z)) (sym m.2)
        (subst (PreviousIs (children (forest_in t) (a_block b)) (an_op m.0)) (sym (ap (λ l. option_map an_op (prev_in l)) links))
        (map-previous an_op (ops_of (forest_in t) b) m.0 (last_or None at.0) (split-previous (ops_of (forest_in t) b) at.0 at.1 m.0 (ops_of-is b ∙ at.2))))
    previous-is (a_region g) x h =
        let m = In-map_back a_block x (blocks_of (forest_in t) g) h in
        let at = split m.0 (blocks_in (tree_of t) g) (subst (In m.0) (blocks_of-is g) m.1) in
        let links = block_links g m.0 at.0 at.1 at.2 in
        subst (λ z. PreviousIs (children (forest_in t) (a_region g)) z (kept_previous (tree_of t) z)) (sym m.2)
        (subst (PreviousIs (children (forest_in t) (a_region g)) (a_block m.0)) (sym (ap (λ l. option_map a_block (prev_in l)) links))
        (map-previous a_block (blocks_of (forest_in t) g) m.0 (last_or None at.0) (split-previous (blocks_of (forest_in t) g) at.0 at.1 m.0 (blocks_of-is g ∙ at.2))))

drop-here : (xs : List ArenaIndex) (k : ℕ) (d : ArenaIndex) → k < length xs → drop k xs ≡ slice_index_or xs k d ∷ drop (suc k) xs
drop-here [] k d h = absurd (omega (arith, h))
drop-here (x ∷ xs) zero d h = refl
drop-here (x ∷ xs) (suc k) d h = drop-here xs k d (omega (arith, h))

drop-past : (xs : List ArenaIndex) (k : ℕ) → length xs ≤ k → drop k xs ≡ []
drop-past [] zero h = refl
drop-past [] (suc k) h = refl
drop-past (x ∷ xs) zero h = absurd (omega (arith, h))
drop-past (x ∷ xs) (suc k) h = drop-past xs k (omega (arith, h))

module _ (xs : List ArenaIndex) (k : ℕ) (d x : ArenaIndex) (p : Option ArenaIndex) where
  at-place : k < length xs → (b : Bool) → same_id (slice_index_or xs k d) x ≡ b → before_from p x (drop k xs) ≡ cond b p (before_from (Some (slice_index_or xs k d)) x (drop (suc k) xs))
  at-place h b e = ap (before_from p x) (drop-here xs k d h) ∙ ap (λ b. cond b p (before_from (Some (slice_index_or xs k d)) x (drop (suc k) xs))) e

  pub scan-here : k < length xs → same_id (slice_index_or xs k d) x ≡ true → before_from p x (drop k xs) ≡ p
  scan-here h e = at-place h true e

  pub scan-on : k < length xs → same_id (slice_index_or xs k d) x ≡ false → before_from p x (drop k xs) ≡ before_from (Some (slice_index_or xs k d)) x (drop (suc k) xs)
  scan-on h e = at-place h false e

  pub scan-end : length xs ≤ k → before_from p x (drop k xs) ≡ None
  scan-end h = ap (before_from p x) (drop-past xs k h)

-- no region stands twice in an operation
pub regions-once : {D A K B S X L : Type 0} (t : Records D A K B S X L) (o : ArenaIndex) (r : Operation D A K B S X L) → Some r ≡ get t.ops o → Nested (forest_in t) → Distinct r.regions
regions-once {D} {A} {K} {B} {S} {X} {L} t o r found nested =
    Distinct-unmap a_region r.regions
    (subst (λ (m : Option (Operation D A K B S X L)). Distinct {A = Entity context_ids} (map a_region (list_of (λ (q : OpRecord context_ids (closed A K B S X L)). q.regions) (option_map op_record m)))) (sym found) (nested.once (an_op o)))
