-- Edits of the lists of all blocks, or of all regions, as the records carry them out.
use Rattle.std.proofs.Common.{◌≡◌, ◌↔◌, List, [], ◌∷◌, ◌++◌, Option, Some, sym, ap, ◌∙◌, subst, inl, refl}
use Rattle.std.proofs.lemmas.Option.{same_Some}
use Rattle.ir_model.specs.declared.ids.ArenaIndex.{ArenaIndex}
use Rattle.ir_model.specs.ContextIds.{same_id}
use Rattle.ir_model.specs.Ids.{Distinct}
use Rattle.ir_model.specs.Nesting.{In}
use Rattle.ir_model.specs.Changes.{on_block, on_ops, on_region, in_blocks, in_regions, append_ops, append_blocks, without, put_before, put_after}
use Rattle.ir_model.proofs.Nests.{In-right}
use Rattle.ir_model.proofs.Relinks.{without_absent}
use Rattle.ir_model.proofs.TwoRuns.{id_tells}
use Rattle.ir_base_arenas.specs.Arena.{Arena}
use Rattle.ir_base_arenas.specs.Lists.{AreLists, SameBut, seen, with_list}
use Rattle.ir_core_records.specs.declared.record.Operation.{Operation}
use Rattle.ir_core_records.specs.declared.record.BasicBlock.{BasicBlock}
use Rattle.ir_core_records.specs.declared.record.Region.{Region}
use Rattle.ir_core_records.specs.declared.records.Records.{Records}
use Rattle.ir_core_records.specs.Meaning.{forest_in}
use Rattle.ir_core_records.specs.Nested.{AreNested}
use Rattle.ir_core_records.specs.Tree.{tree_of, ops_in, blocks_in, op_links, block_links, block_ends, region_ends}
use Rattle.ir_core_nesting.specs.Edits.{no_op_links, no_block_links, no_block_ends, no_region_ends, EditsTo, OpListsTell, BlockListsTell}
use Rattle.ir_core_nesting.proofs.ListWords.{spread, without-middle, before-middle, after-middle, before-absent, after-absent, ops-at_one, ops-at_each, ops-joined, blocks-at_one, blocks-at_each, blocks-joined}

-- lists in which no node stands twice, and none in two
module _ (lists : ArenaIndex → List ArenaIndex) (home : ArenaIndex → Option ArenaIndex) (exact : (c x : ArenaIndex) → (home x ≡ Some c) ↔ In x (lists c)) (apart : (c : ArenaIndex) → Distinct (lists c)) where
  elsewhere : (x c k : ArenaIndex) (a b : List ArenaIndex) → lists c ≡ a ++ x ∷ b → (c ≡ k → ⊥) → In x (lists k) → ⊥
  elsewhere x c k a b splits ne h = ne (same_Some _ _ (sym ((exact c x).1 (subst (λ xs. In x xs) (sym splits) (In-right x a (x ∷ b) (inl refl)))) ∙ (exact k x).1 h))

  pub without-each : (x c : ArenaIndex) (a b : List ArenaIndex) → lists c ≡ a ++ x ∷ b → with_list lists c (a ++ b) ≡ (λ k. without same_id x (lists k))
  without-each x c a b splits = spread lists c (a ++ b) (without same_id x)
      (sym (ap (without same_id x) splits ∙ without-middle x a b (subst (λ xs. Distinct xs) splits (apart c))))
      (λ k ne. without_absent same_id id_tells x (lists k) (elsewhere x c k a b splits ne))

  pub before-each : (x mark c : ArenaIndex) (a b : List ArenaIndex) → lists c ≡ a ++ mark ∷ b → with_list lists c (a ++ x ∷ mark ∷ b) ≡ (λ k. put_before same_id x mark (lists k))
  before-each x mark c a b splits = spread lists c (a ++ x ∷ mark ∷ b) (put_before same_id x mark)
      (sym (ap (put_before same_id x mark) splits ∙ before-middle x mark a b (subst (λ xs. Distinct xs) splits (apart c))))
      (λ k ne. before-absent x mark (lists k) (elsewhere mark c k a b splits ne))

  pub after-each : (x mark c : ArenaIndex) (a b : List ArenaIndex) → lists c ≡ a ++ mark ∷ b → with_list lists c (a ++ mark ∷ x ∷ b) ≡ (λ k. put_after same_id x mark (lists k))
  after-each x mark c a b splits = spread lists c (a ++ mark ∷ x ∷ b) (put_after same_id x mark)
      (sym (ap (put_after same_id x mark) splits ∙ after-middle x mark a b (subst (λ xs. Distinct xs) splits (apart c))))
      (λ k ne. after-absent x mark (lists k) (elsewhere mark c k a b splits ne))

module _ {D A K B S X L : Type 0} (tell : OpListsTell D A K B S X L) (old : Records D A K B S X L) (nested : AreNested (tree_of old)) (ops : Arena (Operation D A K B S X L)) (blocks : Arena (BasicBlock D A K B S X L))
    (same_ops : SameBut no_op_links old.ops ops) (same_blocks : SameBut no_block_ends old.blocks blocks) where
  abbrev relinked : Records D A K B S X L
  relinked = record old { ops = ops; blocks = blocks }

  pub ops-one : (g : List ArenaIndex → List ArenaIndex) (b : ArenaIndex) → AreLists (seen op_links ops) (seen block_ends blocks) (with_list (ops_in (tree_of old)) b (g (ops_in (tree_of old) b)))
      → EditsTo old relinked (on_block (forest_in old) b (on_ops g))
  ops-one g b l =
      let told = tell old ops blocks (with_list (ops_in (tree_of old)) b (g (ops_in (tree_of old) b))) nested l same_ops same_blocks in
      record { forest = told.forest ∙ ops-at_one old g b; nested = told.nested; keeps = told.keeps }

  pub ops-each : (g : List ArenaIndex → List ArenaIndex) (lists : ArenaIndex → List ArenaIndex) → AreLists (seen op_links ops) (seen block_ends blocks) lists → lists ≡ (λ b. g (ops_in (tree_of old) b))
      → EditsTo old relinked (in_blocks (forest_in old) g)
  ops-each g lists l is =
      let told = tell old ops blocks (λ b. g (ops_in (tree_of old) b)) nested (subst (λ f. AreLists (seen op_links ops) (seen block_ends blocks) f) is l) same_ops same_blocks in
      record { forest = told.forest ∙ ops-at_each old g; nested = told.nested; keeps = told.keeps }

  pub ops-append : (donee donor : ArenaIndex)
      → AreLists (seen op_links ops) (seen block_ends blocks) (with_list (with_list (ops_in (tree_of old)) donee (ops_in (tree_of old) donee ++ ops_in (tree_of old) donor)) donor [])
      → EditsTo old relinked (append_ops (forest_in old) donee donor (ops_in (tree_of old) donor))
  ops-append donee donor l =
      let told = tell old ops blocks (with_list (with_list (ops_in (tree_of old)) donee (ops_in (tree_of old) donee ++ ops_in (tree_of old) donor)) donor []) nested l same_ops same_blocks in
      record { forest = told.forest ∙ ops-joined old donee donor; nested = told.nested; keeps = told.keeps }

module _ {D A K B S X L : Type 0} (tell : BlockListsTell D A K B S X L) (old : Records D A K B S X L) (nested : AreNested (tree_of old)) (blocks : Arena (BasicBlock D A K B S X L)) (regions : Arena Region)
    (same_blocks : SameBut no_block_links old.blocks blocks) (same_regions : SameBut no_region_ends old.regions regions) where
  abbrev relinked_blocks : Records D A K B S X L
  relinked_blocks = record old { blocks = blocks; regions = regions }

  pub blocks-one : (g : List ArenaIndex → List ArenaIndex) (r : ArenaIndex) → AreLists (seen block_links blocks) (seen region_ends regions) (with_list (blocks_in (tree_of old)) r (g (blocks_in (tree_of old) r)))
      → EditsTo old relinked_blocks (on_region (forest_in old) r g)
  blocks-one g r l =
      let told = tell old blocks regions (with_list (blocks_in (tree_of old)) r (g (blocks_in (tree_of old) r))) nested l same_blocks same_regions in
      record { forest = told.forest ∙ blocks-at_one old g r; nested = told.nested; keeps = told.keeps }

  pub blocks-each : (g : List ArenaIndex → List ArenaIndex) (lists : ArenaIndex → List ArenaIndex) → AreLists (seen block_links blocks) (seen region_ends regions) lists → lists ≡ (λ r. g (blocks_in (tree_of old) r))
      → EditsTo old relinked_blocks (in_regions (forest_in old) g)
  blocks-each g lists l is =
      let told = tell old blocks regions (λ r. g (blocks_in (tree_of old) r)) nested (subst (λ f. AreLists (seen block_links blocks) (seen region_ends regions) f) is l) same_blocks same_regions in
      record { forest = told.forest ∙ blocks-at_each old g; nested = told.nested; keeps = told.keeps }

  pub blocks-append : (donee donor : ArenaIndex)
      → AreLists (seen block_links blocks) (seen region_ends regions) (with_list (with_list (blocks_in (tree_of old)) donee (blocks_in (tree_of old) donee ++ blocks_in (tree_of old) donor)) donor [])
      → EditsTo old relinked_blocks (append_blocks (forest_in old) donee donor (blocks_in (tree_of old) donor))
  blocks-append donee donor l =
      let told = tell old blocks regions (with_list (with_list (blocks_in (tree_of old)) donee (blocks_in (tree_of old) donee ++ blocks_in (tree_of old) donor)) donor []) nested l same_blocks same_regions in
      record { forest = told.forest ∙ blocks-joined old donee donor; nested = told.nested; keeps = told.keeps }
