-- What an edit of the lists makes of the forest, and what it leaves.
use mathlib.Core.Path.{fun_ext}
use Rattle.std.proofs.Common.{◌≡◌, List, [], Option, Some, None, refl, sym, ap, ◌∙◌, subst}
use Rattle.std.specs.Option.{option_map}
use Rattle.std.proofs.lemmas.Option.{same_Some}
use Rattle.ir_model.specs.declared.ids.ArenaIndex.{ArenaIndex}
use Rattle.ir_model.specs.Changes.{on_ops}
use Rattle.ir_model.specs.Nesting.{In, list_of}
use Rattle.ir_base_arenas.specs.Arena.{Arena, get}
use Rattle.ir_base_arenas.specs.Lists.{AreLists, SameBut, SameIds, seen}
use Rattle.ir_core_records.specs.declared.record.Operation.{Operation}
use Rattle.ir_core_records.specs.declared.record.BasicBlock.{BasicBlock}
use Rattle.ir_core_records.specs.declared.record.Region.{Region}
use Rattle.ir_core_records.specs.declared.records.Records.{Records}
use Rattle.ir_core_records.specs.Lists.{in_record, uses_with}
use Rattle.ir_core_records.specs.Meaning.{forest_in, op_record, block_record, region_index}
use Rattle.ir_core_records.specs.Nested.{AreNested}
use Rattle.ir_core_records.specs.Tree.{tree_of, ops_in, blocks_in, op_links, block_links, block_ends, region_ends, op_regions, region_parent}
use Rattle.ir_core_nesting.specs.Edits.{no_op_links, no_block_links, no_block_ends, no_region_ends, with_op_lists, with_block_lists, EditsTo, OpListsTell, BlockListsTell}
use Rattle.ir_core_nesting.proofs.Kept.{OpsFound, BlocksFound, ops-are, blocks-are}
use Rattle.ir_core_nesting.proofs.Chained.{chains-same}
use Rattle.ir_core_nesting.proofs.Growths.{SameIds-none}

-- what no edit writes is read as before
abbrev pub AreRead : Type 0 → Type 0
AreRead T = (clear : T → T) (field : T → T) (old new : Arena T) → ((x : T) → field (clear x) ≡ field x) → SameBut clear old new → (id : ArenaIndex) → seen field new id ≡ seen field old id

-- an edit hands out no id and frees none
abbrev pub AreSameIds : Type 0 → Type 0
AreSameIds T = (clear : T → T) (old new : Arena T) → SameBut clear old new → SameIds old new

module _ {T Y : Type 0} (kept : AreRead T) (clear : T → T) (twice : (x : T) → clear (clear x) ≡ clear x) (a b : Arena T) (same : SameBut clear a b) where
  -- whatever does not see what is cleared
  pub read-rest : (read : Option T → Y) → ((x : T) → read (Some (clear x)) ≡ read (Some x)) → (i : ArenaIndex) → read (get b i) ≡ read (get a i)
  read-rest read blind i = sym (by (get b i)) ∙ ap read (kept clear clear a b twice same i) ∙ by (get a i)
    where
      by : (m : Option T) → read (option_map clear m) ≡ read m
      by None = refl
      by (Some x) = blind x

-- what is read of its own place is its place
pub own-read : {T : Type 0} (index : T → ArenaIndex) (a b : Arena T) → ((i : ArenaIndex) → option_map index (get b i) ≡ option_map index (get a i))
    → ((i : ArenaIndex) (x : T) → get a i ≡ Some x → index x ≡ i) → (i : ArenaIndex) (x : T) → get b i ≡ Some x → index x ≡ i
own-read {T} index a b same own i x found = by (get a i) refl (sym (ap (option_map index) found) ∙ same i)
  where
    by : (m : Option T) → get a i ≡ m → Some (index x) ≡ option_map index m → index x ≡ i
    by None e h = absurd cc
    by (Some y) e h = same_Some _ _ h ∙ own i y e

module _ {D A K B S X L : Type 0} (found_ops : OpsFound D A K B S X L) (found_blocks : BlocksFound D A K B S X L) where
  module _ (ops_read : AreRead (Operation D A K B S X L)) (blocks_read : AreRead (BasicBlock D A K B S X L))
      (op_ids : AreSameIds (Operation D A K B S X L)) (block_ids : AreSameIds (BasicBlock D A K B S X L)) where
    module _ (old : Records D A K B S X L) (ops : Arena (Operation D A K B S X L)) (blocks : Arena (BasicBlock D A K B S X L)) (lists : ArenaIndex → List ArenaIndex)
        (nested : AreNested (tree_of old)) (l : AreLists (seen op_links ops) (seen block_ends blocks) lists)
        (same_ops : SameBut no_op_links old.ops ops) (same_blocks : SameBut no_block_ends old.blocks blocks) where
      abbrev new : Records D A K B S X L
      new = record old { ops = ops; blocks = blocks }

      op_rest : {Y : Type 0} (read : Option (Operation D A K B S X L) → Y) → ((x : Operation D A K B S X L) → read (Some (no_op_links x)) ≡ read (Some x)) → (i : ArenaIndex) → read (get ops i) ≡ read (get old.ops i)
      op_rest read blind = read-rest ops_read no_op_links (λ x. refl) old.ops ops same_ops read blind

      block_rest : {Y : Type 0} (read : Option (BasicBlock D A K B S X L) → Y) → ((x : BasicBlock D A K B S X L) → read (Some (no_block_ends x)) ≡ read (Some x)) → (i : ArenaIndex) → read (get blocks i) ≡ read (get old.blocks i)
      block_rest read blind = read-rest blocks_read no_block_ends (λ x. refl) old.blocks blocks same_blocks read blind

      lists-are : ops_in (tree_of new) ≡ lists
      lists-are = fun_ext (λ b. sym (found_ops ops blocks lists l b))

      block_lists : AreLists (tree_of new).blocks (tree_of new).region_ends (blocks_in (tree_of old))
      block_lists = subst (λ h. AreLists h (tree_of old).region_ends (blocks_in (tree_of old))) (sym (fun_ext (block_rest (option_map block_links) (λ x. refl)))) nested.block_lists

      blocks-stay : blocks_in (tree_of new) ≡ blocks_in (tree_of old)
      blocks-stay = blocks-are old new found_blocks block_lists

      listed : (b : ArenaIndex) → option_map (block_record (ops_in (tree_of new) b)) (get blocks b) ≡ option_map (on_ops (λ _. lists b)) ((forest_in old).blocks b)
      listed b =
          ap (λ (f : ArenaIndex → List ArenaIndex). option_map (block_record (f b)) (get blocks b)) lists-are
          ∙ block_rest (option_map (block_record (lists b))) (λ x. refl) b
          ∙ by (get old.blocks b)
        where
          by : (m : Option (BasicBlock D A K B S X L)) → option_map (block_record (lists b)) m ≡ option_map (on_ops (λ _. lists b)) (option_map (block_record (ops_in (tree_of old) b)) m)
          by None = refl
          by (Some x) = refl

      ops-told : EditsTo old new (with_op_lists (forest_in old) lists)
      ops-told = record {
        forest = λ i. record {
          ops = fun_ext (op_rest (option_map op_record) (λ x. refl)) i;
          blocks = fun_ext listed i;
          regions = λ g. option_map (λ _. blocks-stay i g) (get old.regions g);
        };
        nested = record {
          op_lists = subst (λ (f : ArenaIndex → List ArenaIndex). AreLists (tree_of new).ops (tree_of new).block_ends f) (sym lists-are) l;
          block_lists = subst (λ (f : ArenaIndex → List ArenaIndex). AreLists (tree_of new).blocks (tree_of new).region_ends f) (sym blocks-stay) block_lists;
          parents = λ o g h. nested.parents o g (subst (λ (xs : List ArenaIndex). In g xs) (op_rest (λ m. list_of (λ gs. gs) (option_map op_regions m)) (λ x. refl) o) h);
        };
        keeps = record {
          chains = chains-same old new
              (op_rest (in_record (λ x. x.operands) []) (λ x. refl))
              (op_rest (in_record (λ x. x.successors) []) (λ x. refl))
              (λ o n. op_rest (λ m. uses_with (in_record (λ x. x.results) [] m) n) (λ x. refl) o)
              (λ b n. block_rest (λ m. uses_with (in_record (λ x. x.arguments) [] m) n) (λ x. refl) b)
              (λ b. block_rest (in_record (λ x. x.uses) []) (λ x. refl) b.index);
          op_ids = op_ids no_op_links old.ops ops same_ops;
          block_ids = block_ids no_block_ends old.blocks blocks same_blocks;
          region_ids = SameIds-none old.regions;
          own = λ know. record {
            ops = own-read (λ x. x.index) old.ops ops (op_rest (option_map (λ x. x.index)) (λ x. refl)) know.ops;
            blocks = own-read (λ x. x.index) old.blocks blocks (block_rest (option_map (λ x. x.index)) (λ x. refl)) know.blocks;
            regions = know.regions;
          };
        };
      }

    pub op-lists-tell : OpListsTell D A K B S X L
    op-lists-tell = ops-told

  module _ (blocks_read : AreRead (BasicBlock D A K B S X L)) (regions_read : AreRead Region)
      (block_ids : AreSameIds (BasicBlock D A K B S X L)) (region_ids : AreSameIds Region) where
    module _ (old : Records D A K B S X L) (blocks : Arena (BasicBlock D A K B S X L)) (regions : Arena Region) (lists : ArenaIndex → List ArenaIndex)
        (nested : AreNested (tree_of old)) (l : AreLists (seen block_links blocks) (seen region_ends regions) lists)
        (same_blocks : SameBut no_block_links old.blocks blocks) (same_regions : SameBut no_region_ends old.regions regions) where
      abbrev now : Records D A K B S X L
      now = record old { blocks = blocks; regions = regions }

      links_rest : {Y : Type 0} (read : Option (BasicBlock D A K B S X L) → Y) → ((x : BasicBlock D A K B S X L) → read (Some (no_block_links x)) ≡ read (Some x)) → (i : ArenaIndex) → read (get blocks i) ≡ read (get old.blocks i)
      links_rest read blind = read-rest blocks_read no_block_links (λ x. refl) old.blocks blocks same_blocks read blind

      region_rest : {Y : Type 0} (read : Option Region → Y) → ((x : Region) → read (Some (no_region_ends x)) ≡ read (Some x)) → (i : ArenaIndex) → read (get regions i) ≡ read (get old.regions i)
      region_rest read blind = read-rest regions_read no_region_ends (λ x. refl) old.regions regions same_regions read blind

      blocks-listed : blocks_in (tree_of now) ≡ lists
      blocks-listed = fun_ext (λ g. sym (found_blocks blocks regions lists l g))

      op_lists : AreLists (tree_of now).ops (tree_of now).block_ends (ops_in (tree_of old))
      op_lists = subst (λ h. AreLists (tree_of old).ops h (ops_in (tree_of old))) (sym (fun_ext (links_rest (option_map block_ends) (λ x. refl)))) nested.op_lists

      ops-stay : ops_in (tree_of now) ≡ ops_in (tree_of old)
      ops-stay = ops-are old now found_ops op_lists

      regions-listed : (g : ArenaIndex) → option_map (λ (_ : Region). blocks_in (tree_of now) g) (get regions g) ≡ option_map (λ _. lists g) ((forest_in old).regions g)
      regions-listed g =
          ap (λ (f : ArenaIndex → List ArenaIndex). option_map (λ (_ : Region). f g) (get regions g)) blocks-listed
          ∙ region_rest (option_map (λ _. lists g)) (λ x. refl) g
          ∙ by (get old.regions g)
        where
          by : (m : Option Region) → option_map (λ (_ : Region). lists g) m ≡ option_map (λ _. lists g) (option_map (λ (_ : Region). blocks_in (tree_of old) g) m)
          by None = refl
          by (Some x) = refl

      blocks-told : EditsTo old now (with_block_lists (forest_in old) lists)
      blocks-told = record {
        forest = λ i. record {
          ops = (forest_in old).ops;
          blocks = fun_ext (λ b. ap (λ (f : ArenaIndex → List ArenaIndex). option_map (block_record (f b)) (get blocks b)) ops-stay ∙ links_rest (option_map (block_record (ops_in (tree_of old) b))) (λ x. refl) b) i;
          regions = fun_ext regions-listed i;
        };
        nested = record {
          op_lists = subst (λ (f : ArenaIndex → List ArenaIndex). AreLists (tree_of now).ops (tree_of now).block_ends f) (sym ops-stay) op_lists;
          block_lists = subst (λ (f : ArenaIndex → List ArenaIndex). AreLists (tree_of now).blocks (tree_of now).region_ends f) (sym blocks-listed) l;
          parents = λ o g h. region_rest (option_map region_parent) (λ x. refl) g ∙ nested.parents o g h;
        };
        keeps = record {
          chains = chains-same old now
              (λ o. refl)
              (λ o. refl)
              (λ o n. refl)
              (λ b n. links_rest (λ m. uses_with (in_record (λ x. x.arguments) [] m) n) (λ x. refl) b)
              (λ b. links_rest (in_record (λ x. x.uses) []) (λ x. refl) b.index);
          op_ids = SameIds-none old.ops;
          block_ids = block_ids no_block_links old.blocks blocks same_blocks;
          region_ids = region_ids no_region_ends old.regions regions same_regions;
          own = λ know. record {
            ops = know.ops;
            blocks = own-read (λ x. x.index) old.blocks blocks (links_rest (option_map (λ x. x.index)) (λ x. refl)) know.blocks;
            regions = own-read region_index old.regions regions (region_rest (option_map region_index) (λ x. refl)) know.regions;
          };
        };
      }

    pub block-lists-tell : BlockListsTell D A K B S X L
    block-lists-tell = blocks-told
