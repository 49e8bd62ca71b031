-- A bare block that is removed.
use mathlib.Core.Path.{fun_ext}
use Rattle.std.proofs.Common.{◌≡◌, ℕ, List, [], Some, None, refl, sym, ap, ◌∙◌, inl, inr}
use Rattle.std.specs.Option.{option_map}
use Rattle.ir_model.specs.declared.ids.ArenaIndex.{ArenaIndex}
use Rattle.ir_model.proofs.IdCases.{id_cases}
use Rattle.ir_model.proofs.Arenas.{get-cut, get-cut_other}
use Rattle.ir_base_arenas.specs.Arena.{get, IsLiveIn, cut}
use Rattle.ir_base_arenas.specs.Lists.{AreLists}
use Rattle.ir_core_records.specs.declared.record.BasicBlock.{BasicBlock}
use Rattle.ir_core_records.specs.declared.record.Region.{Region}
use Rattle.ir_core_records.specs.declared.records.Records.{Records}
use Rattle.ir_core_records.specs.Lists.{in_record, uses_with}
use Rattle.ir_core_records.specs.Chains.{chains_of}
use Rattle.ir_core_records.specs.Table.{KnowOwn}
use Rattle.ir_core_records.specs.Tree.{tree_of, ops_in, blocks_in}
use Rattle.ir_core_records.specs.Nested.{AreNested}
use Rattle.ir_core_records.specs.Meaning.{forest_in, block_record}
use Rattle.ir_core_nesting.specs.Leaves.{without_block}
use Rattle.ir_core_nesting.proofs.Readings.{live-of, read-cut, seen-cut}
use Rattle.ir_core_nesting.proofs.Kept.{OpsFound, BlocksFound, Becomes, ops-are, blocks-are, nested-still}
use Rattle.ir_core_nesting.proofs.Chained.{chains-same}

module _ {D A K B S X L : Type 0} (old : Records D A K B S X L) (block : ArenaIndex) (x : BasicBlock D A K B S X L) (found : get old.blocks block ≡ Some x) where
  abbrev left : Records D A K B S X L
  left = record old { blocks = cut old.blocks block }

  live : IsLiveIn old.blocks block
  live = live-of old.blocks block x found

  left-chains : ((n : ℕ) → uses_with x.arguments n ≡ []) → x.uses ≡ [] → chains_of left ≡ chains_of old
  left-chains unused unnamed = chains-same old left
      (λ o. refl)
      (λ o. refl)
      (λ o n. refl)
      (λ b n. read-cut old.blocks block (λ m. uses_with (in_record (λ y. y.arguments) [] m) n) x found (unused n) b)
      (λ b. read-cut old.blocks block (in_record (λ y. y.uses) []) x found unnamed b.index)

  left-own : KnowOwn old → KnowOwn left
  left-own know = record {
    ops = know.ops;
    blocks = λ i p is. elim (id_cases i block) [
      | inl e ↦ absurd (let none : get left.blocks i ≡ None = ap (get left.blocks) e ∙ get-cut old.blocks block live in cc)
      | inr ne ↦ know.blocks i p (sym (get-cut_other old.blocks block i live ne) ∙ is)
    ];
    regions = know.regions;
  }

  module _ (found_ops : OpsFound D A K B S X L) (found_blocks : BlocksFound D A K B S X L) (nested : AreNested (tree_of old))
      (op_lists : AreLists (tree_of left).ops (tree_of left).block_ends (ops_in (tree_of old)))
      (block_lists : AreLists (tree_of left).blocks (tree_of left).region_ends (blocks_in (tree_of old))) where
    ops-stay : ops_in (tree_of left) ≡ ops_in (tree_of old)
    ops-stay = ops-are old left found_ops op_lists

    blocks-stay : blocks_in (tree_of left) ≡ blocks_in (tree_of old)
    blocks-stay = blocks-are old left found_blocks block_lists

    left-forest : forest_in left ≡ without_block (forest_in old) block
    left-forest = λ i. record {
      ops = (forest_in old).ops;
      blocks = fun_ext (λ b. ap (λ (f : ArenaIndex → List ArenaIndex). option_map (block_record (f b)) (get left.blocks b)) ops-stay ∙ seen-cut old.blocks (block_record (ops_in (tree_of old) b)) block live b) i;
      regions = λ g. option_map (λ (_ : Region). blocks-stay i g) (get old.regions g);
    }

    pub block-left : ((n : ℕ) → uses_with x.arguments n ≡ []) → x.uses ≡ [] → Becomes old left (without_block (forest_in old) block)
    block-left unused unnamed = record {
      forest = left-forest;
      nested = nested-still old left ops-stay blocks-stay op_lists block_lists nested.parents;
      chains = left-chains unused unnamed;
      own = left-own;
    }
