-- A new bare block.
use mathlib.Core.Path.{fun_ext}
use Rattle.std.proofs.Common.{◌≡◌, List, [], All, Some, refl, sym, ap, ◌∙◌, subst, inl, inr, cond}
use Rattle.std.specs.Option.{option_map}
use Rattle.std.proofs.lemmas.Option.{same_Some}
use Rattle.ir_model.specs.declared.ids.ArenaIndex.{ArenaIndex}
use Rattle.ir_model.specs.ContextIds.{same_id}
use Rattle.ir_model.specs.Changes.{put}
use Rattle.ir_model.proofs.IdCases.{id_cases, id_same, id_differs}
use Rattle.ir_model.proofs.Arenas.{get-fill_new, get-fill_new_other, get-new}
use Rattle.ir_base_arenas.specs.Arena.{Arena, get, IsNew, fill}
use Rattle.ir_base_arenas.specs.Lists.{AreLists, seen}
use Rattle.ir_core_records.specs.declared.record.Definition.{Definition}
use Rattle.ir_core_records.specs.declared.record.BasicBlock.{BasicBlock}
use Rattle.ir_core_records.specs.declared.records.Records.{Records}
use Rattle.ir_core_records.specs.Lists.{in_record, uses_with}
use Rattle.ir_core_records.specs.Chains.{chains_of}
use Rattle.ir_core_records.specs.Table.{KnowOwn}
use Rattle.ir_core_records.specs.Tree.{tree_of, ops_in, blocks_in, op_links, block_links, block_ends, region_ends}
use Rattle.ir_core_records.specs.Nested.{AreNested}
use Rattle.ir_core_records.specs.Meaning.{forest_in, block_record}
use Rattle.ir_core_nesting.proofs.Readings.{read-new}
use Rattle.ir_core_nesting.proofs.Kept.{OpsFound, BlocksFound, Becomes, ops-are, blocks-are, nested-still}
use Rattle.ir_core_nesting.proofs.Chained.{uses-none, chains-same}

module _ {D A K B S X L : Type 0} (old : Records D A K B S X L) (id : ArenaIndex) (block : BasicBlock D A K B S X L) (is_new : IsNew old.blocks id) where
  abbrev new : Records D A K B S X L
  new = record old { blocks = fill old.blocks id block }

  new-chains : block.uses ≡ [] → All (λ (r : Definition). r.uses ≡ []) block.arguments → chains_of new ≡ chains_of old
  new-chains uses unused = chains-same old new
      (λ o. refl)
      (λ o. refl)
      (λ o n. refl)
      (λ b n. read-new old.blocks id (λ m. uses_with (in_record (λ x. x.arguments) [] m) n) block is_new (uses-none block.arguments n unused) b)
      (λ b. read-new old.blocks id (in_record (λ x. x.uses) []) block is_new uses b.index)

  new-own : block.index ≡ id → KnowOwn old → KnowOwn new
  new-own own know = record {
    ops = know.ops;
    blocks = λ i p found. elim (id_cases i id) [
      | inl e ↦ ap (λ (b : BasicBlock D A K B S X L). b.index) (sym (same_Some _ _ (sym (ap (get (fill old.blocks id block)) e ∙ get-fill_new old.blocks id block is_new) ∙ found))) ∙ own ∙ sym e
      | inr ne ↦ know.blocks i p (sym (get-fill_new_other old.blocks id i block is_new ne) ∙ found)
    ];
    regions = know.regions;
  }

  module _ (found_ops : OpsFound D A K B S X L) (found_blocks : BlocksFound D A K B S X L)
      (op_lists : AreLists (tree_of new).ops (tree_of new).block_ends (ops_in (tree_of old)))
      (block_lists : AreLists (tree_of new).blocks (tree_of new).region_ends (blocks_in (tree_of old))) where
    new-nested : AreNested (tree_of old) → AreNested (tree_of new)
    new-nested nested = nested-still old new (ops-are old new found_ops op_lists) (blocks-are old new found_blocks block_lists) op_lists block_lists nested.parents

    new-forest : AreNested (tree_of old) → forest_in new ≡ record (forest_in old) { blocks = put same_id id (block_record [] block) (forest_in old).blocks }
    new-forest nested = λ i. record {
      ops = (forest_in old).ops;
      blocks = fun_ext at i;
      regions = λ g. option_map (λ _. blocks-are old new found_blocks block_lists i g) (get old.regions g);
    }
      where
        none : ops_in (tree_of old) id ≡ []
        none = nested.op_lists.absent id (ap (option_map block_ends) (get-new old.blocks id is_new))

        at : (b : ArenaIndex) → option_map (block_record (ops_in (tree_of new) b)) (get (fill old.blocks id block) b) ≡ put same_id id (block_record [] block) (forest_in old).blocks b
        at b = ap (λ (f : ArenaIndex → List ArenaIndex). option_map (block_record (f b)) (get (fill old.blocks id block) b)) (ops-are old new found_ops op_lists) ∙ elim (id_cases b id) [
          | inl e ↦ ap (λ z. option_map (block_record (ops_in (tree_of old) z)) (get (fill old.blocks id block) z)) e
              ∙ ap (option_map (block_record (ops_in (tree_of old) id))) (get-fill_new old.blocks id block is_new)
              ∙ ap (λ (xs : List ArenaIndex). Some (block_record xs block)) none
              ∙ sym (ap (λ q. cond q (Some (block_record [] block)) ((forest_in old).blocks b)) (ap (λ z. same_id z id) e ∙ id_same id))
          | inr ne ↦ ap (option_map (block_record (ops_in (tree_of old) b))) (get-fill_new_other old.blocks id b block is_new ne)
              ∙ sym (ap (λ q. cond q (Some (block_record [] block)) ((forest_in old).blocks b)) (id_differs b id ne))
        ]

-- the records with one bare block more
pub new-basic_block : {D A K B S X L : Type 0} (old : Records D A K B S X L) (blocks : Arena (BasicBlock D A K B S X L)) (id : ArenaIndex) (block : BasicBlock D A K B S X L)
    → IsNew old.blocks id → blocks ≡ fill old.blocks id block → OpsFound D A K B S X L → BlocksFound D A K B S X L → AreNested (tree_of old)
    → AreLists (seen op_links old.ops) (seen block_ends (fill old.blocks id block)) (ops_in (tree_of old))
    → AreLists (seen block_links (fill old.blocks id block)) (seen region_ends old.regions) (blocks_in (tree_of old))
    → block.index ≡ id → block.uses ≡ [] → All (λ (r : Definition). r.uses ≡ []) block.arguments
    → Becomes old (record old { blocks = blocks }) (record (forest_in old) { blocks = put same_id id (block_record [] block) (forest_in old).blocks })
new-basic_block {D} {A} {K} {B} {S} {X} {L} old blocks id block is_new filled found_ops found_blocks nested op_lists block_lists own uses unused =
    subst (λ (a : Arena (BasicBlock D A K B S X L)). Becomes old (record old { blocks = a }) (record (forest_in old) { blocks = put same_id id (block_record [] block) (forest_in old).blocks })) (sym filled) (record {
      forest = new-forest old id block is_new found_ops found_blocks op_lists block_lists nested;
      nested = new-nested old id block is_new found_ops found_blocks op_lists block_lists nested;
      chains = new-chains old id block is_new uses unused;
      own = new-own old id block is_new own;
    })
