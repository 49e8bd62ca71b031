use Rattle.std.proofs.Common.{ap, ◌∙◌, subst}
use Rattle.ir_model.specs.ContextIds.{same_id}
use Rattle.ir_model.specs.Forest.{a_block, an_op}
use Rattle.ir_model.specs.Changes.{in_regions, without}
use Rattle.ir_model.specs.Nesting.{IsLinked, itself, ops_of}
use Rattle.ir_model.proofs.TwoRuns.{lawful}
use Rattle.ir_base_arenas.specs.Arena.{get, IsLiveIn}
use Rattle.ir_core_records.specs.declared.record.Definer.TheVariants.{Block}
use Rattle.ir_core_records.specs.declared.record.ValueIndex.{ValueIndex}
use Rattle.ir_core_records.specs.declared.record.BlockIndex.{BlockIndex}
use Rattle.ir_core_records.specs.Chains.{Chains}
use Rattle.ir_core_records.specs.Meaning.{forest_in, block_record}
use Rattle.ir_core_records.specs.Tree.{tree_of, ops_in}
use Rattle.ir_core_nesting.specs.Leaves.{without_block}
use Rattle.ir_core_erasing.proofs.LeafForests.{block-free, block-removed}
use Rattle.ir_core_erasing.proofs.LeafRecords.{map-nil, unmap, stays, loses, stays-loses, stays-same, block-leaf}
use Rattle.ir_core_erasing.proofs.Users.{unnamed-value, unnamed-block}
use Rattle.ir_core_erasing.proofs.leaves.remove_block.Goals as goal

pub remove_bare_block-requires-clause-unlinked : goal.remove_bare_block-requires-clause-unlinked
remove_bare_block-requires-clause-unlinked g c =
    let f = forest_in c.args.records.now in
    λ h. block-free lawful f c.args.block (subst (λ k. IsLinked k (a_block c.args.block)) c.detach_block.ensures.forest h)

pub remove_bare_block-requires-clause-empty : goal.remove_bare_block-requires-clause-empty
remove_bare_block-requires-clause-empty g c =
    ap (λ k. ops_of k c.args.block) c.detach_block.ensures.forest ∙ map-nil an_op (ops_of (forest_in c.args.records.now) c.args.block) c.requires.leaf

pub remove_bare_block-requires-clause-unused : goal.remove_bare_block-requires-clause-unused
remove_bare_block-requires-clause-unused g c = λ number.
    let v : ValueIndex = record { definer = Block c.args.block; number = number } in
    ap (λ (k : Chains). k.uses v) c.detach_block.ensures.keeps.chains
    ∙ unnamed-value c.args.records.now c.requires.linked (a_block c.args.block) c.requires.unnamed v itself

pub remove_bare_block-requires-clause-unnamed : goal.remove_bare_block-requires-clause-unnamed
remove_bare_block-requires-clause-unnamed g c =
    let b : BlockIndex = record { index = c.args.block } in
    ap (λ (k : Chains). k.block_uses b) c.detach_block.ensures.keeps.chains
    ∙ unnamed-block c.args.records.now c.requires.linked (a_block c.args.block) c.requires.unnamed b itself

pub returns : goal.returns
returns g c =
    let old = c.args.records.now in
    let mid = c.detach_block.new.records in
    let new = c.remove_bare_block.new.records in
    let block = c.args.block in
    let d = c.detach_block.ensures in
    let r = c.remove_bare_block.ensures in
    let live : IsLiveIn mid.blocks block = (d.keeps.block_ids.live block).1 (unmap (block_record (ops_in (tree_of old) block)) (get old.blocks block) c.requires.live) in
    block-leaf old new (a_block block) (without_block (in_regions (forest_in old) (without same_id block)) block) (block-removed lawful (forest_in old) block c.requires.leaf)
    (r.forest ∙ ap (λ k. without_block k block) d.forest) r.nested (r.chains ∙ d.keeps.chains) (λ k. r.own (d.keeps.own k))
    (stays-same old.ops mid.ops new.ops (stays old.ops mid.ops d.keeps.op_ids) r.ops)
    (stays-loses old.blocks mid.blocks new.blocks (stays old.blocks mid.blocks d.keeps.block_ids) (loses mid.blocks new.blocks block live r.blocks))
    (stays-same old.regions mid.regions new.regions (stays old.regions mid.regions d.keeps.region_ids) r.regions)
