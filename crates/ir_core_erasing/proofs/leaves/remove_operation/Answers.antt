use Rattle.std.proofs.Common.{ap, ◌∙◌, subst}
use Rattle.ir_model.specs.ContextIds.{same_id}
use Rattle.ir_model.specs.Forest.{an_op, a_region}
use Rattle.ir_model.specs.Changes.{in_blocks, without}
use Rattle.ir_model.specs.Nesting.{IsLinked, itself, operands_of, regions_of, successors_of}
use Rattle.ir_model.proofs.TwoRuns.{lawful}
use Rattle.ir_base_arenas.specs.Arena.{get, IsLiveIn}
use Rattle.ir_core_records.specs.declared.record.Definer.TheVariants.{Op}
use Rattle.ir_core_records.specs.declared.record.ValueIndex.{ValueIndex}
use Rattle.ir_core_records.specs.Chains.{Chains}
use Rattle.ir_core_records.specs.Meaning.{forest_in, op_record}
use Rattle.ir_core_nesting.specs.Leaves.{without_op}
use Rattle.ir_core_erasing.proofs.LeafForests.{op-free, op-removed}
use Rattle.ir_core_erasing.proofs.LeafRecords.{map-nil, unmap, stays, loses, stays-loses, stays-same, op-leaf}
use Rattle.ir_core_erasing.proofs.Users.{unnamed-value}
use Rattle.ir_core_erasing.proofs.leaves.remove_operation.Goals as goal

pub remove_bare_operation-requires-clause-unlinked : goal.remove_bare_operation-requires-clause-unlinked
remove_bare_operation-requires-clause-unlinked g c =
    let f = forest_in c.args.records.now in
    λ h. op-free lawful f c.args.op (subst (λ k. IsLinked k (an_op c.args.op)) c.detach_operation.ensures.forest h)

pub remove_bare_operation-requires-clause-regions : goal.remove_bare_operation-requires-clause-regions
remove_bare_operation-requires-clause-regions g c =
    ap (λ k. regions_of k c.args.op) c.detach_operation.ensures.forest ∙ map-nil a_region (regions_of (forest_in c.args.records.now) c.args.op) c.requires.leaf

pub remove_bare_operation-requires-clause-operands : goal.remove_bare_operation-requires-clause-operands
remove_bare_operation-requires-clause-operands g c = ap (λ k. operands_of k c.args.op) c.detach_operation.ensures.forest ∙ (c.requires.bare c.args.op itself).0

pub remove_bare_operation-requires-clause-successors : goal.remove_bare_operation-requires-clause-successors
remove_bare_operation-requires-clause-successors g c = ap (λ k. successors_of k c.args.op) c.detach_operation.ensures.forest ∙ (c.requires.bare c.args.op itself).1

pub remove_bare_operation-requires-clause-unused : goal.remove_bare_operation-requires-clause-unused
remove_bare_operation-requires-clause-unused g c = λ number.
    let v : ValueIndex = record { definer = Op c.args.op; number = number } in
    ap (λ (k : Chains). k.uses v) c.detach_operation.ensures.keeps.chains
    ∙ unnamed-value c.args.records.now c.requires.linked (an_op c.args.op) c.requires.unnamed v itself

pub returns : goal.returns
returns g c =
    let old = c.args.records.now in
    let mid = c.detach_operation.new.records in
    let new = c.remove_bare_operation.new.records in
    let op = c.args.op in
    let d = c.detach_operation.ensures in
    let r = c.remove_bare_operation.ensures in
    let live : IsLiveIn mid.ops op = (d.keeps.op_ids.live op).1 (unmap op_record (get old.ops op) c.requires.live) in
    op-leaf old new (an_op op) (without_op (in_blocks (forest_in old) (without same_id op)) op) (op-removed lawful (forest_in old) op c.requires.leaf)
    (r.forest ∙ ap (λ k. without_op k op) d.forest) r.nested (r.chains ∙ d.keeps.chains) (λ k. r.own (d.keeps.own k))
    (stays-loses old.ops mid.ops new.ops (stays old.ops mid.ops d.keeps.op_ids) (loses mid.ops new.ops op live r.ops))
    (stays-same old.blocks mid.blocks new.blocks (stays old.blocks mid.blocks d.keeps.block_ids) r.blocks)
    (stays-same old.regions mid.regions new.regions (stays old.regions mid.regions d.keeps.region_ids) r.regions)
