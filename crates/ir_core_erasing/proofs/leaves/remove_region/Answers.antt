use Rattle.ir_model.specs.ContextIds.{same_id}
use Rattle.ir_model.specs.Forest.{a_region}
use Rattle.ir_model.specs.Changes.{without}
use Rattle.ir_model.proofs.TwoRuns.{lawful}
use Rattle.ir_base_arenas.specs.Arena.{get}
use Rattle.ir_core_records.specs.declared.record.Region.{Region}
use Rattle.ir_core_records.specs.Meaning.{forest_in}
use Rattle.ir_core_records.specs.Tree.{tree_of, blocks_in}
use Rattle.ir_core_nesting.specs.Leaves.{in_ops, without_region}
use Rattle.ir_core_erasing.proofs.Dropped.{same_ids-refl}
use Rattle.ir_core_erasing.proofs.LeafForests.{region-removed}
use Rattle.ir_core_erasing.proofs.LeafRecords.{unmap, stays, loses, stays-same, region-leaf}
use Rattle.ir_core_erasing.proofs.leaves.remove_region.Goals as goal

pub returns : goal.returns
returns g c =
    let old = c.args.records.now in
    let new = c.remove_empty_region.new.records in
    let region = c.args.region in
    let r = c.remove_empty_region.ensures in
    region-leaf old new (a_region region) (without_region (in_ops (forest_in old) (without same_id region)) region) (region-removed lawful (forest_in old) region c.requires.leaf)
    r.forest r.nested r.chains r.own
    (stays old.ops new.ops r.op_ids)
    (stays-same old.blocks old.blocks new.blocks (stays old.blocks old.blocks (same_ids-refl old.blocks)) r.blocks)
    (loses old.regions new.regions region (unmap (λ (_ : Region). blocks_in (tree_of old) region) (get old.regions region) c.requires.live) r.regions)
