use Rattle.std.proofs.Common.{sym, subst}
use Rattle.ir_model.specs.Ids.{Distinct}
use Rattle.ir_core_erasing.proofs.Siblings.{regions-once}
use Rattle.ir_core_erasing.proofs.walk.previous_in_record.Goals as goal

pub item_before-requires : goal.item_before-requires
item_before-requires g c =
    subst Distinct (sym c.as_slice.ensures) (regions-once c.args.records.now c.from_index-in-Region-2.result.index c.in_ok-regions-in-Region.field-0.now c.in_ok-regions-in-Region.ensures c.requires)
