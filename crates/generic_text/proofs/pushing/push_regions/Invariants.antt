use Rattle.std.proofs.Common.{◌≡◌, ◌++◌, map, reverse, take}
use Rattle.ir_core_queries.specs.State.{forest_of}
use Rattle.ir_text_described.specs.declared.item.Item.TheVariants as items
use Rattle.ir_model.specs.Nesting.{regions_of}
use Rattle.generic_text.proofs.pushing.push_regions.Given as goal

abbrev pub invariant-loop-index : goal.invariant-loop-index
invariant-loop-index l = map items.Region (take l.index (regions_of (forest_of l.ctx) l.fn.op.index)) ++ reverse l.items.items ≡ map items.Region (regions_of (forest_of l.ctx) l.fn.op.index) ++ reverse l.initial.items.items
