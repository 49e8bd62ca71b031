use Rattle.std.proofs.Common.{◌≡◌, ◌++◌, map, reverse}
use Rattle.ir_core_queries.specs.State.{forest_of}
use Rattle.ir_text_described.specs.declared.item.Item.TheVariants as items
use Rattle.std.specs.Iterator.Adapters.{rev_source}
use Rattle.ir_model.specs.Nesting.{blocks_of}
use Rattle.generic_text.proofs.pushing.push_blocks.Given as goal

abbrev pub invariant-loop-block : goal.invariant-loop-block
invariant-loop-block l = goal.iterator-loop-block.can_next l.block-iterator × goal.iterator-loop-block.is_finite l.block-iterator × (map items.Block (rev_source l.block-iterator) ++ reverse l.items.items ≡ map items.Block (blocks_of (forest_of l.ctx) l.fn.region.index) ++ reverse l.initial.items.items)
