use Rattle.std.proofs.Common.{◌≡◌, ◌++◌, map, reverse}
use Rattle.ir_core_queries.specs.State.{forest_of}
use Rattle.ir_text_described.specs.declared.item.Item.TheVariants as items
use Rattle.std.specs.Iterator.Adapters.{rev_source}
use Rattle.ir_model.specs.Nesting.{ops_of}
use Rattle.generic_text.proofs.pushing.push_ops.Given as goal

abbrev pub invariant-loop-op : goal.invariant-loop-op
invariant-loop-op l = goal.iterator-loop-op.can_next l.op-iterator × goal.iterator-loop-op.is_finite l.op-iterator × (map items.Op (rev_source l.op-iterator) ++ reverse l.items.items ≡ map items.Op (ops_of (forest_of l.ctx) l.fn.block.index) ++ reverse l.initial.items.items)
