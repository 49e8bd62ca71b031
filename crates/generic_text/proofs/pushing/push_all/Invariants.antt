use Rattle.std.proofs.Common.{◌≡◌, ◌++◌, map, reverse, take}
use Rattle.ir_text_described.specs.declared.item.Item.TheVariants as items
use Rattle.generic_text.proofs.pushing.push_all.Given as goal

abbrev pub invariant-loop-index : goal.invariant-loop-index
invariant-loop-index l = map (λ p. items.Op p.index) (take l.index l.operations) ++ reverse l.items.items ≡ map (λ p. items.Op p.index) l.operations ++ reverse l.initial.items.items
