use Rattle.std.proofs.Common.{◌∷◌, reverse, subst}
use Rattle.ir_text_described.specs.declared.item.Item.TheVariants as items
use Rattle.ir_text_described.specs.Written.{AreWritten}
use Rattle.generic_text.specs.Checks.{setting_of}
use Rattle.generic_text.proofs.Steps.{read_block}
use Rattle.generic_text.proofs.walk.read_block.Goals as goal

pub returns : goal.returns
returns c = λ written.
    let s = setting_of c.args.check.now in
    let b = c.from_index-handle.result.index in
    let rest = reverse c.args.items.now.items in
    subst (λ i. AreWritten s (items.Block i ∷ rest) c.args.at) c.from_index-handle.ensures (read_block s b _ rest c.args.at c.in_ok-next.next c.in_ok-next.ensures c.in_ok-push_ops.ensures written)
