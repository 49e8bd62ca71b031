use Rattle.std.proofs.Common.{◌∷◌, ◌∙◌, ap, reverse, subst, sym}
use Rattle.ir_text_described.specs.declared.item.Item.TheVariants as items
use Rattle.ir_text_described.specs.Written.{AreWritten}
use Rattle.generic_text.specs.Checks.{setting_of}
use Rattle.generic_text.proofs.Lists.{pushed_first}
use Rattle.generic_text.proofs.Steps.{read_operation}
use Rattle.generic_text.proofs.walk.read_op.Goals as goal

pub returns : goal.returns
returns c = λ written.
    let s = setting_of c.args.check.now in
    let o = c.from_index-handle.result.index in
    let rest = reverse c.args.items.now.items in
    let behind = pushed_first _ _ (items.Tail c.args.op) c.in_ok-push.ensures.items ∙ ap (λ i. items.Tail i ∷ rest) (sym c.from_index-handle.ensures) in
    subst (λ i. AreWritten s (items.Op i ∷ rest) c.args.at) c.from_index-handle.ensures (read_operation s o _ _ rest c.args.at c.in_ok-next.next c.in_ok-next.ensures c.in_ok-push_regions.ensures behind written)
