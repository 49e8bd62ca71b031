use Rattle.std.proofs.Common.{◌∷◌, ◌++◌, ◌∙◌, ap, map, reverse, subst}
use Rattle.ir_core_queries.specs.State.{forest_of}
use Rattle.ir_model.specs.Nesting.{blocks_of}
use Rattle.ir_text_described.specs.declared.item.Item.TheVariants as items
use Rattle.ir_text_described.specs.Written.{AreWritten}
use Rattle.generic_text.specs.Checks.{setting_of}
use Rattle.generic_text.proofs.Lists.{pushed_first}
use Rattle.generic_text.proofs.Steps.{read_region, read_plain}
use Rattle.generic_text.proofs.walk.read_region.Goals as goal

pub returns-in_ok-read_plain : goal.returns-in_ok-read_plain
returns-in_ok-read_plain c = λ written.
    let s = setting_of c.args.check.now in
    let f = forest_of c.args.check.now.ctx.now in
    let g = c.from_index-handle.result.index in
    let rest = reverse c.args.items.now.items in
    let closed = pushed_first _ _ items.Close c.in_ok-push.ensures.items in
    let pushed = c.in_ok-push_blocks.ensures ∙ ap (λ xs. map items.Block (blocks_of f g) ++ xs) closed in
    let p = c.in_ok-read_plain.ensures in
    subst (λ i. AreWritten s (items.Region i ∷ rest) c.args.at) c.from_index-handle.ensures (read_plain s g p.0 _ _ p.1 rest c.args.at c.in_ok-next.next c.in_ok-expect_part.ensures c.in_ok-next.ensures pushed p.2 p.3 p.4 written)

pub returns-else-begins_operation : goal.returns-else-begins_operation
returns-else-begins_operation c = λ written.
    let s = setting_of c.args.check.now in
    let g = c.from_index-handle.result.index in
    let rest = reverse c.args.items.now.items in
    let closed = pushed_first _ _ items.Close c.in_ok-push.ensures.items in
    subst (λ i. AreWritten s (items.Region i ∷ rest) c.args.at) c.from_index-handle.ensures (read_region s g _ _ rest c.args.at c.in_ok-next.next c.in_ok-expect_part.ensures c.in_ok-next.ensures c.in_ok-push_blocks.ensures closed written)
