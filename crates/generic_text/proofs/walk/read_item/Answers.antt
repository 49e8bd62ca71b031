use Rattle.std.proofs.Common.{◌∷◌, reverse, subst, sym}
use Rattle.ir_text_described.specs.Written.{AreWritten, tail}
use Rattle.generic_text.specs.Checks.{setting_of}
use Rattle.generic_text.proofs.Lists.{if_ok}
use Rattle.generic_text.proofs.Steps.{read_close}
use Rattle.generic_text.proofs.walk.read_item.Goals as goal

pub returns-in-Tail : goal.returns-in-Tail
returns-in-Tail c =
    let s = setting_of c.args.check.now in
    if_ok c.read_op_tail.result (λ next t written. subst (λ i. AreWritten s (i ∷ reverse c.args.items.now.items) c.args.at) (sym c.in-Tail.is) (tail t written)) c.read_op_tail.ensures

pub returns-in-Close : goal.returns-in-Close
returns-in-Close c =
    let s = setting_of c.args.check.now in
    if_ok c.read_close.result (λ next e written. subst (λ i. AreWritten s (i ∷ reverse c.args.items.now.items) c.args.at) (sym c.in-Close.is) (read_close s (reverse c.args.items.now.items) c.args.at next e.0 e.1 written)) c.read_close.ensures
