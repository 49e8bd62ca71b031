use Rattle.std.proofs.Common.{◌≡◌, true, not, is_ok, ap, ◌∙◌}
use Rattle.ir_core_replacing.proofs.ListLemmas.{append-more}
use Rattle.ir_core_replacing.proofs.use_lists.append_chosen.Goals as goal

pub loop-index-preserved : goal.loop-index-preserved
loop-index-preserved c =
    let done : is_ok c.push_if.result ≡ true = c.is_err.ensures.negation ∙ ap not c.if-is_err.false in
    let pushed = rw (done, c.index-from-index.is) at c.push_if.ensures in
    append-more c.args.from.now c.args.answers.now c.loop-index.index _ c.args.uses.now c.loop-index.uses c.push_if.new.uses c.requires c.loop-index-test.true c.loop-index.invariant pushed
