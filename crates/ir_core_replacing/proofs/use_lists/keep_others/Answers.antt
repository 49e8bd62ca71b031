use Rattle.std.proofs.Common.{◌<◌, false, get_or, length, arith}
use Rattle.std.proofs.lemmas.Option.{slice_get-get_or}
use Rattle.ir_core_replacing.proofs.ListLemmas.{item-there, put-more}
use Rattle.ir_core_replacing.proofs.use_lists.keep_others.Goals as goal

pub loop-index-preserved : goal.loop-index-preserved
loop-index-preserved c =
    let size = c.loop-index.invariant.size in
    let all = c.requires in
    let test = c.loop-index-test.true in
    let within : c.loop-index.index < length c.loop-index.uses = omega (arith, size, all, test) in
    let at = item-there c.loop-index.uses c.loop-index.index within in
    put-more c.args.uses.now c.args.answers.now c.loop-index.index c.loop-index.kept c.loop-index.uses c.put_down-kept.new.uses at.0 (get_or c.args.answers.now c.loop-index.index false) c.put_down-kept.result
    c.loop-index.invariant at.1 (slice_get-get_or c.args.answers.now c.loop-index.index false c.loop-index-test.true) (c.put_down-kept.ensures.uses at.0 at.1) c.put_down-kept.ensures.kept
