use Rattle.ir_rewrite.proofs.Notes.{adds_none, adds_one, adds_same}
use Rattle.ir_rewrite.proofs.rewriter.note_touched.Goals as goal

pub returns-in_ok-push-in-Some-clause-noted : goal.returns-in_ok-push-in-Some-clause-noted
returns-in_ok-push-in-Some-clause-noted g c = adds_one c.args.changes.now.items _ _ c.in_ok-push-in-Some.ensures.items

pub returns-in_err-push-in-Some-clause-noted : goal.returns-in_err-push-in-Some-clause-noted
returns-in_err-push-in-Some-clause-noted g c = adds_same c.args.changes.now.items _ c.in_err-push-in-Some.ensures.items

pub returns-in-None-clause-noted : goal.returns-in-None-clause-noted
returns-in-None-clause-noted g c = adds_none c.args.changes.now.items
