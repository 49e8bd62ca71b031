use Rattle.ir_rewrite.proofs.Notes.{adds_joined, adds_none}
use Rattle.ir_rewrite.proofs.rewriter.note_users.Goals as goal

pub loop-used-init : goal.loop-used-init
loop-used-init g c = (tt, tt, adds_none c.args.changes.now.items)

pub loop-used-preserved : goal.loop-used-preserved
loop-used-preserved g c = (tt, tt, adds_joined c.args.changes.now.items c.loop-used.changes.items c.note_touched.new.changes.items c.loop-used.invariant.2 c.note_touched.ensures.noted)

pub returns-in_err-note_touched-clause-noted : goal.returns-in_err-note_touched-clause-noted
returns-in_err-note_touched-clause-noted g c = adds_joined c.args.changes.now.items c.loop-used.changes.items c.note_touched.new.changes.items c.loop-used.invariant.2 c.note_touched.ensures.noted
