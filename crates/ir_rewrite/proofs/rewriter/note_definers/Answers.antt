use Rattle.ir_rewrite.proofs.Notes.{adds_joined, adds_none}
use Rattle.ir_rewrite.proofs.rewriter.note_definers.Goals as goal

pub loop-index-init : goal.loop-index-init
loop-index-init g c = adds_none c.args.changes.now.items

pub loop-index-preserved : goal.loop-index-preserved
loop-index-preserved g c = adds_joined c.args.changes.now.items c.loop-index.changes.items c.note_touched.new.changes.items c.loop-index.invariant c.note_touched.ensures.noted

pub returns-in_err-note_touched-clause-noted : goal.returns-in_err-note_touched-clause-noted
returns-in_err-note_touched-clause-noted g c = adds_joined c.args.changes.now.items c.loop-index.changes.items c.note_touched.new.changes.items c.loop-index.invariant c.note_touched.ensures.noted
