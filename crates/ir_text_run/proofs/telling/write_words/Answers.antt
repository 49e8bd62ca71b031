use Rattle.std.proofs.Common.{rules}
use Rattle.ir_text_run.specs.Telling.{AreWordsOf}
use Rattle.ir_text_run.proofs.telling.write_words.Goals as goal

pub returns-in-OutOfMemory : goal.returns-in-OutOfMemory
returns-in-OutOfMemory g c = let are : AreWordsOf c.args.error c.as_bytes.result.now = search rules in (c.as_bytes.result.now, are, c.write_bytes.ensures)

pub returns-in-Unreadable : goal.returns-in-Unreadable
returns-in-Unreadable g c = let are : AreWordsOf c.args.error c.as_bytes-in-Unreadable.result.now = search rules in (c.as_bytes-in-Unreadable.result.now, are, c.write_bytes-in-Unreadable.ensures)

pub returns-in-Unwritable : goal.returns-in-Unwritable
returns-in-Unwritable g c = let are : AreWordsOf c.args.error c.as_bytes-in-Unwritable.result.now = search rules in (c.as_bytes-in-Unwritable.result.now, are, c.write_bytes-in-Unwritable.ensures)
