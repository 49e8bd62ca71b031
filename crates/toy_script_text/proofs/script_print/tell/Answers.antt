use Rattle.std.proofs.Common.{rules}
use Rattle.toy_script_text.proofs.Telling.{tells, something}
use Rattle.toy_script_text.proofs.script_print.tell.Goals as goal

-- src/script_print.rt:105:1
pub returns-in-OutOfMemory : goal.returns-in-OutOfMemory
returns-in-OutOfMemory g c = record { told = tells g.F.Write.contents _ _ c.writeln.result c.args.outcome c.in-Err.error c.in-Err.is (search rules) c.writeln.ensures.bytes; silent = λ none. absurd (something c.args.outcome c.in-Err.error c.in-Err.is (search rules) none) }
