use Rattle.std.proofs.lemmas.Slice.Zip.{either_empty_from_Zip}
use Rattle.toy_script_text.proofs.AnswerLines.{ended}
use Rattle.toy_script_text.proofs.script_print.write_answers.Goals as goal

-- src/script_print.rt:67:1
pub returns : goal.returns
returns c = record { lines = ended _ _ _ _ c.loop-letter.invariant (either_empty_from_Zip c.loop-letter.letter-iterator c.next.new.self c.next.result c.in-None.is c.next.ensures.steps) }
