use Rattle.std.proofs.Common.{◌≡◌, ◌++◌, string_bytes}
use Rattle.std.specs.Slice.Iter.{iter_rest}
use Rattle.std.specs.Iterator.Adapters.{zip_first, zip_second}
use Rattle.toy_script_text.specs.Lines.{answer_lines}
use Rattle.toy_script_text.proofs.script_print.write_answers.Given as goal

-- the text so far and the lines of the answers that are left are the text at first and the lines of all answers
abbrev pub invariant-loop-letter : goal.invariant-loop-letter
invariant-loop-letter l =
    string_bytes l.text ++ answer_lines (iter_rest (zip_first l.letter-iterator)) (iter_rest (zip_second l.letter-iterator)) ≡ string_bytes l.fn.text ++ answer_lines l.letters l.answers
