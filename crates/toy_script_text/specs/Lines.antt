-- The lines that a script's answers print.
use Rattle.std.specs.Prelude.{ℕ, List, [], ◌∷◌, ◌++◌, codes, decimal}
use Rattle.ir_model.specs.declared.answer.Answer.{Answer}
use Rattle.ir_model.specs.declared.answer.Answer.TheVariants.{Made, Done, Refused as RefusedFor}
use Rattle.ir_model.specs.declared.answer.Refused.{Refused}
use Rattle.ir_model.specs.declared.answer.Refused.TheVariants.{Condition, Memory, Counter, Slots}
use Rattle.toy_script_text.specs.declared.script_parse.Letter.{Letter}
use Rattle.toy_script_text.specs.declared.script_parse.Letter.TheVariants.{«Type», Operation, Block, Region, Value}

-- what a refused edit prints
abbrev pub refusal_line : Refused → List ℕ
refusal_line Condition = codes "refused condition\n"
refusal_line Memory = codes "refused memory\n"
refusal_line Counter = codes "refused counter\n"
refusal_line Slots = codes "refused slots\n"

-- the letter of a name
abbrev pub letter_text : Letter → List ℕ
letter_text «Type» = codes "t"
letter_text Operation = codes "o"
letter_text Block = codes "b"
letter_text Region = codes "r"
letter_text Value = codes "v"

-- the line of an answer; the letter says what its edit makes
abbrev pub answer_line : Letter → Answer → List ℕ
answer_line letter (Made number) = codes "made " ++ letter_text letter ++ decimal number ++ codes "\n"
answer_line letter Done = codes "ok\n"
answer_line letter (RefusedFor cause) = refusal_line cause

-- the lines of answers, one for each that has a letter
abbrev pub answer_lines : List Letter → List Answer → List ℕ
answer_lines [] answers = []
answer_lines (letter ∷ letters) [] = []
answer_lines (letter ∷ letters) (answer ∷ answers) = answer_line letter answer ++ answer_lines letters answers
