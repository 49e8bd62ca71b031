-- What stands between two parts of a tree.
use Rattle.std.specs.Prelude.{ℕ, zero, suc, ◌*◌, ◌++◌, Bool, true, false, if◌then◌else◌, List, [], replicate, Option, Some, None, codes}
use Rattle.ir_text_tree.specs.declared.row.Part.{Part}
use Rattle.ir_text_tree.specs.declared.row.Part.TheVariants as parts

-- a result, or a number of results under its name
abbrev pub is_result : Part → Bool
is_result parts.Result = true
is_result parts.Count = true
is_result _ = false

-- a successor
abbrev pub is_successor : Part → Bool
is_successor parts.Successor = true
is_successor _ = false

-- the end of a region
abbrev pub is_close : Part → Bool
is_close parts.Close = true
is_close _ = false

-- a key, or its value
abbrev pub is_entry : Part → Bool
is_entry parts.Key = true
is_entry parts.Value = true
is_entry _ = false

-- the type of an operand
abbrev pub is_operand_type : Part → Bool
is_operand_type parts.OperandType = true
is_operand_type _ = false

-- the type of a result, in parentheses
abbrev pub is_result_type : Part → Bool
is_result_type parts.ResultType = true
is_result_type _ = false

-- a part goes on with the list of the part before it, or belongs to it
abbrev pub is_joined : Part → Part → Bool
is_joined last parts.Result = is_result last
is_joined last parts.Name = is_result last
is_joined last parts.Successor = is_successor last
is_joined last parts.Open = is_close last
is_joined last parts.Key = is_entry last
is_joined last parts.OperandType = is_operand_type last
is_joined last parts.ResultType = is_result_type last
is_joined last parts.OnlyResultType = false
is_joined last parts.Properties = false
is_joined last parts.Close = false
is_joined last parts.Location = false
is_joined last parts.Label = false
is_joined last _ = true

-- before an operand
abbrev pub to_operand : Part → List ℕ
to_operand parts.Name = codes "("
to_operand _ = codes ", "

-- before an argument of a block
abbrev pub to_argument : Part → List ℕ
to_argument parts.Label = codes "("
to_argument parts.ArgumentLocation = codes "), "
to_argument _ = codes ", "

-- what stands between a part and one that goes on with its list or belongs to it
abbrev pub joint : Part → Part → List ℕ
joint last parts.Name = codes " = "
joint last parts.Value = codes " = "
joint last parts.Count = codes ":"
joint last parts.Index = codes ""
joint last parts.ArgumentType = codes ": "
joint last parts.ArgumentLocation = codes " loc("
joint last parts.Operand = to_operand last
joint last parts.Argument = to_argument last
joint last _ = codes ", "

-- what closes the list of which this part is the last
abbrev pub closing : Part → List ℕ
closing parts.Name = codes "()"
closing parts.Operand = codes ")"
closing parts.Index = codes ")"
closing parts.Successor = codes "]"
closing parts.Close = codes ")"
closing parts.Key = codes "}"
closing parts.Value = codes "}"
closing parts.OperandType = codes ")"
closing parts.ResultType = codes ")"
closing parts.Location = codes ")"
closing parts.ArgumentType = codes ")"
closing parts.ArgumentLocation = codes "))"
closing _ = codes ""

-- from there to the types of the results, in parentheses: with no operand types, if there were none
abbrev pub to_results : Part → List ℕ
to_results parts.OperandType = codes " -> ("
to_results _ = codes " : () -> ("

-- from there to the type of the only result, in no parentheses
abbrev pub to_only_result : Part → List ℕ
to_only_result parts.OperandType = codes " -> "
to_only_result _ = codes " : () -> "

-- from there to the location: with no types, if there were none
abbrev pub to_location : Part → List ℕ
to_location parts.ResultType = codes " loc("
to_location parts.OnlyResultType = codes " loc("
to_location parts.OperandType = codes " -> () loc("
to_location _ = codes " : () -> () loc("

-- from there to the end of the line
abbrev pub to_line_end : Part → List ℕ
to_line_end parts.Open = codes "\n"
to_line_end parts.Label = codes ":\n"
to_line_end parts.ArgumentType = codes ":\n"
to_line_end parts.ArgumentLocation = codes ":\n"
to_line_end parts.Location = codes "\n"
to_line_end parts.ResultType = codes "\n"
to_line_end parts.OnlyResultType = codes "\n"
to_line_end parts.OperandType = codes " -> ()\n"
to_line_end _ = codes " : () -> ()\n"

-- from there to the first part of another list, or to the next line
abbrev pub opening : Part → Part → List ℕ
opening last parts.Successor = codes "["
opening last parts.Properties = codes " "
opening last parts.Open = codes " ("
opening last parts.Key = codes " {"
opening last parts.OperandType = codes " : ("
opening last parts.ResultType = to_results last
opening last parts.OnlyResultType = to_only_result last
opening last parts.Location = to_location last
opening last _ = to_line_end last

-- how many regions stand around the innermost of so many
abbrev pub around : ℕ → ℕ
around zero = zero
around (suc d) = d

-- how many regions are open behind a part
abbrev pub depth_behind : Part → ℕ → ℕ
depth_behind parts.Open d = suc d
depth_behind parts.Close d = around d
depth_behind _ d = d

-- By how many levels a part is indented that begins a line, in so many open regions: an operation by all of them; a block's head and the end of a region as the operation that has the region. The others begin no line.
abbrev pub levels : ℕ → Part → ℕ
levels d parts.Result = d
levels d parts.Name = d
levels d parts.Label = around d
levels d parts.Close = around d
levels d _ = zero

-- two blanks for each level
abbrev pub blanks : ℕ → List ℕ
blanks n = replicate (2 * n) 32

-- what stands between two parts that follow each other, in so many open regions
abbrev pub between : ℕ → Part → Part → List ℕ
between d last next = if is_joined last next then joint last next else (closing last ++ (opening last next ++ blanks (levels d next)))

-- what stands before a part: before the first nothing
abbrev pub before : ℕ → Option Part → Part → List ℕ
before d None next = []
before d (Some last) next = between d last next

-- what stands behind the last part
abbrev pub ending : Option Part → List ℕ
ending None = []
ending (Some last) = closing last ++ to_line_end last
