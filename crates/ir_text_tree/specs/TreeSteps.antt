-- What a token does to the reader: the table of the tree.
use Rattle.std.specs.Prelude.{Bool, true, false, Option, Some, None}
use Rattle.ir_text_tree.specs.declared.text_step.Bracket.{Bracket}
use Rattle.ir_text_tree.specs.declared.row.Part.{Part}
use Rattle.ir_text_tree.specs.declared.row.Part.TheVariants as parts
use Rattle.ir_text_tree.specs.declared.sort.Sort.{Sort}
use Rattle.ir_text_tree.specs.declared.sort.Sort.TheVariants as s
use Rattle.ir_text_tree.specs.declared.text_step.TextKind.{TextKind}
use Rattle.ir_text_tree.specs.declared.text_step.TextKind.TheVariants as kinds
use Rattle.ir_text_tree.specs.declared.text_step.Nesting.{Nesting}
use Rattle.ir_text_tree.specs.declared.text_step.Nesting.TheVariants as nesting
use Rattle.ir_text_tree.specs.declared.tree_step.ResultsMode.{ResultsMode}
use Rattle.ir_text_tree.specs.declared.tree_step.ResultsMode.TheVariants as results
use Rattle.ir_text_tree.specs.declared.tree_step.OperandsMode.{OperandsMode}
use Rattle.ir_text_tree.specs.declared.tree_step.OperandsMode.TheVariants as operands
use Rattle.ir_text_tree.specs.declared.tree_step.PartsMode.{PartsMode}
use Rattle.ir_text_tree.specs.declared.tree_step.PartsMode.TheVariants as pieces
use Rattle.ir_text_tree.specs.declared.tree_step.EntriesMode.{EntriesMode}
use Rattle.ir_text_tree.specs.declared.tree_step.EntriesMode.TheVariants as entries
use Rattle.ir_text_tree.specs.declared.tree_step.TypesMode.{TypesMode}
use Rattle.ir_text_tree.specs.declared.tree_step.TypesMode.TheVariants as types
use Rattle.ir_text_tree.specs.declared.tree_step.LabelMode.{LabelMode}
use Rattle.ir_text_tree.specs.declared.tree_step.LabelMode.TheVariants as label
use Rattle.ir_text_tree.specs.declared.tree_step.Mode.{Mode}
use Rattle.ir_text_tree.specs.declared.tree_step.Mode.TheVariants as mode
use Rattle.ir_text_tree.specs.declared.tree_step.Action.TheVariants as action
use Rattle.ir_text_tree.specs.declared.tree_step.Step.{Step}
use Rattle.ir_text_tree.specs.declared.tree_step.Step.TheVariants.{Go, Bad}
use Rattle.ir_text_tree.specs.declared.fault.Wanted.{Wanted}
use Rattle.ir_text_tree.specs.declared.fault.Wanted.TheVariants as want
use Rattle.ir_text_tree.specs.TextSteps.{takes, part_of_text}

-- the token separates
abbrev pub skip : Mode → Step
skip to = Go None action.Skip to

-- the token is a part
abbrev pub put : Part → Mode → Step
put part to = Go None (action.Put part) to

-- in the results of an operation
abbrev pub results_step : ResultsMode → Sort → Step
results_step results.Behind s.Colon = skip (mode.Results results.Count)
results_step results.Behind s.Comma = skip (mode.Results results.Next)
results_step results.Behind s.Equals = skip (mode.Results results.Name)
results_step results.Count s.Word = put parts.Count (mode.Results results.Counted)
results_step results.Counted s.Comma = skip (mode.Results results.Next)
results_step results.Counted s.Equals = skip (mode.Results results.Name)
results_step results.Next s.Value = put parts.Result (mode.Results results.Behind)
results_step results.Name s.Quoted = put parts.Name (mode.Operands operands.Open)
results_step _ _ = Bad

-- in its operands
abbrev pub operands_step : OperandsMode → Sort → Step
operands_step operands.Open s.OpenRound = skip (mode.Operands operands.First)
operands_step operands.First s.Value = put parts.Operand (mode.Operands operands.Behind)
operands_step operands.First s.CloseRound = skip (mode.Parts pieces.Operands)
operands_step operands.Behind s.Attribute = put parts.Index (mode.Operands operands.Indexed)
operands_step operands.Behind s.Comma = skip (mode.Operands operands.Next)
operands_step operands.Behind s.CloseRound = skip (mode.Parts pieces.Operands)
operands_step operands.Indexed s.Comma = skip (mode.Operands operands.Next)
operands_step operands.Indexed s.CloseRound = skip (mode.Parts pieces.Operands)
operands_step operands.Next s.Value = put parts.Operand (mode.Operands operands.Behind)
operands_step _ _ = Bad

-- between its operands and its attributes
abbrev pub parts_step : PartsMode → Sort → Step
parts_step pieces.Operands s.OpenSquare = skip (mode.Parts pieces.NextSuccessor)
parts_step pieces.Operands s.Group = put parts.Properties (mode.Parts pieces.Properties)
parts_step pieces.Operands s.OpenRound = skip (mode.Parts pieces.NextRegion)
parts_step pieces.Operands s.OpenCurly = skip (mode.Entries entries.First)
parts_step pieces.Operands s.Colon = skip (mode.Types types.Open)
parts_step pieces.NextSuccessor s.Block = put parts.Successor (mode.Parts pieces.Successor)
parts_step pieces.Successor s.Comma = skip (mode.Parts pieces.NextSuccessor)
parts_step pieces.Successor s.CloseSquare = skip (mode.Parts pieces.Successors)
parts_step pieces.Successors s.Group = put parts.Properties (mode.Parts pieces.Properties)
parts_step pieces.Successors s.OpenRound = skip (mode.Parts pieces.NextRegion)
parts_step pieces.Successors s.OpenCurly = skip (mode.Entries entries.First)
parts_step pieces.Successors s.Colon = skip (mode.Types types.Open)
parts_step pieces.Properties s.OpenRound = skip (mode.Parts pieces.NextRegion)
parts_step pieces.Properties s.OpenCurly = skip (mode.Entries entries.First)
parts_step pieces.Properties s.Colon = skip (mode.Types types.Open)
parts_step pieces.NextRegion s.OpenCurly = Go None action.Open mode.Body
parts_step pieces.Region s.Comma = skip (mode.Parts pieces.NextRegion)
parts_step pieces.Region s.CloseRound = skip (mode.Parts pieces.Regions)
parts_step pieces.Regions s.OpenCurly = skip (mode.Entries entries.First)
parts_step pieces.Regions s.Colon = skip (mode.Types types.Open)
parts_step _ _ = Bad

-- in its attributes
abbrev pub entries_step : EntriesMode → Sort → Step
entries_step entries.First s.Word = put parts.Key (mode.Entries entries.Key)
entries_step entries.First s.Loc = put parts.Key (mode.Entries entries.Key)
entries_step entries.First s.Quoted = put parts.Key (mode.Entries entries.Key)
entries_step entries.First s.CloseCurly = skip (mode.Entries entries.Colon)
entries_step entries.Next s.Word = put parts.Key (mode.Entries entries.Key)
entries_step entries.Next s.Loc = put parts.Key (mode.Entries entries.Key)
entries_step entries.Next s.Quoted = put parts.Key (mode.Entries entries.Key)
entries_step entries.Key s.Equals = skip (mode.Next kinds.Value)
entries_step entries.Key s.Comma = skip (mode.Entries entries.Next)
entries_step entries.Key s.CloseCurly = skip (mode.Entries entries.Colon)
entries_step entries.Colon s.Colon = skip (mode.Types types.Open)
entries_step _ _ = Bad

-- in the head of a block
abbrev pub label_step : LabelMode → Sort → Step
label_step label.Behind s.OpenRound = skip (mode.Label label.First)
label_step label.Behind s.Colon = skip mode.Body
label_step label.First s.Value = put parts.Argument (mode.Label label.Argument)
label_step label.First s.CloseRound = skip (mode.Label label.End)
label_step label.Next s.Value = put parts.Argument (mode.Label label.Argument)
label_step label.Argument s.Colon = skip (mode.Next kinds.ArgumentType)
label_step label.Location s.OpenRound = skip (mode.Next kinds.ArgumentLocation)
label_step label.Located s.Comma = skip (mode.Label label.Next)
label_step label.Located s.CloseRound = skip (mode.Label label.End)
label_step label.End s.Colon = skip mode.Body
label_step _ _ = Bad

-- the first token of a text, with these brackets
abbrev pub begun : TextKind → Option Nesting → Step
begun k (Some n) = Go None (action.Start n) (mode.Text k)
begun k None = Bad

-- the first token of a text
abbrev pub begin_text : TextKind → Sort → Step
begin_text k x = begun k (takes k None x)

-- in the types of an operation
abbrev pub types_step : TypesMode → Sort → Step
types_step types.Open s.OpenRound = skip (mode.Types types.FirstOperand)
types_step types.FirstOperand s.CloseRound = skip (mode.Types types.Arrow)
types_step types.FirstOperand x = begin_text kinds.OperandType x
types_step types.Arrow s.Arrow = skip (mode.Types types.Results)
types_step types.Results s.OpenRound = skip (mode.Types types.FirstResult)
types_step types.Results s.Word = Go None (action.Start nesting.Kept) mode.Bare
types_step types.Results s.Type = Go None (action.Start nesting.Kept) mode.Bare
types_step types.FirstResult s.CloseRound = skip mode.After
types_step types.FirstResult x = begin_text kinds.ResultType x
types_step types.Location s.OpenRound = skip (mode.Next kinds.Location)
types_step _ _ = Bad

-- behind a token that ends a text
abbrev pub stops_outside : TextKind → Sort → Option Mode
stops_outside kinds.Value s.Comma = Some (mode.Entries entries.Next)
stops_outside kinds.Value s.CloseCurly = Some (mode.Entries entries.Colon)
stops_outside kinds.OperandType s.Comma = Some (mode.Next kinds.OperandType)
stops_outside kinds.OperandType s.CloseRound = Some (mode.Types types.Arrow)
stops_outside kinds.ResultType s.Comma = Some (mode.Next kinds.ResultType)
stops_outside kinds.ResultType s.CloseRound = Some mode.After
stops_outside kinds.Location s.CloseRound = Some mode.Body
stops_outside kinds.ArgumentType s.Comma = Some (mode.Label label.Next)
stops_outside kinds.ArgumentType s.CloseRound = Some (mode.Label label.End)
stops_outside kinds.ArgumentType s.Loc = Some (mode.Label label.Location)
stops_outside kinds.ArgumentLocation s.CloseRound = Some (mode.Label label.Located)
stops_outside _ _ = None

-- the same, where this is the last open bracket of the text
abbrev pub stops : TextKind → Option Bracket → Sort → Option Mode
stops k None x = stops_outside k x
stops k (Some b) x = None

-- a token that is no part of the text before it
abbrev pub text_end : TextKind → Option Mode → Step
text_end k (Some to) = Go (Some (part_of_text k)) action.Skip to
text_end k None = Bad

-- a token that is a part of the text, or none
abbrev pub taken : TextKind → Option Nesting → Step → Step
taken k (Some n) other = Go None (action.Extend n) (mode.Text k)
taken k None other = other

-- in a text, where this is the last open bracket
abbrev pub text_step : TextKind → Option Bracket → Sort → Step
text_step k last x = taken k (takes k last x) (text_end k (stops k last x))

-- where operations begin, and in a region blocks
abbrev pub body_step : Bool → Sort → Step
body_step inside s.Value = put parts.Result (mode.Results results.Behind)
body_step inside s.Quoted = put parts.Name (mode.Operands operands.Open)
body_step true s.Block = put parts.Label (mode.Label label.Behind)
body_step true s.CloseCurly = Go None action.Close (mode.Parts pieces.Region)
body_step _ _ = Bad

-- behind an operation
abbrev pub after_step : Bool → Sort → Step
after_step inside s.Loc = skip (mode.Types types.Location)
after_step inside x = body_step inside x

-- the same, where a type ends before it
abbrev pub behind_type : Step → Step
behind_type (Go ended a to) = Go (Some parts.OnlyResultType) a to
behind_type Bad = Bad

-- behind a type in no parentheses
abbrev pub bare_step : Bool → Sort → Step
bare_step inside s.Group = Go None (action.Join parts.OnlyResultType) mode.After
bare_step inside x = behind_type (after_step inside x)

-- what a token does, in a region or outside all, where this is the last open bracket of the text in which the reader is
abbrev pub tree_step : Mode → Bool → Option Bracket → Sort → Step
tree_step mode.Start inside last x = body_step inside x
tree_step mode.Body inside last x = body_step inside x
tree_step mode.After inside last x = after_step inside x
tree_step mode.Bare inside last x = bare_step inside x
tree_step (mode.Results m) inside last x = results_step m x
tree_step (mode.Operands m) inside last x = operands_step m x
tree_step (mode.Parts m) inside last x = parts_step m x
tree_step (mode.Entries m) inside last x = entries_step m x
tree_step (mode.Types m) inside last x = types_step m x
tree_step (mode.Label m) inside last x = label_step m x
tree_step (mode.Next k) inside last x = begin_text k x
tree_step (mode.Text k) inside last x = text_step k last x

-- the tokens may end here, in a region or outside all
abbrev pub is_whole : Mode → Bool → Bool
is_whole mode.Body false = true
is_whole mode.After false = true
is_whole mode.Bare false = true
is_whole _ _ = false

-- what has to stand where operations begin
abbrev pub wanted_in_body : Bool → Wanted
wanted_in_body true = want.Inside
wanted_in_body false = want.Operation

-- in the results of an operation
abbrev pub wanted_in_results : ResultsMode → Wanted
wanted_in_results results.Behind = want.AfterResult
wanted_in_results results.Count = want.Count
wanted_in_results results.Counted = want.AfterCount
wanted_in_results results.Next = want.ValueName
wanted_in_results results.Name = want.OperationName

-- in its operands
abbrev pub wanted_in_operands : OperandsMode → Wanted
wanted_in_operands operands.Open = want.OpenParenthesis
wanted_in_operands operands.First = want.FirstOperand
wanted_in_operands operands.Behind = want.AfterOperand
wanted_in_operands operands.Indexed = want.CommaOrParenthesis
wanted_in_operands operands.Next = want.ValueName

-- between its operands and its attributes
abbrev pub wanted_in_parts : PartsMode → Wanted
wanted_in_parts pieces.Operands = want.AfterOperands
wanted_in_parts pieces.NextSuccessor = want.BlockName
wanted_in_parts pieces.Successor = want.AfterSuccessor
wanted_in_parts pieces.Successors = want.AfterSuccessors
wanted_in_parts pieces.Properties = want.AfterProperties
wanted_in_parts pieces.NextRegion = want.Region
wanted_in_parts pieces.Region = want.CommaOrParenthesis
wanted_in_parts pieces.Regions = want.AfterRegions

-- in its attributes
abbrev pub wanted_in_entries : EntriesMode → Wanted
wanted_in_entries entries.First = want.FirstKey
wanted_in_entries entries.Next = want.Key
wanted_in_entries entries.Key = want.AfterKey
wanted_in_entries entries.Colon = want.Colon

-- in its types
abbrev pub wanted_in_types : TypesMode → Wanted
wanted_in_types types.Open = want.OpenParenthesis
wanted_in_types types.Location = want.OpenParenthesis
wanted_in_types types.FirstOperand = want.FirstType
wanted_in_types types.FirstResult = want.FirstType
wanted_in_types types.Arrow = want.Arrow
wanted_in_types types.Results = want.ResultTypes

-- in the head of a block
abbrev pub wanted_in_label : LabelMode → Wanted
wanted_in_label label.Behind = want.AfterLabel
wanted_in_label label.First = want.FirstArgument
wanted_in_label label.Next = want.ValueName
wanted_in_label label.Argument = want.Colon
wanted_in_label label.End = want.Colon
wanted_in_label label.Location = want.OpenParenthesis
wanted_in_label label.Located = want.CommaOrParenthesis

-- where a text begins
abbrev pub wanted_first : TextKind → Wanted
wanted_first kinds.Value = want.Value
wanted_first kinds.Location = want.Location
wanted_first kinds.ArgumentLocation = want.Location
wanted_first _ = want.Type

-- in a text
abbrev pub wanted_in_text : TextKind → Wanted
wanted_in_text kinds.Value = want.InValue
wanted_in_text kinds.Location = want.InLocation
wanted_in_text kinds.ArgumentLocation = want.InLocation
wanted_in_text _ = want.InType

-- what has to stand here, in a region or outside all
abbrev pub wanted : Mode → Bool → Wanted
wanted mode.Start inside = wanted_in_body inside
wanted mode.Body inside = wanted_in_body inside
wanted mode.After inside = wanted_in_body inside
wanted mode.Bare inside = wanted_in_body inside
wanted (mode.Results m) inside = wanted_in_results m
wanted (mode.Operands m) inside = wanted_in_operands m
wanted (mode.Parts m) inside = wanted_in_parts m
wanted (mode.Entries m) inside = wanted_in_entries m
wanted (mode.Types m) inside = wanted_in_types m
wanted (mode.Label m) inside = wanted_in_label m
wanted (mode.Next k) inside = wanted_first k
wanted (mode.Text k) inside = wanted_in_text k
