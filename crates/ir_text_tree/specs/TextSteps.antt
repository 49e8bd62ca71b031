-- What a token does in types, values and locations, which are kept as texts.
use Rattle.std.specs.Prelude.{List, [], ◌∷◌, Option, Some, None}
use Rattle.ir_text_tree.specs.declared.text_step.Bracket.{Bracket}
use Rattle.ir_text_tree.specs.declared.text_step.Bracket.TheVariants as brackets
use Rattle.ir_text_tree.specs.declared.row.Part.{Part}
use Rattle.ir_text_tree.specs.declared.row.Part.TheVariants as parts
use Rattle.ir_text_tree.specs.declared.sort.Sort.{Sort}
use Rattle.ir_text_tree.specs.declared.sort.Sort.TheVariants as s
use Rattle.ir_text_tree.specs.declared.text_step.TextKind.{TextKind}
use Rattle.ir_text_tree.specs.declared.text_step.TextKind.TheVariants as kinds
use Rattle.ir_text_tree.specs.declared.text_step.Nesting.{Nesting}
use Rattle.ir_text_tree.specs.declared.text_step.Nesting.TheVariants.{Kept, Opened, Closed}

-- the word `loc` outside all brackets
abbrev pub holds_loc : TextKind → Option Nesting
holds_loc kinds.Value = Some Kept
holds_loc kinds.Location = Some Kept
holds_loc kinds.ArgumentLocation = Some Kept
holds_loc _ = None

-- a closing bracket closes the last that was opened, if that is of its sort
abbrev pub closes : Bracket → Option Bracket → Option Nesting
closes brackets.Round (Some brackets.Round) = Some Closed
closes brackets.Square (Some brackets.Square) = Some Closed
closes brackets.Curly (Some brackets.Curly) = Some Closed
closes _ _ = None

-- a token that ends a text outside all brackets, and else is a part of it
abbrev pub outside : Option Bracket → Option Nesting → Option Nesting
outside None other = other
outside (Some b) other = Some Kept

-- what a token does to the open brackets of a text, of which this is the last
abbrev pub takes : TextKind → Option Bracket → Sort → Option Nesting
takes k last s.OpenRound = Some (Opened brackets.Round)
takes k last s.OpenSquare = Some (Opened brackets.Square)
takes k last s.OpenCurly = Some (Opened brackets.Curly)
takes k last s.CloseRound = closes brackets.Round last
takes k last s.CloseSquare = closes brackets.Square last
takes k last s.CloseCurly = closes brackets.Curly last
takes k last s.Comma = outside last None
takes k last s.Equals = outside last None
takes k last s.Loc = outside last (holds_loc k)
takes k last _ = Some Kept

-- the part that such a text is
abbrev pub part_of_text : TextKind → Part
part_of_text kinds.Value = parts.Value
part_of_text kinds.OperandType = parts.OperandType
part_of_text kinds.ResultType = parts.ResultType
part_of_text kinds.Location = parts.Location
part_of_text kinds.ArgumentType = parts.ArgumentType
part_of_text kinds.ArgumentLocation = parts.ArgumentLocation

-- the last of the open brackets, which stand from the last to the first
abbrev pub innermost : List Bracket → Option Bracket
innermost [] = None
innermost (b ∷ bs) = Some b

-- the brackets that are open afterwards
abbrev pub renested : Nesting → List Bracket → List Bracket
renested Kept bs = bs
renested (Opened b) bs = b ∷ bs
renested Closed [] = []
renested Closed (b ∷ bs) = bs
