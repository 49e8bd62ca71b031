-- Which texts are trees, and which fault a text has.
use Rattle.std.specs.Prelude.{◌≡◌, ℕ, ⊤, false, List, length, Option, Some, None, Result, Ok, Err}
use Rattle.ir_text_tokens.specs.declared.token.Token.{Token}
use Rattle.ir_text_tokens.specs.declared.fault.Fault.{Fault as TokenFault}
use Rattle.ir_text_tokens.specs.Readings.{scan_of}
use Rattle.ir_text_tokens.specs.Coverings.{Covers}
use Rattle.ir_text_tree.specs.declared.row.Row.{Row}
use Rattle.ir_text_tree.specs.declared.sort.Piece.{Piece}
use Rattle.ir_text_tree.specs.declared.fault.Fault.{Fault as TreeFault}
use Rattle.ir_text_tree.specs.Parsings.{rows_read, first_misplaced}
use Rattle.ir_text_tree.specs.Trees.{Body, Spells}
use Rattle.ir_text_reader.specs.declared.fault.Fault.{Fault}
use Rattle.ir_text_reader.specs.declared.fault.Fault.TheVariants as faults
use Rattle.ir_text_reader.specs.Faults.{of_tokens, of_tree}
use Rattle.ir_text_reader.specs.Pieces.{pieces}

-- The text spells the tree: tokens are all of it but blanks and comments, and they spell the tree.
abbrev pub SpellsTree : List ℕ → Body → Type 0
SpellsTree text b = (ts : List Token) × Covers 0 false text ts × Spells (pieces text ts) b

-- rows, or a fault of the tree
abbrev pub rows_or_fault : Result (List Row) TreeFault → Result (List Row) Fault
rows_or_fault (Ok rows) = Ok rows
rows_or_fault (Err e) = Err (of_tree e)

-- a token that can't stand where it stands is the first fault; if there is none, it is what is no token
abbrev pub earlier_fault : Option TreeFault → TokenFault → Fault
earlier_fault (Some e) f = of_tree e
earlier_fault None f = of_tokens f

-- what is read of these tokens, and of what stands behind them that is no token
abbrev pub tokens_read : ℕ → List Piece → Option TokenFault → Result (List Row) Fault
tokens_read end xs None = rows_or_fault (rows_read end xs)
tokens_read end xs (Some f) = Err (earlier_fault (first_misplaced xs) f)

-- the rows of a text, or its first fault
abbrev pub text_read : List ℕ → Result (List Row) Fault
text_read text = tokens_read (length text) (pieces text (scan_of text).tokens) (scan_of text).fault

-- What a function returned, seen by view, is what reading a text gives, unless memory ran out.
abbrev pub IsTree : {X Y : Type 0} → (X → Y) → Result X Fault → Result Y Fault → Type 0
IsTree view (Ok x) read = read ≡ Ok (view x)
IsTree view (Err faults.OutOfMemory) read = ⊤
IsTree view (Err e) read = read ≡ Err e
