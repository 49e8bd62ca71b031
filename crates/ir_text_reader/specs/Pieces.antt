-- Tokens as the tree sees them.
use Rattle.std.specs.Prelude.{ℕ, Bool, true, false, List, map, codes}
use Rattle.std.specs.Str.{bytes_eq}
use Rattle.ir_text_tokens.specs.declared.token.Bracket.TheVariants as brackets
use Rattle.ir_text_tokens.specs.declared.token.Sign.{Sign}
use Rattle.ir_text_tokens.specs.declared.token.Sign.TheVariants as signs
use Rattle.ir_text_tokens.specs.declared.token.Mark.{Mark}
use Rattle.ir_text_tokens.specs.declared.token.Mark.TheVariants as marks
use Rattle.ir_text_tokens.specs.declared.token.Kind.{Kind}
use Rattle.ir_text_tokens.specs.declared.token.Kind.TheVariants as kinds
use Rattle.ir_text_tokens.specs.declared.token.Token.{Token}
use Rattle.ir_text_tokens.specs.Coverings.{lexeme}
use Rattle.ir_text_tree.specs.declared.sort.Sort.{Sort}
use Rattle.ir_text_tree.specs.declared.sort.Sort.TheVariants as s
use Rattle.ir_text_tree.specs.declared.sort.Piece.{Piece}
use Rattle.ir_text_tree.specs.Rows.{span}

-- a character that is a token
abbrev pub sort_of_mark : Mark → Sort
sort_of_mark (marks.Open brackets.Round) = s.OpenRound
sort_of_mark (marks.Close brackets.Round) = s.CloseRound
sort_of_mark (marks.Open brackets.Square) = s.OpenSquare
sort_of_mark (marks.Close brackets.Square) = s.CloseSquare
sort_of_mark (marks.Open brackets.Curly) = s.OpenCurly
sort_of_mark (marks.Close brackets.Curly) = s.CloseCurly
sort_of_mark marks.Comma = s.Comma
sort_of_mark marks.Colon = s.Colon
sort_of_mark marks.Equals = s.Equals
sort_of_mark _ = s.Other

-- a name, by its sign; a symbol stands in values alone
abbrev pub sort_of_name : Sign → Sort
sort_of_name signs.Value = s.Value
sort_of_name signs.Block = s.Block
sort_of_name signs.Attribute = s.Attribute
sort_of_name signs.Type = s.Type
sort_of_name signs.Symbol = s.Other

-- a word, by whether it is `loc`
abbrev pub sort_of_word : Bool → Sort
sort_of_word true = s.Loc
sort_of_word false = s.Word

-- what a token can be, which is the word `loc` or not
abbrev pub sort_of : Kind → Bool → Sort
sort_of kinds.Word loc = sort_of_word loc
sort_of (kinds.Name sign) loc = sort_of_name sign
sort_of kinds.Quoted loc = s.Quoted
sort_of kinds.Group loc = s.Group
sort_of kinds.Arrow loc = s.Arrow
sort_of (kinds.Mark mark) loc = sort_of_mark mark

-- the token is the word `loc`
abbrev pub is_loc : List ℕ → Token → Bool
is_loc text t = bytes_eq (lexeme text t).text (codes "loc")

-- a token of a text as the tree sees it
abbrev pub piece : List ℕ → Token → Piece
piece text t = record { sort = sort_of t.kind (is_loc text t); span = span t.start t.end }

-- tokens of a text as the tree sees them
abbrev pub pieces : List ℕ → List Token → List Piece
pieces text ts = map (piece text) ts
