-- The class of each byte.
use Rattle.std.specs.Prelude.{ℕ, Bool, ◌==◌, ◌&&◌, ◌||◌, nat_le, if◌then◌else◌, List, [], ◌∷◌}
use Rattle.ir_text_tokens.specs.declared.byte_class.Class.{Class}
use Rattle.ir_text_tokens.specs.declared.byte_class.Class.TheVariants.{Newline, Blank, Slash, Digit, HexLetter, EscapeLetter, Letter, Sign, Dash, Quote, Backslash, Less, Greater, Equals, Open, Close, Mark, Other}
use Rattle.ir_text_tokens.specs.declared.token.Sign.TheVariants as signs
use Rattle.ir_text_tokens.specs.declared.token.Bracket.TheVariants as brackets
use Rattle.ir_text_tokens.specs.declared.token.Mark.TheVariants as marks

-- 0 to 9
unfoldable pub digit : ℕ → Bool
digit b = nat_le 48 b && nat_le b 57

-- a to f, A to F
unfoldable pub hex_letter : ℕ → Bool
hex_letter b = (nat_le 97 b && nat_le b 102) || (nat_le 65 b && nat_le b 70)

-- n, t
unfoldable pub escape_letter : ℕ → Bool
escape_letter b = b == 110 || b == 116

-- a to z, A to Z
unfoldable pub letter : ℕ → Bool
letter b = (nat_le 97 b && nat_le b 122) || (nat_le 65 b && nat_le b 90)

-- a to z, A to Z, _ $ .
unfoldable pub other_letter : ℕ → Bool
other_letter b = (nat_le 97 b && nat_le b 122) || (nat_le 65 b && nat_le b 90) || b == 95 || b == 36 || b == 46

-- a space, a tab, CR
unfoldable pub blank : ℕ → Bool
blank b = b == 32 || b == 9 || b == 13

-- , : = " - < > \ / + * ? |
unfoldable pub class_of_mark : ℕ → Class
class_of_mark b =
    if b == 44 then Mark marks.Comma else (if b == 58 then Mark marks.Colon else (if b == 61 then Equals else (
    if b == 34 then Quote else (if b == 45 then Dash else (if b == 60 then Less else (if b == 62 then Greater else (
    if b == 92 then Backslash else (if b == 47 then Slash else (if b == 43 then Mark marks.Plus else (
    if b == 42 then Mark marks.Star else (if b == 63 then Mark marks.Question else (if b == 124 then Mark marks.Bar else Other))))))))))))

-- % ^ @ # ! ( ) [ ] { }
unfoldable pub class_of_sign : ℕ → Class
class_of_sign b =
    if b == 37 then Sign signs.Value else (if b == 94 then Sign signs.Block else (if b == 64 then Sign signs.Symbol else (
    if b == 35 then Sign signs.Attribute else (if b == 33 then Sign signs.Type else (
    if b == 40 then Open brackets.Round else (if b == 41 then Close brackets.Round else (
    if b == 91 then Open brackets.Square else (if b == 93 then Close brackets.Square else (
    if b == 123 then Open brackets.Curly else (if b == 125 then Close brackets.Curly else class_of_mark b))))))))))

-- the class of a byte
unfoldable pub class_of_byte : ℕ → Class
class_of_byte b =
    if blank b then Blank else (if digit b then Digit else (if hex_letter b then HexLetter else (
    if escape_letter b then EscapeLetter else (if other_letter b then Letter else (if b == 10 then Newline else class_of_sign b)))))

-- the class of the next byte; at the end that of a byte which no token goes on with
abbrev pub class_ahead : List ℕ → Class
class_ahead [] = Other
class_ahead (b ∷ bytes) = class_of_byte b
