-- The texts of Toy's types, attributes and locations.
use Rattle.std.specs.Prelude.{ℕ, ◌++◌, List, [], Option, Some, None, codes, decimal, string_bytes}
use Rattle.std.specs.Fmt.{signed_decimal}
use Rattle.ir_text_describe.specs.declared.spelling.Located.{Located}
use Rattle.ir_text_describe.specs.declared.spelling.Located.TheVariants as located
use Rattle.ir_text_pieces.specs.Quotes.{quoted}
use Rattle.toy_dialect.specs.declared.toy.ToyAttr.{ToyAttr}
use Rattle.toy_dialect.specs.declared.toy.ToyAttr.TheVariants as attr
use Rattle.toy_dialect.specs.declared.toy.ToyLoc.{ToyLoc}
use Rattle.toy_dialect.specs.declared.toy.ToyLoc.TheVariants as loc
use Rattle.toy_dialect.specs.declared.toy.ToyType.{ToyType}
use Rattle.toy_dialect.specs.declared.toy.ToyType.TheVariants as ty

-- `i` and the width, or `!toy.` and the name
abbrev pub key_text : ToyType → List ℕ
key_text (ty.Int width) = codes "i" ++ decimal width
key_text (ty.Named name) = codes "!toy." ++ name

-- the type that is known there, if one is
abbrev pub type_text : Option ToyType → List ℕ
type_text None = []
type_text (Some key) = key_text key

-- a colon and the type that is known there, if one is
abbrev pub typed_text : Option ToyType → List ℕ
typed_text None = []
typed_text (Some key) = codes " : " ++ key_text key

-- a number with its type, a text in quotes, or an outlined one in quotes and brackets; of types it knows those at places
abbrev pub attribute_text : (ℕ → Option ToyType) → ToyAttr → List ℕ
attribute_text known (attr.Int x) = signed_decimal x.value ++ typed_text (known x.ty.place)
attribute_text known (attr.Text x) = quoted (string_bytes x.0)
attribute_text known (attr.Outlined x) = codes "#toy.outlined<" ++ (quoted (string_bytes x.0) ++ codes ">")

-- the line of a script; arguments have none
abbrev pub location_text : ToyLoc → Located → Option (List ℕ)
location_text (loc.Line line) located.Operation = Some (codes "\"script\":" ++ (decimal line ++ codes ":1"))
location_text _ _ = None
