-- Operations, blocks and regions in one another, and the tokens that spell them.
use Rattle.std.specs.Prelude.{◌≡◌, ⊤, List, [], ◌∷◌, Option, Some, None}
use Rattle.ir_text_tree.specs.declared.text_step.Bracket.{Bracket}
use Rattle.ir_text_tree.specs.declared.row.Part.{Part}
use Rattle.ir_text_tree.specs.declared.row.Part.TheVariants as parts
use Rattle.ir_text_tree.specs.declared.row.Row.{Row}
use Rattle.ir_text_tree.specs.declared.row.Span.{Span}
use Rattle.ir_text_tree.specs.declared.sort.Sort.{Sort}
use Rattle.ir_text_tree.specs.declared.sort.Sort.TheVariants as s
use Rattle.ir_text_tree.specs.declared.sort.Piece.{Piece}
use Rattle.ir_text_tree.specs.declared.text_step.TextKind.{TextKind}
use Rattle.ir_text_tree.specs.declared.text_step.TextKind.TheVariants as kinds
use Rattle.ir_text_tree.specs.declared.text_step.Nesting.{Nesting}
use Rattle.ir_text_tree.specs.TextSteps.{takes, part_of_text, innermost, renested}
use Rattle.ir_text_tree.specs.Rows.{row, joined}

-- ---- which tokens have to stand where

-- a token of a sort, wherever it stands; or the one at a place
pub data Expected : Type 0 where
  mark : Sort → Expected
  token : Sort → Span → Expected

-- the token is that one
abbrev pub Fits : Expected → Piece → Type 0
Fits (mark x) p = p.sort ≡ x
Fits (token x at) p = (p.sort ≡ x) × (p.span ≡ at)

-- the tokens are those, one by one
unfoldable pub Matches : List Expected → List Piece → Type 0
Matches [] [] = ⊤
Matches [] (p ∷ ps) = ⊥
Matches (e ∷ es) [] = ⊥
Matches (e ∷ es) (p ∷ ps) = Fits e p × Matches es ps

-- ---- types, values and locations

-- Within these open brackets each closing one closes the last, and outside all no token stands that ends the text.
unfoldable pub StaysText : TextKind → List Bracket → List Piece → Type 0
StaysText k bs [] = bs ≡ []
StaysText k bs (p ∷ ps) = (n : Nesting) × (takes k (innermost bs) p.sort ≡ Some n) × StaysText k (renested n bs) ps

-- the text with further tokens behind it
abbrev pub span_through : Span → List Piece → Span
span_through at [] = at
span_through at (p ∷ ps) = span_through (joined at p.span) ps

-- A type, a value or a location: one token at least.
pub record Text (k : TextKind) : Type 0 where
  pub first : Piece
  pub others : List Piece
  pub is_text : StaysText k [] (first ∷ others)

-- from its first token to its last
abbrev pub text_span : {k : TextKind} → Text k → Span
text_span t = span_through t.first.span t.others

-- the tokens, and then those
abbrev pub pieces_then : List Piece → List Expected → List Expected
pieces_then [] es = es
pieces_then (p ∷ ps) es = token p.sort p.span ∷ pieces_then ps es

-- the tokens of the text, and then those
abbrev pub text_then : {k : TextKind} → Text k → List Expected → List Expected
text_then t es = token t.first.sort t.first.span ∷ pieces_then t.others es

-- its row, and then those
abbrev pub text_row : {k : TextKind} → Text k → List Row → List Row
text_row {k = k} t rows = row (part_of_text k) (text_span t) ∷ rows

-- ---- the parts of an operation

-- the name of a result, or of so many
pub record ResultName : Type 0 where
  pub name : Span
  pub count : Option Span

-- an operand: a value, or one of several under a name
pub record Use : Type 0 where
  pub name : Span
  pub index : Option Span

abbrev pub IsKey : Sort → Type 0
IsKey s.Word = ⊤
IsKey s.Loc = ⊤
IsKey s.Quoted = ⊤
IsKey _ = ⊥

-- a key, and its value unless it is a unit attribute
pub record Entry : Type 0 where
  pub key : Piece
  pub is_key : IsKey key.sort
  pub value : Option (Text kinds.Value)

abbrev pub IsTypeName : Sort → Type 0
IsTypeName s.Word = ⊤
IsTypeName s.Type = ⊤
IsTypeName _ = ⊥

-- the types of the results: one in no parentheses, a name and maybe a group; or any number in parentheses
pub data ResultTypes : Type 0 where
  bare : (name : Piece) → IsTypeName name.sort → Option Span → ResultTypes
  listed : List (Text kinds.ResultType) → ResultTypes

-- an operation up to its regions
pub record Head : Type 0 where
  pub results : List ResultName
  pub name : Span
  pub operands : List Use
  pub successors : List Span
  pub properties : Option Span

-- an operation behind its regions; its attributes may have braces even if there are none
pub record Tail : Type 0 where
  pub attributes : Option (List Entry)
  pub operand_types : List (Text kinds.OperandType)
  pub result_types : ResultTypes
  pub location : Option (Text kinds.Location)

pub record Argument : Type 0 where
  pub name : Span
  pub its_type : Text kinds.ArgumentType
  pub location : Option (Text kinds.ArgumentLocation)

-- a block's head; it may have parentheses even if there are no arguments
pub record Label : Type 0 where
  pub name : Span
  pub arguments : Option (List Argument)

-- What stands outside all regions, or in one: operations with their regions, and blocks' heads. A region is between two braces at these places.
mutual
  pub data Body : Type 0 where
    done : Body
    op : Head → Regions → Tail → Body → Body
    block : Label → Body → Body

  pub data Regions : Type 0 where
    none : Regions
    one : Span → Body → Span → Regions → Regions

-- outside all regions no block has a head
abbrev pub HasNoBlocks : Body → Type 0
HasNoBlocks done = ⊤
HasNoBlocks (op h rs t b) = HasNoBlocks b
HasNoBlocks (block l b) = ⊥

-- a text has one operation at least
abbrev pub IsWholeText : Body → Type 0
IsWholeText done = ⊥
IsWholeText (op h rs t b) = HasNoBlocks b
IsWholeText (block l b) = ⊥

-- ---- the tokens of each, and then those

abbrev pub count_then : Option Span → List Expected → List Expected
count_then None es = es
count_then (Some n) es = mark s.Colon ∷ token s.Word n ∷ es

abbrev pub result_then : ResultName → List Expected → List Expected
result_then r es = token s.Value r.name ∷ count_then r.count es

-- each behind a comma
abbrev pub more_results_then : List ResultName → List Expected → List Expected
more_results_then [] es = es
more_results_then (r ∷ rs) es = mark s.Comma ∷ result_then r (more_results_then rs es)

abbrev pub results_then : List ResultName → List Expected → List Expected
results_then [] es = es
results_then (r ∷ rs) es = result_then r (more_results_then rs (mark s.Equals ∷ es))

abbrev pub index_then : Option Span → List Expected → List Expected
index_then None es = es
index_then (Some n) es = token s.Attribute n ∷ es

abbrev pub use_then : Use → List Expected → List Expected
use_then u es = token s.Value u.name ∷ index_then u.index es

abbrev pub more_uses_then : List Use → List Expected → List Expected
more_uses_then [] es = es
more_uses_then (u ∷ us) es = mark s.Comma ∷ use_then u (more_uses_then us es)

-- up to the parenthesis that closes them
abbrev pub uses_then : List Use → List Expected → List Expected
uses_then [] es = mark s.CloseRound ∷ es
uses_then (u ∷ us) es = use_then u (more_uses_then us (mark s.CloseRound ∷ es))

abbrev pub more_successors_then : List Span → List Expected → List Expected
more_successors_then [] es = mark s.CloseSquare ∷ es
more_successors_then (b ∷ bs) es = mark s.Comma ∷ token s.Block b ∷ more_successors_then bs es

abbrev pub successors_then : List Span → List Expected → List Expected
successors_then [] es = es
successors_then (b ∷ bs) es = mark s.OpenSquare ∷ token s.Block b ∷ more_successors_then bs es

abbrev pub properties_then : Option Span → List Expected → List Expected
properties_then None es = es
properties_then (Some p) es = token s.Group p ∷ es

abbrev pub value_then : Option (Text kinds.Value) → List Expected → List Expected
value_then None es = es
value_then (Some v) es = mark s.Equals ∷ text_then v es

abbrev pub entry_then : Entry → List Expected → List Expected
entry_then e es = token e.key.sort e.key.span ∷ value_then e.value es

abbrev pub more_entries_then : List Entry → List Expected → List Expected
more_entries_then [] es = mark s.CloseCurly ∷ es
more_entries_then (e ∷ entries) es = mark s.Comma ∷ entry_then e (more_entries_then entries es)

abbrev pub entries_then : List Entry → List Expected → List Expected
entries_then [] es = mark s.CloseCurly ∷ es
entries_then (e ∷ entries) es = entry_then e (more_entries_then entries es)

abbrev pub attributes_then : Option (List Entry) → List Expected → List Expected
attributes_then None es = es
attributes_then (Some entries) es = mark s.OpenCurly ∷ entries_then entries es

abbrev pub more_types_then : {k : TextKind} → List (Text k) → List Expected → List Expected
more_types_then [] es = mark s.CloseRound ∷ es
more_types_then (t ∷ ts) es = mark s.Comma ∷ text_then t (more_types_then ts es)

-- up to the parenthesis that closes them
abbrev pub types_then : {k : TextKind} → List (Text k) → List Expected → List Expected
types_then [] es = mark s.CloseRound ∷ es
types_then (t ∷ ts) es = text_then t (more_types_then ts es)

abbrev pub group_then : Option Span → List Expected → List Expected
group_then None es = es
group_then (Some g) es = token s.Group g ∷ es

abbrev pub result_types_then : ResultTypes → List Expected → List Expected
result_types_then (bare name is_name group) es = token name.sort name.span ∷ group_then group es
result_types_then (listed ts) es = mark s.OpenRound ∷ types_then ts es

abbrev pub location_then : {k : TextKind} → Option (Text k) → List Expected → List Expected
location_then None es = es
location_then (Some l) es = mark s.Loc ∷ mark s.OpenRound ∷ text_then l (mark s.CloseRound ∷ es)

-- behind the colon
abbrev pub signature_then : List (Text kinds.OperandType) → ResultTypes → Option (Text kinds.Location) → List Expected → List Expected
signature_then ts rs l es = mark s.OpenRound ∷ types_then ts (mark s.Arrow ∷ result_types_then rs (location_then l es))

abbrev pub tail_then : Tail → List Expected → List Expected
tail_then t es = attributes_then t.attributes (mark s.Colon ∷ signature_then t.operand_types t.result_types t.location es)

abbrev pub argument_then : Argument → List Expected → List Expected
argument_then a es = token s.Value a.name ∷ mark s.Colon ∷ text_then a.its_type (location_then a.location es)

abbrev pub more_arguments_then : List Argument → List Expected → List Expected
more_arguments_then [] es = mark s.CloseRound ∷ mark s.Colon ∷ es
more_arguments_then (a ∷ args) es = mark s.Comma ∷ argument_then a (more_arguments_then args es)

abbrev pub arguments_then : List Argument → List Expected → List Expected
arguments_then [] es = mark s.CloseRound ∷ mark s.Colon ∷ es
arguments_then (a ∷ args) es = argument_then a (more_arguments_then args es)

abbrev pub signed_then : Option (List Argument) → List Expected → List Expected
signed_then None es = mark s.Colon ∷ es
signed_then (Some args) es = mark s.OpenRound ∷ arguments_then args es

abbrev pub label_then : Label → List Expected → List Expected
label_then l es = token s.Block l.name ∷ signed_then l.arguments es

unfoldable mutual
  pub body_then : Body → List Expected → List Expected
  body_then done es = es
  body_then (op h rs t b) es =
      results_then h.results (token s.Quoted h.name ∷ mark s.OpenRound ∷ uses_then h.operands (
      successors_then h.successors (properties_then h.properties (regions_then rs (tail_then t (body_then b es))))))
  body_then (block l b) es = label_then l (body_then b es)

  pub regions_then : Regions → List Expected → List Expected
  regions_then none es = es
  regions_then (one from b to rs) es = mark s.OpenRound ∷ token s.OpenCurly from ∷ body_then b (token s.CloseCurly to ∷ more_regions_then rs es)

  pub more_regions_then : Regions → List Expected → List Expected
  more_regions_then none es = mark s.CloseRound ∷ es
  more_regions_then (one from b to rs) es = mark s.Comma ∷ token s.OpenCurly from ∷ body_then b (token s.CloseCurly to ∷ more_regions_then rs es)

-- The tokens spell the tree.
abbrev pub Spells : List Piece → Body → Type 0
Spells ps b = Matches (body_then b []) ps

-- ---- the rows of each, and then those

abbrev pub maybe_row : Part → Option Span → List Row → List Row
maybe_row part None rows = rows
maybe_row part (Some at) rows = row part at ∷ rows

abbrev pub maybe_text_row : {k : TextKind} → Option (Text k) → List Row → List Row
maybe_text_row None rows = rows
maybe_text_row (Some t) rows = text_row t rows

abbrev pub result_rows : List ResultName → List Row → List Row
result_rows [] rows = rows
result_rows (r ∷ rs) rows = row parts.Result r.name ∷ maybe_row parts.Count r.count (result_rows rs rows)

abbrev pub use_rows : List Use → List Row → List Row
use_rows [] rows = rows
use_rows (u ∷ us) rows = row parts.Operand u.name ∷ maybe_row parts.Index u.index (use_rows us rows)

abbrev pub successor_rows : List Span → List Row → List Row
successor_rows [] rows = rows
successor_rows (b ∷ bs) rows = row parts.Successor b ∷ successor_rows bs rows

abbrev pub entry_rows : List Entry → List Row → List Row
entry_rows [] rows = rows
entry_rows (e ∷ es) rows = row parts.Key e.key.span ∷ maybe_text_row e.value (entry_rows es rows)

abbrev pub attribute_rows : Option (List Entry) → List Row → List Row
attribute_rows None rows = rows
attribute_rows (Some es) rows = entry_rows es rows

abbrev pub type_rows : {k : TextKind} → List (Text k) → List Row → List Row
type_rows [] rows = rows
type_rows (t ∷ ts) rows = text_row t (type_rows ts rows)

abbrev pub bare_span : Span → Option Span → Span
bare_span name None = name
bare_span name (Some group) = joined name group

abbrev pub result_type_rows : ResultTypes → List Row → List Row
result_type_rows (bare name is_name group) rows = row parts.OnlyResultType (bare_span name.span group) ∷ rows
result_type_rows (listed ts) rows = type_rows ts rows

abbrev pub signature_rows : List (Text kinds.OperandType) → ResultTypes → Option (Text kinds.Location) → List Row → List Row
signature_rows ts rs l rows = type_rows ts (result_type_rows rs (maybe_text_row l rows))

abbrev pub tail_rows : Tail → List Row → List Row
tail_rows t rows = attribute_rows t.attributes (signature_rows t.operand_types t.result_types t.location rows)

abbrev pub argument_rows : List Argument → List Row → List Row
argument_rows [] rows = rows
argument_rows (a ∷ args) rows = row parts.Argument a.name ∷ text_row a.its_type (maybe_text_row a.location (argument_rows args rows))

abbrev pub signed_rows : Option (List Argument) → List Row → List Row
signed_rows None rows = rows
signed_rows (Some args) rows = argument_rows args rows

abbrev pub label_rows : Label → List Row → List Row
label_rows l rows = row parts.Label l.name ∷ signed_rows l.arguments rows

unfoldable mutual
  pub body_rows : Body → List Row → List Row
  body_rows done rows = rows
  body_rows (op h rs t b) rows =
      result_rows h.results (row parts.Name h.name ∷ use_rows h.operands (successor_rows h.successors (
      maybe_row parts.Properties h.properties (region_rows rs (tail_rows t (body_rows b rows))))))
  body_rows (block l b) rows = label_rows l (body_rows b rows)

  pub region_rows : Regions → List Row → List Row
  region_rows none rows = rows
  region_rows (one from b to rs) rows = row parts.Open from ∷ body_rows b (row parts.Close to ∷ region_rows rs rows)

-- the rows of a tree
abbrev pub tree_rows : Body → List Row
tree_rows b = body_rows b []
