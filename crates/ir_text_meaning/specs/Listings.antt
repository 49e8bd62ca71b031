-- The parts of an operation and of a block's head, as the tree lists them.
use Rattle.std.specs.Prelude.{Bool, true, false, cond, List, [], ◌∷◌, map, Option, Some, None}
use Rattle.ir_text_tree.specs.declared.row.Part.{Part}
use Rattle.ir_text_tree.specs.declared.row.Part.TheVariants as parts
use Rattle.ir_text_tree.specs.declared.row.Row.{Row}
use Rattle.ir_text_tree.specs.declared.row.Span.{Span}
use Rattle.ir_text_tree.specs.declared.text_step.TextKind.{TextKind}
use Rattle.ir_text_tree.specs.Trees.{Text, text_span, Entry, Argument}

-- where the parts stand for which the test holds, in order
abbrev pub places_of : (Part → Bool) → List Row → List Span
places_of test [] = []
places_of test (x ∷ xs) = cond (test x.part) (x.span ∷ places_of test xs) (places_of test xs)

abbrev pub is_result_name : Part → Bool
is_result_name parts.Result = true
is_result_name _ = false

abbrev pub is_successor : Part → Bool
is_successor parts.Successor = true
is_successor _ = false

abbrev pub is_key : Part → Bool
is_key parts.Key = true
is_key _ = false

abbrev pub is_argument_name : Part → Bool
is_argument_name parts.Argument = true
is_argument_name _ = false

-- where the keys of a dictionary stand, if there is one
abbrev pub key_places : Option (List Entry) → List Span
key_places None = []
key_places (Some entries) = map (λ (e : Entry). e.key.span) entries

-- where the names of arguments stand, if there are some
abbrev pub argument_places : Option (List Argument) → List Span
argument_places None = []
argument_places (Some args) = map (λ (a : Argument). a.name) args

-- where types stand
abbrev pub type_places : {k : TextKind} → List (Text k) → List Span
type_places ts = map (λ t. text_span t) ts
