-- Names that rows give, and names that are given again.
use Rattle.std.specs.Prelude.{◌≡◌, ℕ, ◌-◌, ◌<◌, ◌&&◌, Bool, true, false, cond, nat_eq, nat_lt, List, [], ◌∷◌, length, Option, Some, IsSome, slice_index_or, slice_range}
use Rattle.std.specs.List.{flat_map}
use Rattle.ir_text_tree.specs.declared.row.Part.{Part}
use Rattle.ir_text_tree.specs.declared.row.Part.TheVariants as parts
use Rattle.ir_text_tree.specs.declared.row.Row.{Row}
use Rattle.ir_text_names.specs.declared.given.NameKind.{NameKind}
use Rattle.ir_text_names.specs.declared.given.NameKind.TheVariants as kinds
use Rattle.ir_text_strings.specs.Escapes.{has_escapes, unescaped}
use Rattle.ir_text_names.specs.Rows.{part_of, piece, text_of}

-- the part of a tree that gives such names
abbrev pub giver : NameKind → Part
giver kinds.Block = parts.Label
giver kinds.Key = parts.Key

-- the text begins with a quote
abbrev pub is_quoted : List ℕ → Bool
is_quoted [] = false
is_quoted (b ∷ bs) = nat_eq b 34

-- the text between its quotes
abbrev pub between_quotes : List ℕ → List ℕ
between_quotes t = slice_range t 1 (length t - 1)

-- the bytes that a key stands for: in quotes, what the text between them stands for
abbrev pub unquoted : List ℕ → List ℕ
unquoted t = cond (is_quoted t) (unescaped (between_quotes t)) t

-- the name that the text of such a part is: the bytes that a key stands for
abbrev pub name_of : Part → List ℕ → List ℕ
name_of parts.Key t = unquoted t
name_of _ t = t

-- the name that the text of such a part is, if it has no escapes
abbrev pub plain_name : NameKind → List ℕ → List ℕ
plain_name kinds.Block t = t
plain_name kinds.Key t = cond (is_quoted t) (between_quotes t) t

-- the text of that part is a key in quotes, with escapes
abbrev pub is_escaped_key : Part → List ℕ → Bool
is_escaped_key parts.Key t = is_quoted t && has_escapes (between_quotes t)
is_escaped_key _ t = false

-- the text of that part is a name with escapes
abbrev pub is_escaped : NameKind → Part → List ℕ → Bool
is_escaped kinds.Block part t = false
is_escaped kinds.Key part t = is_escaped_key part t

-- the name that the text of that part is, if it is one with escapes
abbrev pub escaped_name : NameKind → Part → List ℕ → List ℕ
escaped_name kind part t = cond (is_escaped kind part t) (unescaped (between_quotes t)) []

-- the name that the row gives, if it is one with escapes
abbrev pub escaped_name_of : NameKind → List ℕ → Row → List ℕ
escaped_name_of kind text r = escaped_name kind r.part (piece text r.span)

-- the names with escapes that rows give, behind one another
abbrev pub escaped_names : NameKind → List ℕ → List Row → List ℕ
escaped_names kind text rows = flat_map (escaped_name_of kind text) rows

-- the name that row i gives, if it is such a part
abbrev pub given_name : Part → List ℕ → List Row → ℕ → List ℕ
given_name part text rows i = name_of part (text_of text rows i)

-- Row i is such a part and gives that name in that scope; of each row these are the scopes.
abbrev pub IsGiven : Part → List ℕ → List Row → List ℕ → ℕ → ℕ → List ℕ → Type 0
IsGiven part text rows scopes i scope name = (part_of rows i ≡ part) × (slice_index_or scopes i 0 ≡ scope) × (given_name part text rows i ≡ name)

-- Row i is such a part, and one before it gave its name in its scope.
abbrev pub IsAgain : Part → List ℕ → List Row → List ℕ → ℕ → Type 0
IsAgain part text rows scopes i = (part_of rows i ≡ part) × ((j : ℕ) × (j < i) × IsGiven part text rows scopes j (slice_index_or scopes i 0) (given_name part text rows i))

-- Names in that scope may be the same: of keys more than one stands there.
abbrev pub is_asked : NameKind → List ℕ → ℕ → Bool
is_asked kinds.Block counts scope = true
is_asked kinds.Key counts scope = nat_lt 1 (slice_index_or counts scope 0)

-- any scope
abbrev pub anywhere : ℕ → Bool
anywhere scope = true

-- Where two rows give such names in one scope, names in it may be the same.
abbrev pub AreAsked : Part → List Row → List ℕ → (ℕ → Bool) → Type 0
AreAsked part rows scopes asked = (i j : ℕ) → i < j → j < length rows → part_of rows i ≡ part → part_of rows j ≡ part → slice_index_or scopes i 0 ≡ slice_index_or scopes j 0 → asked (slice_index_or scopes j 0) ≡ true

-- What is known of the names that the rows below n give: each is known where names may be the same, and what is known was given.
pub record AreGiven (part : Part) (text : List ℕ) (rows : List Row) (scopes : List ℕ) (asked : ℕ → Bool) (n : ℕ) (known : ℕ → List ℕ → Option ℕ) : Type 0 where
  pub all : (i : ℕ) → i < n → part_of rows i ≡ part → asked (slice_index_or scopes i 0) ≡ true → IsSome (known (slice_index_or scopes i 0) (given_name part text rows i))
  pub only : (scope : ℕ) (name : List ℕ) (i : ℕ) → known scope name ≡ Some i → (i < n) × IsGiven part text rows scopes i scope name
