-- How the dialect Generic is written, in the words of trees that describe a forest.
use Rattle.std.specs.Prelude.{ℕ, List, [], Option, Some, None, codes, if◌then◌else◌, is_some, slice_get, slice_index_or}
use Rattle.std.specs.Option.{option_map, option_and_then}
use Rattle.ir_model.specs.Edits.{StoredType}
use Rattle.ir_model.specs.Stores.{attribute_at}
use Rattle.ir_core_records.specs.Meaning.{closed}
use Rattle.ir_core_queries.specs.State.{ContextState, bare, types_of}
use Rattle.generic_dialect.specs.declared.generic.GenericAttr.{GenericAttr}
use Rattle.generic_dialect.specs.declared.generic.GenericAttr.TheVariants as attr
use Rattle.generic_dialect.specs.declared.generic.GenericLoc.{GenericLoc}
use Rattle.generic_dialect.specs.declared.generic.GenericSaved.{GenericSaved}
use Rattle.generic_dialect.specs.declared.generic.GenericType.{GenericType}
use Rattle.generic_dialect.specs.declared.generic.KeptAttr.{KeptAttr}
use Rattle.generic_dialect.specs.declared.kinds.Kind.{Kind}
use Rattle.generic_dialect.specs.declared.kinds.Kind.TheVariants.{Listed, Open}
use Rattle.generic_dialect.specs.Keys.{the_key}
use Rattle.generic_dialect.specs.Kinds.{kind_of, listed_kind, listed_name}
use Rattle.generic_text.specs.GenericTexts.{known, place_of, properties_of, text_at, type_text}
use Rattle.ir_text_describe.specs.declared.spelling.Located.TheVariants as located
use Rattle.ir_text_names.specs.declared.resolving.Names.{Names}
use Rattle.ir_text_tree.specs.declared.row.Row.{Row}
use Rattle.ir_text_described.specs.Trees.{NamedTree}
use Rattle.ir_text_described.specs.Words.{Words}

-- what is written behind a key: nothing for unit, and else its text
abbrev pub value_of : List GenericSaved → GenericAttr → Option (List ℕ)
value_of saved attr.Unit = None
value_of saved (attr.Text id) = Some (text_at saved id.0)

-- the entry of an attribute under a key, if it has a key
abbrev pub entry_of : List GenericSaved → Option (List ℕ) → GenericAttr → Option (List ℕ × Option (List ℕ))
entry_of saved None a = None
entry_of saved (Some key) a = Some (key, value_of saved a)

-- a name that the table hasn't; nothing in the place of one that it has
abbrev pub unlisted : List ℕ → List ℕ
unlisted name = if is_some (listed_kind name) then [] else name

-- the name of an open kind; nothing where the table has an operation of that name
abbrev pub told_open_name : List GenericSaved → Kind → List ℕ
told_open_name saved (Listed row) = []
told_open_name saved (Open name ends) = unlisted (text_at saved name.0)

-- the name of a kind: that in the table, if it is listed; so a name of the table is told of no open kind
abbrev pub told_name : List GenericSaved → Option (List ℕ) → Kind → List ℕ
told_name saved None kind = told_open_name saved kind
told_name saved (Some name) kind = name

-- the words of the dialect, by what is saved and which types there are
abbrev pub words_of : {B X : Type 0} → List GenericSaved → List (StoredType (closed KeptAttr GenericType B GenericSaved X GenericLoc)) → Words (closed KeptAttr GenericType B GenericSaved X GenericLoc)
words_of saved types = record {
  operation_name = λ kind. told_name saved (listed_name (kind_of kind)) (kind_of kind);
  type_text = λ place. type_text saved (option_map (λ t. t.key) (slice_get types place));
  entry = λ name a. entry_of saved (the_key name) a.0;
  properties = λ attributes. properties_of saved (option_and_then (λ a. Some a.0) (attribute_at attributes (codes "__properties")));
  location = λ loc. known saved (place_of loc located.Operation);
  argument_location = λ loc k. known saved (place_of loc (located.Argument k));
}

-- the words of the dialect in a context
abbrev pub generic_words : {D B X : Type 0} → ContextState D KeptAttr GenericType B GenericSaved X GenericLoc → Words (closed KeptAttr GenericType B GenericSaved X GenericLoc)
generic_words s = words_of (bare s).beside.saved (types_of s)

-- the block that a row names
abbrev pub block_named : Names → ℕ → Option ℕ
block_named names u = slice_index_or names.blocks u None

-- the definition that a row names
abbrev pub value_named : Names → ℕ → Option ℕ
value_named names u = slice_index_or names.values u None

-- a tree with what these names say
abbrev pub named_tree : List ℕ → List Row → Names → NamedTree
named_tree text rows names = record { text = text; rows = rows; block_named = block_named names; value_named = value_named names }
