-- How the dialect Generic is spelled, by what is saved.
use Rattle.std.specs.Prelude.{ℕ, List, [], Option, Some, None, slice_get}
use Rattle.ir_text_describe.specs.declared.spelling.AttributeForm.TheVariants as forms
use Rattle.ir_text_describe.specs.declared.spelling.Located.{Located}
use Rattle.ir_text_describe.specs.declared.spelling.Located.TheVariants as located
use Rattle.ir_text_describe.specs.Spellings.{AttributeText}
use Rattle.generic_dialect.specs.declared.generic.GenericAttr.{GenericAttr}
use Rattle.generic_dialect.specs.declared.generic.GenericAttr.TheVariants as attr
use Rattle.generic_dialect.specs.declared.generic.GenericLoc.{GenericLoc}
use Rattle.generic_dialect.specs.declared.generic.GenericLoc.TheVariants as loc
use Rattle.generic_dialect.specs.declared.generic.GenericSaved.{GenericSaved}
use Rattle.generic_dialect.specs.declared.generic.GenericType.{GenericType}
use Rattle.generic_dialect.specs.declared.kinds.Kind.{Kind}
use Rattle.generic_dialect.specs.declared.kinds.Kind.TheVariants.{Listed, Open}
use Rattle.generic_dialect.specs.declared.texts.TextId.{TextId}

-- the bytes of a saved text; nothing where there is none
abbrev pub bytes_of : Option GenericSaved → List ℕ
bytes_of None = []
bytes_of (Some t) = t.0.items

-- the text that is saved at a place
abbrev pub text_at : List GenericSaved → ℕ → List ℕ
text_at saved place = bytes_of (slice_get saved place)

-- the name of a kind that isn't listed
abbrev pub open_name : List GenericSaved → Kind → List ℕ
open_name saved (Listed row) = []
open_name saved (Open name ends) = text_at saved name.0

-- the name of a kind: the listed one, if it is listed
abbrev pub name_of : List GenericSaved → Option (List ℕ) → Kind → List ℕ
name_of saved None kind = open_name saved kind
name_of saved (Some name) kind = name

-- the text of a type; nothing where there is none
abbrev pub type_text : List GenericSaved → Option GenericType → List ℕ
type_text saved None = []
type_text saved (Some t) = text_at saved t.0.0

-- an attribute under a key; what has no key is none of the attributes
abbrev pub attribute_of : List GenericSaved → Option (List ℕ) → GenericAttr → AttributeText
attribute_of saved None a = record { form = forms.Property; key = []; value = [] }
attribute_of saved (Some key) attr.Unit = record { form = forms.Unit; key = key; value = [] }
attribute_of saved (Some key) (attr.Text id) = record { form = forms.Valued; key = key; value = text_at saved id.0 }

-- the text of what stands under the key of properties
abbrev pub properties_of : List GenericSaved → Option GenericAttr → Option (List ℕ)
properties_of saved None = None
properties_of saved (Some attr.Unit) = None
properties_of saved (Some (attr.Text id)) = Some (text_at saved id.0)

-- a saved text, if there is one
abbrev pub known : List GenericSaved → Option TextId → Option (List ℕ)
known saved None = None
known saved (Some id) = Some (text_at saved id.0)

-- what is there, if anything is
abbrev pub joined : Option (Option TextId) → Option TextId
joined None = None
joined (Some o) = o

-- the saved text that a location is, of an operation or of an argument
abbrev pub place_of : GenericLoc → Located → Option TextId
place_of loc.Unknown of = None
place_of (loc.Text id) located.Operation = Some id
place_of (loc.Text id) (located.Argument i) = None
place_of (loc.Arguments ids) located.Operation = None
place_of (loc.Arguments ids) (located.Argument i) = joined (slice_get ids.value.items i)
