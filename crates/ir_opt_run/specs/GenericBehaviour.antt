-- What the dialect Generic does, in words of the model.
use Rattle.std.specs.Prelude.{◌≡◌, ◌<◌, ℕ, List, Some, false, slice_get}
use Rattle.ir_model.specs.Edits.{StoredType}
use Rattle.ir_model.specs.Forest.{Behaviour, Dialect}
use Rattle.ir_model_passes.specs.Meaning.{SameAttributes}
use Rattle.ir_base_dialects.specs.Attributes.{same_pairs}
use Rattle.ir_core_records.specs.Meaning.{closed}
use Rattle.ir_core_records.specs.DialectAnswers.{behaviour_of}
use Rattle.ir_core_queries.specs.Calls.{TypesAreExact}
use Rattle.generic_dialect.specs.declared.generic.GenericLoc.{GenericLoc}
use Rattle.generic_dialect.specs.declared.generic.GenericSaved.{GenericSaved}
use Rattle.generic_dialect.specs.declared.generic.GenericType.{GenericType}
use Rattle.generic_dialect.specs.declared.generic.KeptAttr.{KeptAttr}
use Rattle.generic_text.specs.GenericWords.{words_of}
use Rattle.ir_text_described.specs.Words.{Words}
use Rattle.generic_dialect.specs.contracts.generic.GenericDialects.TheImpl.{ghosts}
use Rattle.generic_dialect.specs.contracts.generic.GenericSavedPartialEq.TheImpl.{eq-value as saved-value}
use Rattle.generic_dialect.specs.contracts.generic.GenericTypePartialEq.TheImpl.{eq-value}
use Rattle.generic_dialect.specs.contracts.generic.KeptAttrPartialEq.TheImpl.{eq-value as attr-value}

-- the dialect as the model has it
abbrev pub generic : Dialect
generic = closed KeptAttr GenericType (Unit {0}) GenericSaved (Unit {0}) GenericLoc

-- its tables
abbrev pub generic_behaviour : Behaviour generic
generic_behaviour = behaviour_of ghosts eq-value.it

-- whether two dictionaries of attributes are equal
abbrev pub generic_same : SameAttributes generic
generic_same = same_pairs attr-value.it

-- no saved text is equal to an earlier one
abbrev pub TextsApart : List GenericSaved → Type 0
TextsApart saved = (i j : ℕ) (x y : GenericSaved) → i < j → slice_get saved i ≡ Some x → slice_get saved j ≡ Some y → saved-value.it x y ≡ false

-- The words are those of the dialect, over some texts that are saved, no two of them equal, and some types, of which no two have one key: so a kind of the table is written by its name there.
pub record AreGenericWords (words : Words generic) : Type 0 where
  pub saved : List GenericSaved
  pub types : List (StoredType generic)
  pub are : words ≡ words_of saved types
  pub apart : TextsApart saved
  pub exact : TypesAreExact generic_behaviour types
