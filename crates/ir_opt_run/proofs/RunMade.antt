-- What a run makes, by its steps.
use Rattle.std.proofs.Common.{refl, ◌≡◌, ◌∷◌, [], ℕ, Bool, true, List, ap, subst, ◌∙◌}
use Rattle.ir_model.specs.declared.ids.ArenaIndex.{ArenaIndex}
use Rattle.ir_model.specs.ContextIds.{context_ids}
use Rattle.ir_model.specs.Forest.{Dialect, Behaviour, Forest, an_op}
use Rattle.ir_model.specs.Edits.{StoredType}
use Rattle.ir_model.specs.Nesting.{IsClosed, WellFormed}
use Rattle.ir_core_queries.specs.Calls.{SameButForest, TypesAreExact}
use Rattle.ir_core_queries.specs.State.{ContextState, bare, types_of}
use Rattle.ir_core_records.specs.Meaning.{closed}
use Rattle.generic_dialect.specs.declared.generic.GenericLoc.{GenericLoc}
use Rattle.generic_dialect.specs.declared.generic.GenericSaved.{GenericSaved}
use Rattle.generic_dialect.specs.declared.generic.GenericType.{GenericType}
use Rattle.generic_dialect.specs.declared.generic.KeptAttr.{KeptAttr}
use Rattle.ir_text_described.specs.Words.{Words}
use Rattle.generic_text.specs.GenericWords.{generic_words, words_of}
use Rattle.ir_model_passes.specs.Meaning.{SameAttributes}
use Rattle.ir_opt_run.specs.declared.options.Pass.{Pass}
use Rattle.ir_opt_run.specs.GenericBehaviour.{AreGenericWords, TextsApart, generic_behaviour}
use Rattle.generic_text.specs.Enclosing.{Encloses}
use Rattle.ir_opt_run.specs.Modules.{Says}
use Rattle.ir_opt_run.specs.Passes.{PassesLead}
use Rattle.ir_opt_run.specs.Runs.{Optimises}

-- where all but the forest stayed, the dialect is written in the same words
pub words_stay : {D B X : Type 0} (s t : ContextState D KeptAttr GenericType B GenericSaved X GenericLoc) → SameButForest (bare s) (bare t) → generic_words t ≡ generic_words s
words_stay {B = B} {X = X} s t same =
    ap (λ (saved : List GenericSaved). words_of {B = B} {X = X} saved (types_of t)) (ap (λ b. b.saved) same.beside)
    ∙ ap (λ (types : List (StoredType (closed KeptAttr GenericType B GenericSaved X GenericLoc))). words_of (bare s).beside.saved types) same.store

-- the words of a context are words of the dialect, where neither saved texts nor types are there twice
pub words_are_generic : {D : Type 0} (s : ContextState D KeptAttr GenericType (Unit {0}) GenericSaved (Unit {0}) GenericLoc) → TextsApart (bare s).beside.saved → TypesAreExact generic_behaviour (types_of s) → AreGenericWords (generic_words s)
words_are_generic s apart exact = record { saved = (bare s).beside.saved; types = types_of s; are = refl; apart = apart; exact = exact }

module _ {W : Dialect} (B : Behaviour W) (same : SameAttributes W) (AreWords : Words W → Type 0) (passes : List Pass) (located : Bool) (text : List ℕ) where
  -- whatever text says what stands there at last is what the run makes
  pub run_made : (f g : Forest context_ids W) (words later : Words W) (types : ℕ) (root : ArenaIndex) (out : List ℕ) → ((operations : List ArenaIndex) × Says f words true text operations × Encloses f words root operations)
      → AreWords words × IsClosed f (an_op root) × WellFormed f types → PassesLead B same root passes f g → later ≡ words → Says g later located out (root ∷ []) → Optimises B same AreWords passes located text out
  run_made f g words later types root out (operations, said, encloses) (are_words, closed, formed) led same printed =
      record {
        before = f;
        after = g;
        words = words;
        are_words = are_words;
        types = types;
        operations = operations;
        root = root;
        read = said;
        encloses = encloses;
        closed = closed;
        formed = formed;
        led = led;
        printed = subst (λ (w : Words W). Says g w located out (root ∷ [])) same printed;
      }
