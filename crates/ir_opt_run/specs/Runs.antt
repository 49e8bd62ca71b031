-- What a run makes of a text.
use Rattle.std.specs.Prelude.{ℕ, ◌++◌, Bool, true, false, List, [], ◌∷◌, Option, codes}
use Rattle.std.specs.Io.KnownBytes.{Appends}
use Rattle.ir_model.specs.declared.ids.ArenaIndex.{ArenaIndex}
use Rattle.ir_model.specs.ContextIds.{context_ids}
use Rattle.ir_model.specs.Forest.{Dialect, Behaviour, Forest, an_op}
use Rattle.ir_model.specs.Nesting.{IsClosed, WellFormed}
use Rattle.ir_model_passes.specs.Meaning.{SameAttributes}
use Rattle.ir_text_described.specs.Words.{Words}
use Rattle.ir_text_run.specs.Parts.{IsOnePart, IsDivided}
use Rattle.ir_text_spelling.specs.Writings.{AppendsFront}
use Rattle.ir_opt_run.specs.declared.options.Pass.{Pass}
use Rattle.ir_opt_run.specs.Passes.{PassesLead}
use Rattle.generic_text.specs.Enclosing.{Encloses}
use Rattle.ir_opt_run.specs.Modules.{Says}

-- In words of the dialect, the same for both, the text says what operations of a forest are, which stand alone or in a module, and nothing outside names what is defined inside; the passes lead from that forest to another; and the output says what the operation around all is there.
pub record Optimises {W : Dialect} (B : Behaviour W) (same : SameAttributes W) (AreWords : Words W → Type 0) (passes : List Pass) (located : Bool) (text out : List ℕ) : Type 0 where
  pub before : Forest context_ids W
  pub after : Forest context_ids W
  pub words : Words W
  pub are_words : AreWords words
  pub types : ℕ
  pub operations : List ArenaIndex
  pub root : ArenaIndex
  pub read : Says before words true text operations
  pub encloses : Encloses before words root operations
  pub closed : IsClosed before (an_op root)
  pub formed : WellFormed before types
  pub led : PassesLead B same root passes before after
  pub printed : Says after words located out (root ∷ [])

-- Each part of the text, of those that its dividing lines part, is optimised, and the output is what comes of them, with the line between each two.
pub data OptimisesParts {W : Dialect} (B : Behaviour W) (same : SameAttributes W) (AreWords : Words W → Type 0) (passes : List Pass) (located : Bool) : List ℕ → List ℕ → Type 0 where
  last : {text out : List ℕ} → IsOnePart text → Optimises B same AreWords passes located text out → OptimisesParts B same AreWords passes located text out
  divided : {text part rest out others : List ℕ} → IsDivided text part rest → Optimises B same AreWords passes located part out → OptimisesParts B same AreWords passes located rest others → OptimisesParts B same AreWords passes located text (out ++ (codes "// -----\n" ++ others))

-- what a run makes of a text, taken as one or by its parts
abbrev pub Makes : {W : Dialect} → Behaviour W → SameAttributes W → (Words W → Type 0) → List Pass → Bool → Bool → List ℕ → List ℕ → Type 0
Makes B same AreWords passes located true text out = OptimisesParts B same AreWords passes located text out
Makes B same AreWords passes located false text out = Optimises B same AreWords passes located text out

-- the known bytes grew by what a run makes of the text
abbrev pub Prints : {W : Dialect} → Behaviour W → SameAttributes W → (Words W → Type 0) → List Pass → Bool → Bool → List ℕ → Option (List ℕ) → Option (List ℕ) → Type 0
Prints B same AreWords passes located split text old new = (out : List ℕ) × Makes B same AreWords passes located split text out × Appends old new out

-- the known bytes grew by a front part of what a run makes of the text
abbrev pub PrintsFront : {W : Dialect} → Behaviour W → SameAttributes W → (Words W → Type 0) → List Pass → Bool → Bool → List ℕ → Option (List ℕ) → Option (List ℕ) → Type 0
PrintsFront B same AreWords passes located split text old new = (out : List ℕ) × Makes B same AreWords passes located split text out × AppendsFront old new out
