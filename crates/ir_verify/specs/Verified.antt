-- What verification answers of a context, by the tables of the dialect and what is handed in.
use Rattle.std.specs.Prelude.{ℕ, Bool, List, Result}
use Rattle.ir_model.specs.declared.ids.ArenaIndex.{ArenaIndex}
use Rattle.ir_model.specs.ContextIds.{context_ids}
use Rattle.ir_model.specs.Faults.{Checks, Root}
use Rattle.ir_model.specs.Forest.{Definition, Entity, Text}
use Rattle.ir_model.specs.Verifiers.{Verifiers}
use Rattle.ir_model.specs.VerifyAnswers.{AllIsWell, MayAnswer}
use Rattle.ir_base_dialects.specs.declared.dialects.Dialects as dialects
use Rattle.ir_core_records.specs.DialectAnswers.{behaviour_of, kinds_of}
use Rattle.ir_core_records.specs.Meaning.{closed}
use Rattle.ir_view_parts.specs.State.{ContextState, forest_of, types_of}
use Rattle.ir_verify.specs.declared.error.VerifyErr.{VerifyErr}
use Rattle.ir_verify.specs.Parts.{FaultAt, Finds, FindsAt, NoFault, RunAt, RunsOnAttributes, RunsOnOp, RunsOnTypes}
use Rattle.ir_verify.specs.Shown.{Shown, checks_in}
use Rattle.ir_verify.specs.Told.{told}

module _ {D A K B S X L : Type 0} (tables : dialects.Ghosts D A K B S X L) (same_key : K → K → Bool) (same_saved : S → S → Bool) (verifiers : Verifiers (closed A K B S X L) (Shown (closed A K B S X L))) (s : ContextState D A K B S X L) where
  -- the checks that are run in the context
  abbrev pub the_checks : Checks (closed A K B S X L)
  the_checks = checks_in (kinds_of tables same_saved) verifiers s

  -- no fault stands at the root
  abbrev pub AllIsWellIn : Root (closed A K B S X L) → Type 0
  AllIsWellIn root = AllIsWell (behaviour_of tables same_key) (forest_of s) (types_of s) the_checks root

  -- this may be answered of the root
  abbrev pub MayAnswerIn : Root (closed A K B S X L) → VerifyErr → Type 0
  MayAnswerIn root e = MayAnswer (behaviour_of tables same_key) (forest_of s) (types_of s) the_checks root (told e)

  -- the answer is right for the root
  abbrev pub FindsIn : Root (closed A K B S X L) → Result Unit VerifyErr → Type 0
  FindsIn root result = FindsAt (behaviour_of tables same_key) (forest_of s) (types_of s) the_checks root result

  -- the answer is right for the entity alone, without what is inside it
  abbrev pub FindsAlone : Entity context_ids → Result Unit VerifyErr → Type 0
  FindsAlone entity result = Finds the_checks (FaultAt (behaviour_of tables same_key) (forest_of s) (types_of s) entity) (RunAt (behaviour_of tables same_key) (forest_of s) (types_of s) the_checks entity) result

  -- the answer is right where the checks of an operation are run, and nothing else is looked for
  abbrev pub ChecksOnOp : ArenaIndex → Result Unit VerifyErr → Type 0
  ChecksOnOp op result = Finds the_checks NoFault (RunsOnOp (behaviour_of tables same_key) (forest_of s) (types_of s) the_checks op) result

  -- so for those of attributes
  abbrev pub ChecksOnAttributes : List (Text × A) → Result Unit VerifyErr → Type 0
  ChecksOnAttributes pairs result = Finds the_checks NoFault (RunsOnAttributes (behaviour_of tables same_key) (forest_of s) (types_of s) the_checks pairs) result

  -- and for those of the types of results or arguments
  abbrev pub ChecksOnTypes : List (Definition context_ids (closed A K B S X L)) → Result Unit VerifyErr → Type 0
  ChecksOnTypes definitions result = Finds the_checks NoFault (RunsOnTypes (behaviour_of tables same_key) (forest_of s) (types_of s) the_checks definitions) result
