-- What verification and the checks answer, in the words of the model.
use Rattle.std.specs.Prelude.{ℕ}
use Rattle.ir_model.specs.Verifiers.{Answers}
use Rattle.ir_model.specs.VerifyAnswers.{VerifyErr as Told, block_fault, missing_terminator, terminator_not_last, no_parent, entry_has_pred, operand_not_use_of_def, verifier_fault, out_of_memory}
use Rattle.ir_verify.specs.declared.error.CheckErr.{CheckErr}
use Rattle.ir_verify.specs.declared.error.CheckErr.TheVariants.{Code, OutOfMemory as CheckRanOut}
use Rattle.ir_verify.specs.declared.error.BasicBlockVerifyErr.{BasicBlockVerifyErr}
use Rattle.ir_verify.specs.declared.error.BasicBlockVerifyErr.TheVariants.{MissingTerminator, TerminatorNotLast, NoParent, EntryHasPred}
use Rattle.ir_verify.specs.declared.error.DefUseVerifyErr.{DefUseVerifyErr}
use Rattle.ir_verify.specs.declared.error.VerifyErr.{VerifyErr}
use Rattle.ir_verify.specs.declared.error.VerifyErr.TheVariants.{BasicBlockVerifyErr as OfBlock, DefUseVerifyErr as OfUse, VerifierErr as OfVerifier, OutOfMemory}

-- what is told of a block
abbrev pub block_told : BasicBlockVerifyErr → Told
block_told (MissingTerminator name) = block_fault missing_terminator name
block_told (TerminatorNotLast name) = block_fault terminator_not_last name
block_told (NoParent name) = block_fault no_parent name
block_told (EntryHasPred name) = block_fault entry_has_pred name

-- what verification tells, in the model's words
abbrev pub told : VerifyErr → Told
told (OfBlock e) = block_told e
told (OfUse e) = operand_not_use_of_def
told (OfVerifier e) = verifier_fault e.code
told OutOfMemory = out_of_memory

-- the check may fail so: the code stands, or memory may run out
abbrev pub MayFail : {X S : Type 0} → Answers X S → X → S → CheckErr → Type 0
MayFail answers x state (Code code) = answers.Code x state code
MayFail answers x state CheckRanOut = answers.Memory x state

-- the check may find nothing: no code stands
abbrev pub MayPass : {X S : Type 0} → Answers X S → X → S → Type 0
MayPass answers x state = (code : ℕ) → answers.Code x state code → ⊥

-- what verification answers where a check fails so
abbrev pub of_check : CheckErr → VerifyErr
of_check (Code code) = OfVerifier (record { code = code })
of_check CheckRanOut = OutOfMemory
