use Rattle.ir_model.proofs.AnswerRows.{answer_rows}
use Rattle.ir_model.proofs.VerifierRows.{verifier_rows}
use Rattle.ir_model.proofs.verification_laws.verification_rows.Goals as goal

pub returns-clause-answers : goal.returns-clause-answers
returns-clause-answers c = answer_rows

pub returns-clause-codes : goal.returns-clause-codes
returns-clause-codes c = verifier_rows
