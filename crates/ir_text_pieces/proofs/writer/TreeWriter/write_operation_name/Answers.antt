use Rattle.std.proofs.Common.{refl, arith}
use Rattle.std.proofs.lemmas.Grind.{common_steps}
use Rattle.ir_text_pieces.proofs.Growing.{PiecesStand-grows}
use Rattle.ir_text_pieces.proofs.writer.TreeWriter.write_operation_name.Goals as goal

pub returns-in_err-write_quoted-clause-stand : goal.returns-in_err-write_quoted-clause-stand
returns-in_err-write_quoted-clause-stand c = λ h. PiecesStand-grows c.args.self.now _ (grind (arith, common_steps)) refl refl refl refl refl refl refl h

pub returns-in_err-span-clause-stand : goal.returns-in_err-span-clause-stand
returns-in_err-span-clause-stand c = λ h. PiecesStand-grows c.args.self.now _ (grind (arith, common_steps)) refl refl refl refl refl refl refl h

pub returns-in_err-insert-clause-stand : goal.returns-in_err-insert-clause-stand
returns-in_err-insert-clause-stand c = λ h. PiecesStand-grows c.args.self.now _ (grind (arith, common_steps)) refl refl refl refl refl refl refl h

pub returns-clause-stand : goal.returns-clause-stand
returns-clause-stand c = λ h. PiecesStand-grows c.args.self.now _ (grind (arith, common_steps)) refl refl refl refl refl refl refl h
