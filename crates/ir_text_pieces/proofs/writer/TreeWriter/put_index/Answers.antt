use Rattle.std.proofs.Common.{refl, arith}
use Rattle.std.proofs.lemmas.Grind.{common_steps}
use Rattle.ir_text_pieces.specs.declared.writer.TreeWriter.{TreeWriter}
use Rattle.ir_text_pieces.proofs.Growing.{PiecesStand-goes, PiecesStand-grows, kept}
use Rattle.ir_text_pieces.proofs.writer.TreeWriter.put_index.Goals as goal

pub returns-in_err-span-clause-stand : goal.returns-in_err-span-clause-stand
returns-in_err-span-clause-stand c = λ h.
    let g = c.piece.ensures.front in
    PiecesStand-goes c.args.self.now _ g (kept _ _ _ g) (kept _ _ _ g) (kept _ _ _ g) (kept _ _ _ g) (kept _ _ _ g) (record { mark = c.piece.ensures.mark; written = c.piece.ensures.written }) refl h

pub returns-clause-stand : goal.returns-clause-stand
returns-clause-stand c = λ h.
    let g = c.piece.ensures.front in
    let between : TreeWriter = record c.args.self.now { description = c.piece.new.to; indices = c.piece.new.self } in
    PiecesStand-grows between _ (grind (arith, common_steps)) refl refl refl refl refl refl refl (PiecesStand-goes c.args.self.now between g (kept _ _ _ g) (kept _ _ _ g) (kept _ _ _ g) (kept _ _ _ g) (kept _ _ _ g) (record { mark = c.piece.ensures.mark; written = c.piece.ensures.written }) refl h)
