use Rattle.std.proofs.Common.{refl}
use Rattle.ir_text_pieces.proofs.Growing.{PiecesStand-goes, kept}
use Rattle.ir_text_pieces.proofs.writer.TreeWriter.value_piece.Goals as goal

pub returns-in-Argument-clause-stand : goal.returns-in-Argument-clause-stand
returns-in-Argument-clause-stand c = λ h.
    let g = c.piece.ensures.front in
    PiecesStand-goes c.args.self.now _ g (record { mark = c.piece.ensures.mark; written = c.piece.ensures.written }) (kept _ _ _ g) (kept _ _ _ g) (kept _ _ _ g) (kept _ _ _ g) (kept _ _ _ g) refl h

pub returns-in-Plain-clause-stand : goal.returns-in-Plain-clause-stand
returns-in-Plain-clause-stand c = λ h.
    let g = c.piece-in-Plain.ensures.front in
    PiecesStand-goes c.args.self.now _ g (kept _ _ _ g) (record { mark = c.piece-in-Plain.ensures.mark; written = c.piece-in-Plain.ensures.written }) (kept _ _ _ g) (kept _ _ _ g) (kept _ _ _ g) (kept _ _ _ g) refl h

pub returns-in-Outside-clause-stand : goal.returns-in-Outside-clause-stand
returns-in-Outside-clause-stand c = λ h.
    let g = c.piece-in-Outside.ensures.front in
    PiecesStand-goes c.args.self.now _ g (kept _ _ _ g) (kept _ _ _ g) (record { mark = c.piece-in-Outside.ensures.mark; written = c.piece-in-Outside.ensures.written }) (kept _ _ _ g) (kept _ _ _ g) (kept _ _ _ g) refl h
