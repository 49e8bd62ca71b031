use Rattle.std.proofs.Common.{refl}
use Rattle.ir_text_pieces.proofs.Growing.{PiecesStand-goes, kept}
use Rattle.ir_text_pieces.proofs.writer.TreeWriter.block_piece.Goals as goal

pub returns-in-Outside-clause-stand : goal.returns-in-Outside-clause-stand
returns-in-Outside-clause-stand c = λ h.
    let g = c.piece.ensures.front in
    PiecesStand-goes c.args.self.now _ g (kept _ _ _ g) (kept _ _ _ g) (kept _ _ _ g) (kept _ _ _ g) (record { mark = c.piece.ensures.mark; written = c.piece.ensures.written }) (kept _ _ _ g) refl h

pub returns-in_default-clause-stand : goal.returns-in_default-clause-stand
returns-in_default-clause-stand c = λ h.
    let g = c.piece-in_default.ensures.front in
    PiecesStand-goes c.args.self.now _ g (kept _ _ _ g) (kept _ _ _ g) (kept _ _ _ g) (record { mark = c.piece-in_default.ensures.mark; written = c.piece-in_default.ensures.written }) (kept _ _ _ g) (kept _ _ _ g) refl h
