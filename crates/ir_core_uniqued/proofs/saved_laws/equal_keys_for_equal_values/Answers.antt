use Rattle.std.proofs.Common.{sym, ◌∙◌}
use Rattle.ir_model.proofs.Saving.{saved_are_exact}
use Rattle.ir_core_uniqued.proofs.SavedLemmas.{lawful}
use Rattle.ir_core_uniqued.proofs.saved_laws.equal_keys_for_equal_values.Goals as goal
use Rattle.ir_core_records.specs.DialectAnswers.{kinds_of}

-- places are equal exactly where what is saved is, and that is equal exactly where the values are
pub returns : goal.returns
returns g c beside a b =
    let K = kinds_of g.D.Dialects g.D.Saved.PartialEq.eq in
    let places = (saved_are_exact _ K beside (g.T.SavedValue.saved_of a) (lawful _ _ _ _ _ _ g.met.D.Saved.Eq.laws g.met.D.Dialects.saved_kinds)).places (g.T.SavedValue.saved_of b) in
    let equal = g.met.T.SavedValue.equal_saved a b in
    (λ h. sym equal ∙ places.0 h, λ h. places.1 (equal ∙ h))
