use Rattle.ir_core_context.specs.State.{bare}
use Rattle.ir_core_uniqued.proofs.SavedLemmas.{kind-is, lawful, saved-known, saved-there}
use Rattle.ir_core_uniqued.proofs.uniqued.save.Goals as goal
use Rattle.ir_core_records.specs.DialectAnswers.{kinds_of}

pub returns-clause-there : goal.returns-clause-there
returns-clause-there g c =
    let K = kinds_of g.D.Dialects g.D.Saved.PartialEq.eq in
    saved-there K (lawful _ _ _ _ _ _ g.met.D.Saved.Eq.laws g.met.D.Dialects.saved_kinds) (bare c.args.ctx.now).beside (bare c.save_value.new.self).beside
    (g.T.SavedValue.saved_of c.args.value) c.to_saved.result c.at.result.place c.in_ok-place.place c.to_saved.ensures c.in_ok-place.ensures.place c.in_ok-place.ensures.saved c.at.ensures

pub returns-clause-known : goal.returns-clause-known
returns-clause-known g c =
    let K = kinds_of g.D.Dialects g.D.Saved.PartialEq.eq in
    saved-known K (lawful _ _ _ _ _ _ g.met.D.Saved.Eq.laws g.met.D.Dialects.saved_kinds) (bare c.args.ctx.now).beside (bare c.save_value.new.self).beside
    (g.T.SavedValue.saved_of c.args.value) c.to_saved.result c.at.result.place c.in_ok-place.place c.to_saved.ensures c.in_ok-place.ensures.place c.in_ok-place.ensures.saved c.at.ensures
    g.T.SavedValue.KIND
    (kind-is g.D.Dialects.saved_kind_of g.T.SavedValue.KIND g.T.SavedValue.saved_of g.T.SavedValue.value_of c.args.value (g.met.T.SavedValue.given_back c.args.value) (g.met.T.SavedValue.of_kind (g.T.SavedValue.saved_of c.args.value)))
