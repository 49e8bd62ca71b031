use Rattle.std.proofs.Common.{subst, map, arith}
use Rattle.std.proofs.lemmas.List.{length_push}
use Rattle.ir_model.specs.Soundness.{Sound}
use Rattle.ir_model.proofs.RefusedForGood.{gone_for_good}
use Rattle.ir_run_sessions.specs.SessionEdits.{edit_of}
use Rattle.ir_run_sessions.specs.SessionState.{SessionState, plain}
use Rattle.ir_run_sessions.specs.SessionLists.{map-push}
use Rattle.ir_run_sessions.proofs.SessionRuns.{run-more, run_keys}
use Rattle.ir_run_sessions.proofs.session.Session.carry_out.Goals as goal

pub loop-edit-preserved : goal.loop-edit-preserved
loop-edit-preserved g c = (
  rw (map-push, c.push_reserved.ensures.items)
      (run-more _ (map edit_of c.loop-edit.yielded) _ c.loop-edit.answers.items (plain c.loop-edit.self) (edit_of c.in-Some.edit) c.step-answer.result (plain c.step-answer.new.self) c.loop-edit.invariant.0 c.step-answer.ensures),
  omega (arith, c.push_reserved.ensures.len, c.loop-edit.invariant.1, length_push c.loop-edit.yielded c.in-Some.edit),
  cc (c.push_reserved.ensures.capacity, c.loop-edit.invariant.2),
)

pub returns-clause-stays_gone : goal.returns-clause-stays_gone
returns-clause-stays_gone g c =
    gone_for_good _ (map edit_of c.loop-edit.yielded) _ _ c.loop-edit.answers.items
    (subst (λ (x : SessionState g.row.D.Denot g.row.D-Attr.Denot g.row.D-TypeKey.Denot g.row.D-TypeBody.Denot g.row.D-Saved.Denot g.row.D-Aux.Denot g.row.D-Loc.Denot). Sound (plain x)) c.self.view_is c.self.invariant)
    c.loop-edit.invariant.0

pub returns-clause-was_sound : goal.returns-clause-was_sound
returns-clause-was_sound g c =
    subst (λ (x : SessionState g.row.D.Denot g.row.D-Attr.Denot g.row.D-TypeKey.Denot g.row.D-TypeBody.Denot g.row.D-Saved.Denot g.row.D-Aux.Denot g.row.D-Loc.Denot). Sound (plain x)) c.self.view_is c.self.invariant

pub returns-clause-keys_stay : goal.returns-clause-keys_stay
returns-clause-keys_stay g c = run_keys _ c.loop-edit.yielded _ _ c.loop-edit.answers.items c.loop-edit.invariant.0
