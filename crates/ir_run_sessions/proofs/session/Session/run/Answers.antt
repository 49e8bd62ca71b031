use Rattle.std.proofs.Common.{map}
use Rattle.ir_run_sessions.specs.SessionEdits.{edit_of}
use Rattle.ir_run_sessions.proofs.SessionRuns.{answered_at_cuts}
use Rattle.ir_run_sessions.proofs.session.Session.run.Goals as goal

pub returns-clause-gone_at_cuts : goal.returns-clause-gone_at_cuts
returns-clause-gone_at_cuts g c = answered_at_cuts _ _ (map edit_of c.args.edits.items) _ c.carry_out-result.result (λ answers. answers.items) c.carry_out-result.ensures.was_sound c.carry_out-result.ensures.headline
