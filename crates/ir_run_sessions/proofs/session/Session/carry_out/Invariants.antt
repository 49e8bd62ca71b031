use Rattle.std.proofs.Common.{◌≡◌, map, length, vec_len, vec_capacity}
use Rattle.ir_model.specs.Sessions.{Run}
use Rattle.ir_run_sessions.specs.SessionEdits.{edit_of}
use Rattle.ir_run_sessions.specs.SessionState.{plain}
use Rattle.ir_run_sessions.proofs.session.Session.carry_out.Given as goal
use Rattle.ir_core_records.specs.DialectAnswers.{behaviour_of}

abbrev pub invariant-loop-edit : goal.invariant-loop-edit
invariant-loop-edit g l =
    Run (behaviour_of g.D.Dialects g.D.TypeKey.PartialEq.eq) (plain l.fn.self) (map edit_of l.yielded) l.answers.items (plain l.self)
    × (vec_len l.answers ≡ length l.yielded) × (vec_capacity l.answers ≡ vec_len l.fn.edits)
