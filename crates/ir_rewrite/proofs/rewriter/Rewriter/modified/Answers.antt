use Rattle.std.proofs.Common.{refl, sym, ◌∙◌, ◌≡◌, Err, rules}
use Rattle.ir_checked_core.specs.Answers.{out_of_memory}
use Rattle.ir_checked_core.specs.declared.error.CheckedErr.TheVariants.{Core}
use Rattle.std.proofs.lemmas.Bool.{false≢true}
use Rattle.ir_rewrite.proofs.Notes.{adds_still}
use Rattle.ir_rewrite.proofs.Passed.{lacked, lacked_as, on_err}
use Rattle.ir_rewrite.proofs.rewriter.Rewriter.modified.Goals as goal

pub returns-then-not-is_live-clause-noted : goal.returns-then-not-is_live-clause-noted
returns-then-not-is_live-clause-noted g c = λ live. absurd (false≢true (sym c.if-not-is_live.true ∙ c.is_live.ensures.1 live))

pub returns-then-not-is_live-clause-dead : goal.returns-then-not-is_live-clause-dead
returns-then-not-is_live-clause-dead g c = λ _. (refl, refl)

pub returns-in_err-note_users-clause-dead : goal.returns-in_err-note_users-clause-dead
returns-in_err-note_users-clause-dead g c = λ dead. absurd (dead (c.is_live.ensures.0 c.if-not-is_live.false))

pub returns-in_err-note_users-clause-partly : goal.returns-in_err-note_users-clause-partly
returns-in_err-note_users-clause-partly g c = on_err _ c.note_users.ensures.noted

pub returns-in_err-push-clause-dead : goal.returns-in_err-push-clause-dead
returns-in_err-push-clause-dead g c = λ dead. absurd (dead (c.is_live.ensures.0 c.if-not-is_live.false))

pub returns-in_err-push-clause-partly : goal.returns-in_err-push-clause-partly
returns-in_err-push-clause-partly g c = on_err _ (adds_still c.args.self.now.changes.items c.note_users.new.changes.items _ c.note_users.ensures.noted c.in_err-push.ensures.items)

pub returns-clause-noted : goal.returns-clause-noted
returns-clause-noted g c = λ _. (c.note_users.new.changes.items, c.note_users.ensures.noted, c.in_ok-push.ensures.items)

pub returns-clause-dead : goal.returns-clause-dead
returns-clause-dead g c = λ dead. absurd (dead (c.is_live.ensures.0 c.if-not-is_live.false))

pub returns-in_err-note_users-clause-memory : goal.returns-in_err-note_users-clause-memory
returns-in_err-note_users-clause-memory g c =
    let is : c.from_residual.result ≡ Err (Core c.in_err-note_users.field-0.0) = search rules in
    lacked _ (lacked_as _ _ is c.in_err-note_users.ensures.memory)

pub returns-in_err-push-clause-memory : goal.returns-in_err-push-clause-memory
returns-in_err-push-clause-memory g c =
    let is : c.from_residual-in_err-push.result ≡ Err out_of_memory = search rules in
    lacked _ is
