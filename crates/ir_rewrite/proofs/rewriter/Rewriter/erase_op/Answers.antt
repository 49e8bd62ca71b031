use Rattle.std.proofs.Common.{◌≡◌, Err, refl, rules}
use Rattle.ir_checked_core.specs.Answers.{out_of_memory}
use Rattle.ir_checked_core.specs.declared.error.CheckedErr.TheVariants.{Core}
use Rattle.ir_rewrite.proofs.Notes.{adds_none, adds_still}
use Rattle.ir_rewrite.proofs.Passed.{lacked_as, made_lacked, not_unmet, on_refused, on_unmet, passed_on}
use Rattle.ir_rewrite.proofs.rewriter.Rewriter.erase_op.Goals as goal

pub erase-requires-clause-closed : goal.erase-requires-clause-closed
erase-requires-clause-closed g c = c.in_ok-check_erase.ensures.closed refl

pub returns-in_err-check_erase-clause-memory : goal.returns-in_err-check_erase-clause-memory
returns-in_err-check_erase-clause-memory g c =
    let is : c.from_residual.result ≡ Err c.in_err-check_erase.field-0.0 = search rules in
    passed_on (Unit {0}) c.in_err-check_erase.field-0.0 c.from_residual.result is c.in_err-check_erase.ensures.told

pub returns-in_err-check_erase-clause-told : goal.returns-in_err-check_erase-clause-told
returns-in_err-check_erase-clause-told g c = on_unmet _ refl

pub returns-in_err-check_erase-clause-told_partly : goal.returns-in_err-check_erase-clause-told_partly
returns-in_err-check_erase-clause-told_partly g c = on_refused _ (adds_none c.args.self.now.changes.items)

pub returns-in_err-note_definers-clause-told_partly : goal.returns-in_err-note_definers-clause-told_partly
returns-in_err-note_definers-clause-told_partly g c = on_refused _ c.note_definers.ensures.noted

pub returns-in_err-push-clause-told_partly : goal.returns-in_err-push-clause-told_partly
returns-in_err-push-clause-told_partly g c = on_refused _ (adds_still c.args.self.now.changes.items c.note_definers.new.changes.items _ c.note_definers.ensures.noted c.in_err-push.ensures.items)

pub returns-clause-noted : goal.returns-clause-noted
returns-clause-noted g c = (c.note_definers.new.changes.items, c.note_definers.ensures.noted, c.in_ok-push.ensures.items)

pub returns-in_err-note_definers-clause-memory : goal.returns-in_err-note_definers-clause-memory
returns-in_err-note_definers-clause-memory g c =
    let is : c.from_residual-in_err-note_definers.result ≡ Err (Core c.in_err-note_definers.field-0.0) = search rules in
    made_lacked _ (lacked_as _ _ is c.in_err-note_definers.ensures.memory)

pub returns-in_err-note_definers-clause-told : goal.returns-in_err-note_definers-clause-told
returns-in_err-note_definers-clause-told g c =
    let is : c.from_residual-in_err-note_definers.result ≡ Err (Core c.in_err-note_definers.field-0.0) = search rules in
    not_unmet _ _ (lacked_as _ _ is c.in_err-note_definers.ensures.memory)

pub returns-in_err-push-clause-memory : goal.returns-in_err-push-clause-memory
returns-in_err-push-clause-memory g c =
    let is : c.from_residual-in_err-push.result ≡ Err out_of_memory = search rules in
    made_lacked _ is

pub returns-in_err-push-clause-told : goal.returns-in_err-push-clause-told
returns-in_err-push-clause-told g c =
    let is : c.from_residual-in_err-push.result ≡ Err out_of_memory = search rules in
    not_unmet _ _ is
