use Rattle.std.proofs.Common.{◌≡◌, ◌∙◌, Err, ap, arith, refl, rules, sym}
use Rattle.ir_checked_core.specs.Answers.{out_of_memory}
use Rattle.ir_checked_core.specs.declared.error.CheckedErr.TheVariants.{Core}
use Rattle.std.specs.Prelude.{vec_len}
use Rattle.ir_rewrite.proofs.Notes.{adds_joined, adds_none, adds_still, taken_back}
use Rattle.ir_rewrite.proofs.Passed.{lacked_as, made_lacked, not_unmet, on_made, on_refused, on_unmet, passed_on}
use Rattle.ir_rewrite.proofs.Rest.{same_itself}
use Rattle.ir_rewrite.proofs.rewriter.Rewriter.replace_op.Goals as goal

pub returns-in_err-check_replace-clause-memory : goal.returns-in_err-check_replace-clause-memory
returns-in_err-check_replace-clause-memory g c =
    let is : c.from_residual.result ≡ Err c.in_err-check_replace.field-0.0 = search rules in
    passed_on (Unit {0}) c.in_err-check_replace.field-0.0 c.from_residual.result is c.in_err-check_replace.ensures.told

pub returns-in_err-check_replace-clause-rest : goal.returns-in_err-check_replace-clause-rest
returns-in_err-check_replace-clause-rest g c = on_made _ (same_itself _)

pub returns-in_err-check_replace-clause-told : goal.returns-in_err-check_replace-clause-told
returns-in_err-check_replace-clause-told g c = on_unmet _ refl

pub returns-in_err-check_replace-clause-told_partly : goal.returns-in_err-check_replace-clause-told_partly
returns-in_err-check_replace-clause-told_partly g c = on_refused _ (adds_none c.args.self.now.changes.items)

pub returns-in_err-note_definers-clause-rest : goal.returns-in_err-note_definers-clause-rest
returns-in_err-note_definers-clause-rest g c = on_made _ (same_itself _)

pub returns-in_err-note_definers-clause-told_partly : goal.returns-in_err-note_definers-clause-told_partly
returns-in_err-note_definers-clause-told_partly g c = on_refused _ c.note_definers.ensures.noted

pub returns-in_err-note_users-clause-rest : goal.returns-in_err-note_users-clause-rest
returns-in_err-note_users-clause-rest g c = on_made _ (same_itself _)

pub returns-in_err-note_users-clause-told_partly : goal.returns-in_err-note_users-clause-told_partly
returns-in_err-note_users-clause-told_partly g c =
    on_refused _ (adds_joined c.args.self.now.changes.items c.note_definers.new.changes.items c.note_users.new.changes.items c.note_definers.ensures.noted c.note_users.ensures.noted)

pub returns-in_err-push-clause-rest : goal.returns-in_err-push-clause-rest
returns-in_err-push-clause-rest g c = on_made _ (same_itself _)

pub returns-in_err-push-clause-told_partly : goal.returns-in_err-push-clause-told_partly
returns-in_err-push-clause-told_partly g c =
    let both = adds_joined c.args.self.now.changes.items c.note_definers.new.changes.items c.note_users.new.changes.items c.note_definers.ensures.noted c.note_users.ensures.noted in
    on_refused _ (adds_still c.args.self.now.changes.items c.note_users.new.changes.items _ both c.in_err-push.ensures.items)

pub returns-in-Ok-clause-noted : goal.returns-in-Ok-clause-noted
returns-in-Ok-clause-noted g c =
    let both = adds_joined c.args.self.now.changes.items c.note_definers.new.changes.items c.note_users.new.changes.items c.note_definers.ensures.noted c.note_users.ensures.noted in
    (c.note_users.new.changes.items, both, c.in_ok-push.ensures.items)

pub returns-in-Err-clause-told_partly : goal.returns-in-Err-clause-told_partly
returns-in-Err-clause-told_partly g c =
    let both = adds_joined c.args.self.now.changes.items c.note_definers.new.changes.items c.note_users.new.changes.items c.note_definers.ensures.noted c.note_users.ensures.noted in
    adds_still c.args.self.now.changes.items c.note_users.new.changes.items c.pop.new.self.items both
    (taken_back c.note_users.new.changes.items c.pop.new.self.items _ c.pop.result (vec_len c.push.new.self) c.pop.ensures.variant (omega (arith, c.in_ok-push.ensures.len)) (sym c.in_ok-push.ensures.items ∙ c.pop.ensures.items))

pub returns-in_err-note_definers-clause-memory : goal.returns-in_err-note_definers-clause-memory
returns-in_err-note_definers-clause-memory g c =
    let is : c.from_residual-in_err-note_definers.result ≡ Err (Core c.in_err-note_definers.field-0.0) = search rules in
    made_lacked _ (lacked_as _ _ is c.in_err-note_definers.ensures.memory)

pub returns-in_err-note_definers-clause-told : goal.returns-in_err-note_definers-clause-told
returns-in_err-note_definers-clause-told g c =
    let is : c.from_residual-in_err-note_definers.result ≡ Err (Core c.in_err-note_definers.field-0.0) = search rules in
    not_unmet _ _ (lacked_as _ _ is c.in_err-note_definers.ensures.memory)

pub returns-in_err-note_users-clause-memory : goal.returns-in_err-note_users-clause-memory
returns-in_err-note_users-clause-memory g c =
    let is : c.from_residual-in_err-note_users.result ≡ Err (Core c.in_err-note_users.field-0.0) = search rules in
    made_lacked _ (lacked_as _ _ is c.in_err-note_users.ensures.memory)

pub returns-in_err-note_users-clause-told : goal.returns-in_err-note_users-clause-told
returns-in_err-note_users-clause-told g c =
    let is : c.from_residual-in_err-note_users.result ≡ Err (Core c.in_err-note_users.field-0.0) = search rules in
    not_unmet _ _ (lacked_as _ _ is c.in_err-note_users.ensures.memory)

pub returns-in_err-push-clause-memory : goal.returns-in_err-push-clause-memory
returns-in_err-push-clause-memory g c =
    let is : c.from_residual-in_err-push.result ≡ Err out_of_memory = search rules in
    made_lacked _ is

pub returns-in_err-push-clause-told : goal.returns-in_err-push-clause-told
returns-in_err-push-clause-told g c =
    let is : c.from_residual-in_err-push.result ≡ Err out_of_memory = search rules in
    not_unmet _ _ is

pub returns-in-Err-clause-memory : goal.returns-in-Err-clause-memory
returns-in-Err-clause-memory g c = ap (λ x. Core x) c.in-Err.ensures.memory
