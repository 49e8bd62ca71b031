use Rattle.std.proofs.Common.{◌≡◌, ◌∙◌, ap, refl, subst, sym}
use Rattle.ir_model.specs.Faults.{the_entity, the_attribute, the_type, the_value}
use Rattle.ir_model.specs.Forest.{an_op, a_block, a_region}
use Rattle.ir_model.specs.VerifyAnswers.{AllIsWell, MayAnswer}
use Rattle.ir_core_records.specs.Meaning.{value_of}
use Rattle.ir_view_parts.specs.State.{forest_of, types_of}
use Rattle.ir_verify.specs.Shown.{checks_in}
use Rattle.ir_verify.specs.Told.{told}
use Rattle.ir_verify.proofs.Handles.{if-err, on-ok, one-key}
use Rattle.ir_verify.proofs.Roots.{all-told, all-well}
use Rattle.ir_verify.proofs.verify.TypeHandleVerify.verify.Goals as goal
use Rattle.ir_core_records.specs.DialectAnswers.{behaviour_of, kinds_of}

pub returns-clause-well : goal.returns-clause-well
returns-clause-well g c =
    let B = behaviour_of g.D.Dialects g.D.TypeKey.PartialEq.eq in
    let K = kinds_of g.D.Dialects g.D.Saved.PartialEq.eq in
    let s = c.args.ctx.now in
    let ks = checks_in K (g.V.Verifiers.handed_in c.args.verifiers.now) s in
    let r = the_type c.deref.result.now in
    on-ok c.check_type.result (AllIsWell B (forest_of s) (types_of s) ks r) _ (λ w root is. subst (AllIsWell B (forest_of s) (types_of s) ks) (sym (is.holds ∙ ap the_type (one-key B (forest_of s) (types_of s) ks c.args.self.now.place c.deref.result.now c.deref.ensures is.value.key (record { value = is.value; found = is.found; holds = refl })))) w) (all-well B (forest_of s) (types_of s) ks r c.check_type.result (c.check_type.ensures))

pub returns-clause-fault : goal.returns-clause-fault
returns-clause-fault g c =
    let B = behaviour_of g.D.Dialects g.D.TypeKey.PartialEq.eq in
    let K = kinds_of g.D.Dialects g.D.Saved.PartialEq.eq in
    let s = c.args.ctx.now in
    let ks = checks_in K (g.V.Verifiers.handed_in c.args.verifiers.now) s in
    let r = the_type c.deref.result.now in
    if-err c.check_type.result (λ e. MayAnswer B (forest_of s) (types_of s) ks r (told e)) _ (λ e w root is. subst (λ z. MayAnswer B (forest_of s) (types_of s) ks z (told e)) (sym (is.holds ∙ ap the_type (one-key B (forest_of s) (types_of s) ks c.args.self.now.place c.deref.result.now c.deref.ensures is.value.key (record { value = is.value; found = is.found; holds = refl })))) w) (all-told B (forest_of s) (types_of s) ks r c.check_type.result (c.check_type.ensures))
