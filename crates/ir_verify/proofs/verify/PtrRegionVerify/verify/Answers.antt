use Rattle.std.proofs.Common.{◌≡◌, ◌∙◌, ap, subst, sym}
use Rattle.ir_model.specs.Faults.{the_entity, the_attribute, the_type, the_value}
use Rattle.ir_model.specs.Forest.{an_op, a_block, a_region}
use Rattle.ir_model.specs.VerifyAnswers.{AllIsWell, MayAnswer}
use Rattle.ir_core_records.specs.Meaning.{value_of}
use Rattle.ir_view_parts.specs.State.{forest_of, types_of}
use Rattle.ir_verify.specs.Shown.{checks_in}
use Rattle.ir_verify.specs.Told.{told}
use Rattle.ir_verify.proofs.Handles.{if-err, on-ok}
use Rattle.ir_verify.proofs.Roots.{all-told, all-well}
use Rattle.ir_verify.proofs.verify.PtrRegionVerify.verify.Goals as goal
use Rattle.ir_core_records.specs.DialectAnswers.{behaviour_of, kinds_of}

pub returns-clause-well : goal.returns-clause-well
returns-clause-well g c =
    let B = behaviour_of g.D.Dialects g.D.TypeKey.PartialEq.eq in
    let K = kinds_of g.D.Dialects g.D.Saved.PartialEq.eq in
    let s = c.args.ctx.now in
    let ks = checks_in K (g.V.Verifiers.handed_in c.args.verifiers.now) s in
    let r = the_entity (a_region c.args.self.now.index) in
    on-ok c.verify_inside.result (AllIsWell B (forest_of s) (types_of s) ks r) _ (λ w root is. subst (AllIsWell B (forest_of s) (types_of s) ks) (sym is) w) (all-well B (forest_of s) (types_of s) ks r c.verify_inside.result (rw c.index.ensures at c.verify_inside.ensures))

pub returns-clause-fault : goal.returns-clause-fault
returns-clause-fault g c =
    let B = behaviour_of g.D.Dialects g.D.TypeKey.PartialEq.eq in
    let K = kinds_of g.D.Dialects g.D.Saved.PartialEq.eq in
    let s = c.args.ctx.now in
    let ks = checks_in K (g.V.Verifiers.handed_in c.args.verifiers.now) s in
    let r = the_entity (a_region c.args.self.now.index) in
    if-err c.verify_inside.result (λ e. MayAnswer B (forest_of s) (types_of s) ks r (told e)) _ (λ e w root is. subst (λ z. MayAnswer B (forest_of s) (types_of s) ks z (told e)) (sym is) w) (all-told B (forest_of s) (types_of s) ks r c.verify_inside.result (rw c.index.ensures at c.verify_inside.ensures))
