use Rattle.std.proofs.Common.{◌≡◌, ◌∙◌, Err, Ok, Some, map, refl, sym, ap, subst, rules, get_or, slice_get}
use Rattle.std.proofs.lemmas.Option.{slice_get-get_or}
use Rattle.ir_model.specs.Faults.{Fault}
use Rattle.ir_model.specs.Nesting.{In}
use Rattle.ir_model.proofs.Back.{slice_get-in}
use Rattle.ir_model.proofs.Nests.{In-map, In-map_back}
use Rattle.ir_core_records.specs.declared.record.Definition.{Definition}
use Rattle.ir_core_records.specs.Meaning.{definition_of}
use Rattle.ir_view_parts.specs.State.{forest_of, types_of}
use Rattle.ir_verify.specs.Parts.{IsThere, NoFault, RunsOnHandle}
use Rattle.ir_verify.specs.Shown.{checks_in}
use Rattle.ir_verify.proofs.Handles.{handle-finds, none-of, some-err}
use Rattle.ir_verify.proofs.Loops.{before-all, before-more}
use Rattle.ir_verify.proofs.checks.check_types.Goals as goal
use Rattle.ir_core_records.specs.DialectAnswers.{behaviour_of, kinds_of}

pub deref-requires : goal.deref-requires
deref-requires g c =
    let xs = c.args.definitions.now in
    let i = c.loop-definition.definition-index in
    let at : slice_get xs i ≡ Some c.definition-item.result = slice_get-get_or xs i c.definition-item.result c.loop-definition-test.true ∙ ap Some (sym c.definition-item.is) in
    rw c.at.ensures (c.requires c.definition-item.result (slice_get-in xs i c.definition-item.result at))

pub returns-in_err-check_type : goal.returns-in_err-check_type
returns-in_err-check_type g c =
    let is : c.from_residual.result ≡ Err c.in_err-check_type.field-0.0 = search rules in
    let B = behaviour_of g.D.Dialects g.D.TypeKey.PartialEq.eq in
    let K = kinds_of g.D.Dialects g.D.Saved.PartialEq.eq in
    let s = c.args.ctx.now in
    let ks = checks_in K (g.V.Verifiers.handed_in c.args.verifiers.now) s in
    let xs = c.args.definitions.now in
    let i = c.loop-definition.definition-index in
    let d = c.definition-item.result in
    let at : slice_get xs i ≡ Some d = slice_get-get_or xs i d c.loop-definition-test.true ∙ ap Some (sym c.definition-item.is) in
    let plain = definition_of {A = g.row.D-Attr.Denot} {K = g.row.D-TypeKey.Denot} {B = g.row.D-TypeBody.Denot} {S = g.row.D-Saved.Denot} {X = g.row.D-Aux.Denot} {L = g.row.D-Loc.Denot} in
    let found = handle-finds B (forest_of s) (types_of s) ks d.ty c.deref.result.now (rw c.at.ensures at c.deref.ensures) (Err c.in_err-check_type.field-0.0) c.in_err-check_type.ensures in
    rw is (some-err B (forest_of s) (types_of s) ks (map plain xs) (λ x. RunsOnHandle B (forest_of s) (types_of s) ks x.ty) (plain d) (In-map plain d xs (slice_get-in xs i d at)) c.in_err-check_type.field-0.0 found)

pub loop-definition-preserved : goal.loop-definition-preserved
loop-definition-preserved g c =
    let B = behaviour_of g.D.Dialects g.D.TypeKey.PartialEq.eq in
    let K = kinds_of g.D.Dialects g.D.Saved.PartialEq.eq in
    let s = c.args.ctx.now in
    let ks = checks_in K (g.V.Verifiers.handed_in c.args.verifiers.now) s in
    let xs = c.args.definitions.now in
    let i = c.loop-definition.definition-index in
    let d = c.definition-item.result in
    let at : slice_get xs i ≡ Some d = slice_get-get_or xs i d c.loop-definition-test.true ∙ ap Some (sym c.definition-item.is) in
    let found = handle-finds B (forest_of s) (types_of s) ks d.ty c.deref.result.now (rw c.at.ensures at c.deref.ensures) (Ok tt) c.in_ok-check_type.ensures in
    before-more (λ (x : Definition). (y : Fault) → IsThere ks NoFault (RunsOnHandle B (forest_of s) (types_of s) ks x.ty) y → ⊥) xs i d c.loop-definition.invariant at found

pub returns : goal.returns
returns g c =
    let B = behaviour_of g.D.Dialects g.D.TypeKey.PartialEq.eq in
    let K = kinds_of g.D.Dialects g.D.Saved.PartialEq.eq in
    let s = c.args.ctx.now in
    let ks = checks_in K (g.V.Verifiers.handed_in c.args.verifiers.now) s in
    let xs = c.args.definitions.now in
    let plain = definition_of {A = g.row.D-Attr.Denot} {K = g.row.D-TypeKey.Denot} {B = g.row.D-TypeBody.Denot} {S = g.row.D-Saved.Denot} {X = g.row.D-Aux.Denot} {L = g.row.D-Loc.Denot} in
    let all = before-all (λ (x : Definition). (y : Fault) → IsThere ks NoFault (RunsOnHandle B (forest_of s) (types_of s) ks x.ty) y → ⊥) xs c.loop-definition.definition-index c.loop-definition.invariant c.loop-definition-test.false in
    none-of B (forest_of s) (types_of s) ks (map plain xs) (λ x. RunsOnHandle B (forest_of s) (types_of s) ks x.ty)
    (λ x h. (let m = In-map_back plain x xs h in subst (λ z. (y : Fault) → IsThere ks NoFault (RunsOnHandle B (forest_of s) (types_of s) ks z.ty) y → ⊥) (sym m.2) (all m.0 m.1)))
