use Rattle.std.proofs.Common.{◌≡◌, ◌∙◌, ◌⊎◌, Err, Ok, map, refl, sym, ap, subst, rules, inl, inr, []}
use Rattle.std.specs.Option.{option_map}
use Rattle.ir_model.specs.Forest.{an_op, of_op}
use Rattle.ir_model.specs.Nesting.{list_of, definitions_of}
use Rattle.ir_core_records.specs.declared.record.Definer.TheVariants.{Op}
use Rattle.ir_core_records.specs.Lists.{in_record}
use Rattle.ir_core_records.specs.Meaning.{op_record, definition_of}
use Rattle.ir_core_records.specs.Tree.{ops_in, tree_of}
use Rattle.ir_view_parts.specs.State.{forest_of, types_of}
use Rattle.ir_verify.specs.Shown.{checks_in}
use Rattle.ir_verify.specs.Parts.{FaultAtOp, IsThere, NoCheck, NoFault, RunAt, RunsOnAttributes, RunsOnOp, RunsOnTypes}
use Rattle.ir_verify.proofs.Alone.{and-last, and-passed, definitions-are, put-as, types-known}
use Rattle.ir_verify.proofs.Ends.{op-no_code}
use Rattle.ir_verify.proofs.Pieces.{from-tells, tells-whole}
use Rattle.ir_verify.proofs.inside.verify_operation_alone.Goals as goal
use Rattle.ir_core_records.specs.DialectAnswers.{behaviour_of, kinds_of}

pub returns-in_err-check_attributes : goal.returns-in_err-check_attributes
returns-in_err-check_attributes g c =
    let is : c.from_residual-in_err-check_attributes.result ≡ Err c.in_err-check_attributes.field-0.0 = search rules in
    let B = behaviour_of g.D.Dialects g.D.TypeKey.PartialEq.eq in
    let K = kinds_of g.D.Dialects g.D.Saved.PartialEq.eq in
    let s = c.args.ctx.now in
    let ks = checks_in K (g.V.Verifiers.handed_in c.args.verifiers.now) s in
    let o = c.args.op.index in
    let f = forest_of s in
    let here = ap (option_map op_record) (rw c.records.ensures at c.at-operation.ensures) in
    let pairs = ap (list_of (λ r. r.attributes)) here ∙ sym c.attributes.ensures in
    rw is (tells-whole ks (FaultAtOp B f (types_of s) o) NoFault NoFault (RunAt B f (types_of s) ks (an_op o)) (RunsOnAttributes B f (types_of s) ks c.attributes.result.now) (RunsOnAttributes B f (types_of s) ks c.attributes.result.now)
    (λ y n. absurd n) (λ k run. inr (inl (subst (λ ps. RunsOnAttributes B f (types_of s) ks ps k) (sym pairs) run))) c.in_err-check_attributes.field-0.0 c.in_err-check_attributes.ensures)

pub check_types-requires : goal.check_types-requires
check_types-requires g c =
    let t = c.args.ctx.now.records in
    let same = ap (in_record (λ op. op.results) []) (rw c.records.ensures at c.at-operation.ensures) ∙ sym c.as_slice.ensures in
    types-known t (Op c.args.op.index) c.as_slice.result.now same _ c.recall_well_formed.ensures

pub returns : goal.returns
returns g c =
    let B = behaviour_of g.D.Dialects g.D.TypeKey.PartialEq.eq in
    let K = kinds_of g.D.Dialects g.D.Saved.PartialEq.eq in
    let s = c.args.ctx.now in
    let ks = checks_in K (g.V.Verifiers.handed_in c.args.verifiers.now) s in
    let o = c.args.op.index in
    let f = forest_of s in
    let st = types_of s in
    let here = ap (option_map op_record) (rw c.records.ensures at c.at-operation.ensures) in
    let pairs = ap (list_of (λ r. r.attributes)) here ∙ sym c.attributes.ensures in
    let same = ap (in_record (λ op. op.results) []) (rw c.records.ensures at c.at-operation.ensures) ∙ sym c.as_slice.ensures in
    let ds = definitions-are s.records (Op o) c.as_slice.result.now same in
    let Ops = RunsOnOp B f st ks o in
    let Attrs = RunsOnAttributes B f st ks c.attributes.result.now in
    let Types = RunsOnTypes B f st ks (map definition_of c.as_slice.result.now) in
    let F = FaultAtOp B f st o in
    let first = from-tells ks F (op-no_code B f st o) (Ok tt) c.in_ok-verify_place.ensures in
    let second = and-passed ks F NoCheck Ops first c.in_ok-check_operation.ensures in
    let third = and-passed ks F (λ k. NoCheck k ⊎ Ops k) Attrs second c.in_ok-check_attributes.ensures in
    put-as ks F (λ k. ((NoCheck k ⊎ Ops k) ⊎ Attrs k) ⊎ Types k) (RunAt B f st ks (an_op o))
    (λ k h. elim h [
      | inl x ↦ elim x [ inl y ↦ elim y [ inl z ↦ absurd z | inr z ↦ inl z ] | inr y ↦ inr (inl (subst (λ ps. RunsOnAttributes B f st ks ps k) (sym pairs) y)) ]
      | inr x ↦ inr (inr (subst (λ xs. RunsOnTypes B f st ks xs k) (sym ds) x))
    ])
    (λ k h. elim h [
      | inl x ↦ inl (inl (inr x))
      | inr x ↦ elim x [ inl y ↦ inl (inr (subst (λ ps. RunsOnAttributes B f st ks ps k) pairs y)) | inr y ↦ inr (subst (λ xs. RunsOnTypes B f st ks xs k) ds y) ]
    ])
    c.check_types.result (and-last ks F (λ k. (NoCheck k ⊎ Ops k) ⊎ Attrs k) Types third c.check_types.result c.check_types.ensures)
