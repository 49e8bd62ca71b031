use Rattle.std.proofs.Common.{◌≡◌, ◌∙◌, ◌⊎◌, Err, Ok, map, refl, sym, ap, subst, rules, inl, inr, []}
use Rattle.std.specs.Option.{option_map}
use Rattle.ir_model.specs.Forest.{a_block, of_block}
use Rattle.ir_model.specs.Nesting.{list_of, definitions_of}
use Rattle.ir_core_records.specs.declared.record.Definer.TheVariants.{Block}
use Rattle.ir_core_records.specs.Lists.{in_record}
use Rattle.ir_core_records.specs.Meaning.{block_record, definition_of}
use Rattle.ir_core_records.specs.Tree.{ops_in, tree_of}
use Rattle.ir_view_parts.specs.State.{forest_of, types_of}
use Rattle.ir_verify.specs.Shown.{checks_in}
use Rattle.ir_verify.specs.Parts.{FaultAtBlock, IsThere, NoCheck, NoFault, RunAt, RunsOnAttributes, RunsOnOp, RunsOnTypes}
use Rattle.ir_verify.proofs.Alone.{and-last, and-passed, definitions-are, put-as, types-known}
use Rattle.ir_verify.proofs.Ends.{block-no_code}
use Rattle.ir_verify.proofs.Pieces.{from-tells, tells-whole}
use Rattle.ir_verify.proofs.inside.verify_block_alone.Goals as goal
use Rattle.ir_core_records.specs.DialectAnswers.{behaviour_of, kinds_of}

pub returns-in_err-check_attributes : goal.returns-in_err-check_attributes
returns-in_err-check_attributes g c =
    let is : c.from_residual-in_err-check_attributes.result ≡ Err c.in_err-check_attributes.field-0.0 = search rules in
    let B = behaviour_of g.D.Dialects g.D.TypeKey.PartialEq.eq in
    let K = kinds_of g.D.Dialects g.D.Saved.PartialEq.eq in
    let s = c.args.ctx.now in
    let ks = checks_in K (g.V.Verifiers.handed_in c.args.verifiers.now) s in
    let b = c.args.block.index in
    let f = forest_of s in
    let here = ap (option_map (block_record (ops_in (tree_of s.records) b))) (rw c.records.ensures at c.at-record.ensures) in
    let pairs = ap (list_of (λ r. r.attributes)) here ∙ sym c.attributes.ensures in
    rw is (tells-whole ks (FaultAtBlock B f (types_of s) b) NoFault NoFault (RunAt B f (types_of s) ks (a_block b)) (RunsOnAttributes B f (types_of s) ks c.attributes.result.now) (RunsOnAttributes B f (types_of s) ks c.attributes.result.now)
    (λ y n. absurd n) (λ k run. inl (subst (λ ps. RunsOnAttributes B f (types_of s) ks ps k) (sym pairs) run)) c.in_err-check_attributes.field-0.0 c.in_err-check_attributes.ensures)

pub check_types-requires : goal.check_types-requires
check_types-requires g c =
    let t = c.args.ctx.now.records in
    let same = ap (in_record (λ x. x.arguments) []) (rw c.records.ensures at c.at-record.ensures) ∙ sym c.as_slice.ensures in
    types-known t (Block c.args.block.index) c.as_slice.result.now same _ c.recall_well_formed.ensures

pub returns : goal.returns
returns g c =
    let B = behaviour_of g.D.Dialects g.D.TypeKey.PartialEq.eq in
    let K = kinds_of g.D.Dialects g.D.Saved.PartialEq.eq in
    let s = c.args.ctx.now in
    let ks = checks_in K (g.V.Verifiers.handed_in c.args.verifiers.now) s in
    let b = c.args.block.index in
    let f = forest_of s in
    let st = types_of s in
    let here = ap (option_map (block_record (ops_in (tree_of s.records) b))) (rw c.records.ensures at c.at-record.ensures) in
    let pairs = ap (list_of (λ r. r.attributes)) here ∙ sym c.attributes.ensures in
    let same = ap (in_record (λ x. x.arguments) []) (rw c.records.ensures at c.at-record.ensures) ∙ sym c.as_slice.ensures in
    let ds = definitions-are s.records (Block b) c.as_slice.result.now same in
    let Attrs = RunsOnAttributes B f st ks c.attributes.result.now in
    let Types = RunsOnTypes B f st ks (map definition_of c.as_slice.result.now) in
    let F = FaultAtBlock B f st b in
    let first = from-tells ks F (block-no_code B f st b) (Ok tt) c.in_ok-verify_block.ensures in
    let second = and-passed ks F NoCheck Attrs first c.in_ok-check_attributes.ensures in
    put-as ks F (λ k. (NoCheck k ⊎ Attrs k) ⊎ Types k) (RunAt B f st ks (a_block b))
    (λ k h. elim h [
      | inl x ↦ elim x [ inl y ↦ absurd y | inr y ↦ inl (subst (λ ps. RunsOnAttributes B f st ks ps k) (sym pairs) y) ]
      | inr x ↦ inr (subst (λ xs. RunsOnTypes B f st ks xs k) (sym ds) x)
    ])
    (λ k h. elim h [
      | inl x ↦ inl (inr (subst (λ ps. RunsOnAttributes B f st ks ps k) pairs x))
      | inr x ↦ inr (subst (λ xs. RunsOnTypes B f st ks xs k) ds x)
    ])
    c.check_types.result (and-last ks F (λ k. NoCheck k ⊎ Attrs k) Types second c.check_types.result c.check_types.ensures)
