use Rattle.std.proofs.Common.{◌≡◌, ◌∙◌, ◌<◌, Err, Option, Some, None, refl, sym, ap, subst, rules}
use Rattle.std.specs.Option.{option_map}
use Rattle.ir_model.specs.ContextIds.{context_ids}
use Rattle.ir_model.specs.Faults.{Fault, IsRun, the_entity}
use Rattle.ir_model.specs.Forest.{Entity}
use Rattle.ir_core_records.specs.declared.record.EntityIndex.{EntityIndex}
use Rattle.ir_core_records.specs.Meaning.{entity_of}
use Rattle.ir_core_erasing.specs.Walks.{subtree}
use Rattle.ir_view_parts.specs.State.{forest_of, types_of}
use Rattle.ir_verify.specs.Shown.{checks_in}
use Rattle.ir_verify.specs.Parts.{FaultAt, IsThere, RootFault, RunAt}
use Rattle.ir_verify.proofs.Pieces.{tells-whole}
use Rattle.ir_verify.proofs.Walked.{Passing, inside-live, passing-end, passing-in, passing-smaller, passing-start, passing-step, remaining}
use Rattle.ir_verify.proofs.Whole.{at-root, at-run, none-inside}
use Rattle.ir_verify.proofs.inside.verify_inside.Goals as goal
use Rattle.ir_core_records.specs.DialectAnswers.{behaviour_of, kinds_of}

pub loop-current-init : goal.loop-current-init
loop-current-init g c =
    let B = behaviour_of g.D.Dialects g.D.TypeKey.PartialEq.eq in
    let K = kinds_of g.D.Dialects g.D.Saved.PartialEq.eq in
    let s = c.args.ctx.now in
    let ks = checks_in K (g.V.Verifiers.handed_in c.args.verifiers.now) s in
    let root = entity_of c.args.root in
    let P : Entity context_ids → Type 0 = λ x. (y : Fault) → IsThere ks (FaultAt B (forest_of s) (types_of s) x) (RunAt B (forest_of s) (types_of s) ks x) y → ⊥ in
    passing-start (subtree s.records root) P (Some (entity_of c.deepest.result)) (sym (rw c.records-records.ensures at c.deepest.ensures.first))

pub verify_alone-requires : goal.verify_alone-requires
verify_alone-requires g c =
    let B = behaviour_of g.D.Dialects g.D.TypeKey.PartialEq.eq in
    let K = kinds_of g.D.Dialects g.D.Saved.PartialEq.eq in
    let s = c.args.ctx.now in
    let ks = checks_in K (g.V.Verifiers.handed_in c.args.verifiers.now) s in
    let t = s.records in
    let root = entity_of c.args.root in
    let here = entity_of c.in-Some.here in
    let P : Entity context_ids → Type 0 = λ x. (y : Fault) → IsThere ks (FaultAt B (forest_of s) (types_of s) x) (RunAt B (forest_of s) (types_of s) ks x) y → ⊥ in
    let w : Passing (subtree t root) P (Some here) = subst (λ (o : Option EntityIndex). Passing (subtree t root) P (option_map entity_of o)) c.in-Some.is c.loop-current.invariant in
    let lists = c.recall_subtrees_listed.ensures t root c.recall_holds_together.ensures.nested c.recall_well_formed.ensures.nested in
    let inside = (lists.exact here).0 (passing-in (subtree t root) P here w) in
    inside-live (forest_of s) c.recall_well_formed.ensures.nested root here c.requires inside

pub returns-in_err-verify_alone : goal.returns-in_err-verify_alone
returns-in_err-verify_alone g c =
    let is : c.from_residual.result ≡ Err c.in_err-verify_alone.field-0.0 = search rules in
    let B = behaviour_of g.D.Dialects g.D.TypeKey.PartialEq.eq in
    let K = kinds_of g.D.Dialects g.D.Saved.PartialEq.eq in
    let s = c.args.ctx.now in
    let ks = checks_in K (g.V.Verifiers.handed_in c.args.verifiers.now) s in
    let t = s.records in
    let root = entity_of c.args.root in
    let here = entity_of c.in-Some.here in
    let P : Entity context_ids → Type 0 = λ x. (y : Fault) → IsThere ks (FaultAt B (forest_of s) (types_of s) x) (RunAt B (forest_of s) (types_of s) ks x) y → ⊥ in
    let w : Passing (subtree t root) P (Some here) = subst (λ (o : Option EntityIndex). Passing (subtree t root) P (option_map entity_of o)) c.in-Some.is c.loop-current.invariant in
    let lists = c.recall_subtrees_listed.ensures t root c.recall_holds_together.ensures.nested c.recall_well_formed.ensures.nested in
    let inside = (lists.exact here).0 (passing-in (subtree t root) P here w) in
    let f = forest_of s in
    let st = types_of s in
    rw is (tells-whole ks (RootFault B f st ks (the_entity root)) (FaultAt B f st here) (FaultAt B f st here) (IsRun B f st ks (the_entity root)) (RunAt B f st ks here) (RunAt B f st ks here)
    (λ y h. at-root B f st ks root here y inside h) (λ k h. at-run B f st ks root here k inside h) c.in_err-verify_alone.field-0.0 c.in_err-verify_alone.ensures)

pub loop-current-preserved : goal.loop-current-preserved
loop-current-preserved g c =
    let B = behaviour_of g.D.Dialects g.D.TypeKey.PartialEq.eq in
    let K = kinds_of g.D.Dialects g.D.Saved.PartialEq.eq in
    let s = c.args.ctx.now in
    let ks = checks_in K (g.V.Verifiers.handed_in c.args.verifiers.now) s in
    let t = s.records in
    let root = entity_of c.args.root in
    let here = entity_of c.in-Some.here in
    let P : Entity context_ids → Type 0 = λ x. (y : Fault) → IsThere ks (FaultAt B (forest_of s) (types_of s) x) (RunAt B (forest_of s) (types_of s) ks x) y → ⊥ in
    let w : Passing (subtree t root) P (Some here) = subst (λ (o : Option EntityIndex). Passing (subtree t root) P (option_map entity_of o)) c.in-Some.is c.loop-current.invariant in
    let lists = c.recall_subtrees_listed.ensures t root c.recall_holds_together.ensures.nested c.recall_well_formed.ensures.nested in
    let inside = (lists.exact here).0 (passing-in (subtree t root) P here w) in
    passing-step (subtree t root) P here w (option_map entity_of c.next_inside-current.result) (rw c.records-records.ensures at c.next_inside-current.ensures) c.in_ok-verify_alone.ensures

pub loop-current-smaller : goal.loop-current-smaller
loop-current-smaller g c =
    let B = behaviour_of g.D.Dialects g.D.TypeKey.PartialEq.eq in
    let K = kinds_of g.D.Dialects g.D.Saved.PartialEq.eq in
    let s = c.args.ctx.now in
    let ks = checks_in K (g.V.Verifiers.handed_in c.args.verifiers.now) s in
    let t = s.records in
    let root = entity_of c.args.root in
    let here = entity_of c.in-Some.here in
    let P : Entity context_ids → Type 0 = λ x. (y : Fault) → IsThere ks (FaultAt B (forest_of s) (types_of s) x) (RunAt B (forest_of s) (types_of s) ks x) y → ⊥ in
    let w : Passing (subtree t root) P (Some here) = subst (λ (o : Option EntityIndex). Passing (subtree t root) P (option_map entity_of o)) c.in-Some.is c.loop-current.invariant in
    let lists = c.recall_subtrees_listed.ensures t root c.recall_holds_together.ensures.nested c.recall_well_formed.ensures.nested in
    let inside = (lists.exact here).0 (passing-in (subtree t root) P here w) in
    let less : remaining (subtree t root) (option_map entity_of c.next_inside-current.result) < remaining (subtree t root) (Some here) = passing-smaller (subtree t root) P here w (option_map entity_of c.next_inside-current.result) (rw c.records-records.ensures at c.next_inside-current.ensures) lists.once in
    let was : remaining (subtree t root) (option_map entity_of c.loop-current.current) ≡ remaining (subtree t root) (Some here) = ap (λ (o : Option EntityIndex). remaining (subtree t root) (option_map entity_of o)) c.in-Some.is in
    subst (λ n. remaining (subtree t root) (option_map entity_of c.next_inside-current.result) < n) (sym was) less

pub returns : goal.returns
returns g c =
    let B = behaviour_of g.D.Dialects g.D.TypeKey.PartialEq.eq in
    let K = kinds_of g.D.Dialects g.D.Saved.PartialEq.eq in
    let s = c.args.ctx.now in
    let ks = checks_in K (g.V.Verifiers.handed_in c.args.verifiers.now) s in
    let t = s.records in
    let root = entity_of c.args.root in
    let P : Entity context_ids → Type 0 = λ x. (y : Fault) → IsThere ks (FaultAt B (forest_of s) (types_of s) x) (RunAt B (forest_of s) (types_of s) ks x) y → ⊥ in
    let w : Passing (subtree t root) P None = subst (λ (o : Option EntityIndex). Passing (subtree t root) P (option_map entity_of o)) c.in_default.is c.loop-current.invariant in
    let lists = c.recall_subtrees_listed.ensures t root c.recall_holds_together.ensures.nested c.recall_well_formed.ensures.nested in
    none-inside B (forest_of s) (types_of s) ks root (λ x i. passing-end (subtree t root) P w x ((lists.exact x).1 i))
