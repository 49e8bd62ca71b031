use Rattle.std.proofs.Common.{◌≡◌, Some, None, sym, subst}
use Rattle.std.proofs.lemmas.Option.{same_Some}
use Rattle.ir_model.specs.Nesting.{Inside}
use Rattle.ir_model.specs.Parent.{first_of}
use Rattle.ir_core_context.specs.State.{forest_of}
use Rattle.ir_core_queries.specs.Entities.{meant}
use Rattle.ir_view.proofs.Forests.{told-apart, beside, beside-inside, owner-in, pre-starts, climb-ends, climb-beside, climb-up}
use Rattle.ir_view.proofs.next.next_after_leaf.Goals as goal

pub loop-root-init : goal.loop-root-init
loop-root-init g c = record {
  inside = c.requires.inside;
  after = λ xs before behind is splits. pre-starts (forest_of c.args.ctx.now) c.recall_well_formed.ensures.nested (meant c.args.root) (meant c.args.here) c.requires.inside xs before behind splits is c.requires.leaf;
}

pub returns-in-Some-clause-inside : goal.returns-in-Some-clause-inside
returns-in-Some-clause-inside g c =
    let f = forest_of c.args.ctx.now in
    let nested = c.recall_well_formed.ensures.nested in
    let root = meant c.args.root in
    let here = meant c.loop-root.current in
    let sibling = meant c.in-Some.sibling in
    let other = told-apart c.is_same.result (here ≡ root) c.is_same.ensures c.loop-root-test.true in
    beside-inside f nested root here sibling (beside f nested root here sibling other c.loop-root.invariant.inside c.in-Some.ensures)

pub returns-in-Some-clause-next : goal.returns-in-Some-clause-next
returns-in-Some-clause-next g c = λ xs before behind is splits.
    let root = meant c.args.root in
    let here = meant c.loop-root.current in
    let other = told-apart c.is_same.result (here ≡ root) c.is_same.ensures c.loop-root-test.true in
    climb-beside (forest_of c.args.ctx.now) c.recall_well_formed.ensures.nested root here c.loop-root.invariant.inside xs is (first_of behind) (c.loop-root.invariant.after xs before behind is splits) (meant c.in-Some.sibling) other c.in-Some.ensures

pub returns-clause-next : goal.returns-clause-next
returns-clause-next g c = λ xs before behind is splits.
    let root = meant c.args.root in
    let here = meant c.loop-root.current in
    climb-ends (forest_of c.args.ctx.now) c.recall_well_formed.ensures.nested root here c.loop-root.invariant.inside xs is (first_of behind) (c.loop-root.invariant.after xs before behind is splits) (c.is_same.ensures.0 c.loop-root-test.false)

pub returns-in_err-current-clause-next : goal.returns-in_err-current-clause-next
returns-in_err-current-clause-next g c = λ xs before behind is splits.
    let root = meant c.args.root in
    let here = meant c.loop-root.current in
    let other = told-apart c.is_same.result (here ≡ root) c.is_same.ensures c.loop-root-test.true in
    let o = owner-in (forest_of c.args.ctx.now) c.recall_well_formed.ensures.nested root here None other c.loop-root.invariant.inside c.in_err-current.ensures in
    let never : None ≡ Some o.0 = o.1 in
    absurd cc

pub loop-root-preserved : goal.loop-root-preserved
loop-root-preserved g c =
    let f = forest_of c.args.ctx.now in
    let nested = c.recall_well_formed.ensures.nested in
    let root = meant c.args.root in
    let here = meant c.loop-root.current in
    let p = meant c.in_ok-current.current in
    let other = told-apart c.is_same.result (here ≡ root) c.is_same.ensures c.loop-root-test.true in
    let o = owner-in f nested root here (Some p) other c.loop-root.invariant.inside c.in_ok-current.ensures in
    record {
      inside = subst (Inside f root) (sym (same_Some _ _ o.1)) o.2;
      after = λ xs before behind is splits. climb-up f nested root here c.loop-root.invariant.inside xs is (first_of behind) (c.loop-root.invariant.after xs before behind is splits) p other c.in_default.ensures c.in_ok-current.ensures;
    }
