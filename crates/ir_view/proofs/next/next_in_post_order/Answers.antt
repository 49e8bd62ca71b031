use Rattle.std.proofs.Common.{◌≡◌}
use Rattle.std.specs.Option.{option_map}
use Rattle.ir_model.specs.Nesting.{children, Inside}
use Rattle.ir_model.proofs.Nests.{Within-trans}
use Rattle.ir_core_context.specs.State.{forest_of}
use Rattle.ir_core_queries.specs.Entities.{meant}
use Rattle.ir_view.proofs.Forests.{told-apart, told-some, inside_live, beside, beside-inside, owner-in, post-ends, post-beside, post-around}
use Rattle.ir_view.proofs.next.next_in_post_order.Goals as goal

pub returns-then-is_same-clause-next : goal.returns-then-is_same-clause-next
returns-then-is_same-clause-next g c = λ xs before behind is splits.
    post-ends (forest_of c.args.ctx.now) c.recall_well_formed.ensures.nested (meant c.args.root) (meant c.args.here) c.requires.inside xs before behind splits is (c.is_same.ensures.0 c.if-is_same.true)

pub innermost-requires : goal.innermost-requires
innermost-requires g c =
    let f = forest_of c.args.ctx.now in
    let nested = c.recall_well_formed.ensures.nested in
    let root = meant c.args.root in
    let here = meant c.args.here in
    let sibling = meant c.in-Some.sibling in
    let other = told-apart c.is_same.result (here ≡ root) c.is_same.ensures c.if-is_same.false in
    inside_live f nested root sibling c.requires.live (beside-inside f nested root here sibling (beside f nested root here sibling other c.requires.inside c.in-Some.ensures))

pub returns-in-Some-clause-inside : goal.returns-in-Some-clause-inside
returns-in-Some-clause-inside g c =
    let f = forest_of c.args.ctx.now in
    let nested = c.recall_well_formed.ensures.nested in
    let root = meant c.args.root in
    let here = meant c.args.here in
    let sibling = meant c.in-Some.sibling in
    let other = told-apart c.is_same.result (here ≡ root) c.is_same.ensures c.if-is_same.false in
    Within-trans (children f) (children f) root sibling (meant c.innermost.result) (beside-inside f nested root here sibling (beside f nested root here sibling other c.requires.inside c.in-Some.ensures)) c.innermost.ensures.inside

pub returns-in-Some-clause-next : goal.returns-in-Some-clause-next
returns-in-Some-clause-next g c = λ xs before behind is splits.
    let root = meant c.args.root in
    let here = meant c.args.here in
    let other = told-apart c.is_same.result (here ≡ root) c.is_same.ensures c.if-is_same.false in
    post-beside (forest_of c.args.ctx.now) c.recall_well_formed.ensures.nested root here c.requires.inside xs before behind splits is
    (meant c.in-Some.sibling) (meant c.innermost.result) other c.in-Some.ensures c.innermost.ensures.first

pub returns-in-None-clause-inside : goal.returns-in-None-clause-inside
returns-in-None-clause-inside g c =
    let f = forest_of c.args.ctx.now in
    let root = meant c.args.root in
    let here = meant c.args.here in
    let other = told-apart c.is_same.result (here ≡ root) c.is_same.ensures c.if-is_same.false in
    let o = owner-in f c.recall_well_formed.ensures.nested root here (option_map meant c.owner.result) other c.requires.inside c.owner.ensures in
    told-some meant (Inside f root) c.owner.result o.0 o.1 o.2

pub returns-in-None-clause-next : goal.returns-in-None-clause-next
returns-in-None-clause-next g c = λ xs before behind is splits.
    let root = meant c.args.root in
    let here = meant c.args.here in
    let other = told-apart c.is_same.result (here ≡ root) c.is_same.ensures c.if-is_same.false in
    post-around (forest_of c.args.ctx.now) c.recall_well_formed.ensures.nested root here c.requires.inside xs before behind splits is (option_map meant c.owner.result) other c.in-None.ensures c.owner.ensures
