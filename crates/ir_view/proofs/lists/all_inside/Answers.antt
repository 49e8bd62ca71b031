use Rattle.std.proofs.Common.{All, sym, ◌∙◌, subst}
use Rattle.ir_model.specs.Nesting.{IsLive}
use Rattle.ir_model.specs.Subtree.{ListsSubtree}
use Rattle.ir_core_context.specs.State.{forest_of}
use Rattle.ir_core_queries.specs.Entities.{meant}
use Rattle.ir_view.specs.Orders.{IsPostOrder}
use Rattle.ir_view.proofs.Gathered.{all-left, goes-over, all-gathered, all-seen}
use Rattle.ir_view.proofs.lists.all_inside.Goals as goal

pub loop-found-init : goal.loop-found-init
loop-found-init g c =
    let f = forest_of c.args.ctx.now in
    let e = meant c.args.entity in
    let walk = c.inside-found-items in
    let left = sym (all-left c.new-entities.result.items meant _ c.new-entities.ensures.items ∙ c.into_iter-found-iterator.ensures.into_iter_gives) in
    (tt, tt, subst (IsPostOrder f e) left walk.ensures.order, subst (ListsSubtree f e) left walk.ensures.each, subst (All (λ x. IsLive f x)) left walk.ensures.live)

pub loop-found-preserved : goal.loop-found-preserved
loop-found-preserved g c =
    let f = forest_of c.args.ctx.now in
    let e = meant c.args.entity in
    let l = c.loop-found.invariant in
    let over = goes-over c.loop-found.entities.items _ _ meant _ _ c.in-Some.ensures.steps c.in_ok-push.ensures.items in
    (tt, tt, subst (IsPostOrder f e) over l.2, subst (ListsSubtree f e) over l.3, subst (All (λ x. IsLive f x)) over l.4)

pub returns-clause-order : goal.returns-clause-order
returns-clause-order g c =
    let all = all-gathered c.loop-found.entities.items meant _ c.in-None.ensures.steps.0 in
    subst (IsPostOrder (forest_of c.args.ctx.now) (meant c.args.entity)) all c.loop-found.invariant.2

pub returns-clause-each : goal.returns-clause-each
returns-clause-each g c =
    let all = all-gathered c.loop-found.entities.items meant _ c.in-None.ensures.steps.0 in
    subst (ListsSubtree (forest_of c.args.ctx.now) (meant c.args.entity)) all c.loop-found.invariant.3

pub returns-clause-live : goal.returns-clause-live
returns-clause-live g c =
    let f = forest_of c.args.ctx.now in
    let all = all-gathered c.loop-found.entities.items meant _ c.in-None.ensures.steps.0 in
    all-seen c.loop-found.entities.items meant (λ x. IsLive f x) (subst (All (λ x. IsLive f x)) all c.loop-found.invariant.4)
