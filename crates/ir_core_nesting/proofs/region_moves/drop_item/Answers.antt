use Rattle.std.proofs.Common.{◌≡◌, ◌-◌, ◌∙◌, Some, sym, ap, subst, arith}
use Rattle.ir_model.specs.Ids.{Distinct}
use Rattle.ir_model.specs.ContextIds.{same_id}
use Rattle.ir_model.specs.Changes.{without}
use Rattle.ir_model.proofs.TwoRuns.{id_tells}
use Rattle.ir_core_nesting.proofs.MovedRegions.{remove-once, not-found}
use Rattle.ir_core_nesting.proofs.region_moves.drop_item.Goals as goal

pub returns-then-eq : goal.returns-then-eq
returns-then-eq c =
    let same = c.loop-at.invariant.same in
    let item = c.args.item in
    let here : c.at.result.now ≡ item = (id_tells c.at.result.now item).0 (sym c.eq.ensures ∙ c.if-eq.true) in
    c.remove.ensures.items
    ∙ remove-once c.loop-at.items (c.loop-at.at - 1) item (subst Distinct (sym same) c.requires) (c.at.ensures ∙ ap Some here)
    ∙ ap (without same_id item) same

pub returns : goal.returns
returns c =
    let same = c.loop-at.invariant.same in
    let none = not-found c.loop-at.items c.args.item (λ k. c.loop-at.invariant.passed k (omega arith)) in
    sym none ∙ ap (without same_id c.args.item) same
