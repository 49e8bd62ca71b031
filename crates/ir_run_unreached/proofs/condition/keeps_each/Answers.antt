use Rattle.std.proofs.Common.{map, refl, sym, subst, ◌∙◌, arith}
use Rattle.std.proofs.lemmas.Bool.{false≢true}
use Rattle.ir_model.specs.declared.ids.ArenaIndex.{ArenaIndex}
use Rattle.ir_model.specs.ContextIds.{context_ids}
use Rattle.ir_model.specs.Forest.{Entity, a_block}
use Rattle.ir_model.specs.Nesting.{In, Inside}
use Rattle.ir_model.proofs.Edges.{got_in}
use Rattle.ir_core_queries.specs.State.{forest_of}
use Rattle.ir_run_unreached.specs.Kept.{KeepsOwn}
use Rattle.ir_run_unreached.proofs.Marking.{taken_all}
use Rattle.ir_run_unreached.proofs.Slices.{first_each, length_seen, seen_or}
use Rattle.ir_run_unreached.proofs.condition.keeps_each.Goals as goal

pub loop-block-init : goal.loop-block-init
loop-block-init g c = λ b h. absurd h

pub loop-block-preserved : goal.loop-block-preserved
loop-block-preserved g c =
    let f = forest_of c.args.ctx.now in
    let bs = c.args.blocks.now in
    let k = c.loop-block.block-index in
    first_each (λ (b : ArenaIndex). (x : Entity context_ids) → Inside f (a_block b) x → KeepsOwn f c.args.marked.now x) (map (λ p. p.index) bs) k _ (seen_or bs (λ p. p.index) k _ c.loop-block-test.true) c.loop-block.invariant (c.keeps_all_inside.ensures.0 c.if-not-keeps_all_inside.false)

pub returns-then-not-keeps_all_inside : goal.returns-then-not-keeps_all_inside
returns-then-not-keeps_all_inside g c =
    let bs = c.args.blocks.now in
    let k = c.loop-block.block-index in
    (λ e. absurd (false≢true e), λ all. absurd (false≢true (sym c.if-not-keeps_all_inside.true ∙ c.keeps_all_inside.ensures.1 (all _ (got_in (map (λ p. p.index) bs) k _ (seen_or bs (λ p. p.index) k _ c.loop-block-test.true))))))

pub returns : goal.returns
returns g c =
    let all = taken_all (map (λ p. p.index) c.args.blocks.now) c.loop-block.block-index (omega (arith, length_seen c.args.blocks.now (λ p. p.index), c.loop-block-test.false, c.loop-block.auto.block-index-end)) in
    (λ _ b h. c.loop-block.invariant b (subst (In b) (sym all) h), λ _. refl)
