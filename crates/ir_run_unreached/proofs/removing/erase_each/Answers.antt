use Rattle.std.proofs.Common.{◌≡◌, ◌+◌, ◌∷◌, map, drop, refl, sym, subst, arith}
use Rattle.ir_core_queries.specs.State.{forest_of}
use Rattle.ir_run_unreached.specs.Removals.{CanEraseEach, ErasesEach, none_erased, one_erased}
use Rattle.ir_run_unreached.proofs.Removals.{first_closed, first_live, others_can}
use Rattle.ir_run_unreached.proofs.Rest.{same_itself, same_joined}
use Rattle.ir_run_unreached.proofs.Slices.{left_at, length_seen, none_left_at, seen_or}
use Rattle.ir_run_unreached.proofs.removing.erase_each.Goals as goal

pub loop-block-init : goal.loop-block-init
loop-block-init g c = (λ h d. d, c.requires, same_itself _)

pub erase-requires-clause-live : goal.erase-requires-clause-live
erase-requires-clause-live g c =
    let f = forest_of c.loop-block.ctx in
    let bs = c.args.blocks.now in
    let k = c.loop-block.block-index in
    first_live f f _ (drop (k + 1) (map (λ p. p.index) bs)) (subst (CanEraseEach f) (left_at (map (λ p. p.index) bs) k (k + 1) _ refl (seen_or bs (λ p. p.index) k _ c.loop-block-test.true)) c.loop-block.invariant.1)

pub erase-requires-clause-closed : goal.erase-requires-clause-closed
erase-requires-clause-closed g c =
    let f = forest_of c.loop-block.ctx in
    let bs = c.args.blocks.now in
    let k = c.loop-block.block-index in
    first_closed f f _ (drop (k + 1) (map (λ p. p.index) bs)) (subst (CanEraseEach f) (left_at (map (λ p. p.index) bs) k (k + 1) _ refl (seen_or bs (λ p. p.index) k _ c.loop-block-test.true)) c.loop-block.invariant.1)

pub loop-block-preserved : goal.loop-block-preserved
loop-block-preserved g c =
    let f = forest_of c.loop-block.ctx in
    let bs = c.args.blocks.now in
    let k = c.loop-block.block-index in
    let i = c.loop-block.invariant in
    let r = c.erase.ensures.forest in (
      λ h more. i.0 h (subst (λ xs. ErasesEach f xs h) (sym (left_at (map (λ p. p.index) bs) k (k + 1) _ refl (seen_or bs (λ p. p.index) k _ c.loop-block-test.true))) (one_erased r more)),
      others_can f (forest_of c.erase.new.ctx) _ (drop (k + 1) (map (λ p. p.index) bs)) (subst (CanEraseEach f) (left_at (map (λ p. p.index) bs) k (k + 1) _ refl (seen_or bs (λ p. p.index) k _ c.loop-block-test.true)) i.1) r,
      same_joined _ _ _ i.2 c.erase.ensures.rest,
    )

pub returns : goal.returns
returns g c =
    let bs = c.args.blocks.now in
    let i = c.loop-block.invariant in
    let none = none_left_at (map (λ p. p.index) bs) c.loop-block.block-index (omega (arith, length_seen bs (λ p. p.index), c.loop-block-test.false, c.loop-block.auto.block-index-end)) in
    record {
      erased = i.0 (forest_of c.loop-block.ctx) (subst (λ xs. ErasesEach (forest_of c.loop-block.ctx) xs (forest_of c.loop-block.ctx)) (sym none) none_erased);
      rest = i.2;
    }
