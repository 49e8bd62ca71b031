use Rattle.std.proofs.Common.{◌+◌, map, refl, sym, subst, arith}
use Rattle.ir_model.specs.Forest.{a_block}
use Rattle.ir_model.specs.Nesting.{IsLive}
use Rattle.ir_core_queries.specs.State.{forest_of}
use Rattle.ir_run_unreached.specs.Removals.{DropsEach, none_dropped, one_dropped}
use Rattle.ir_run_unreached.proofs.Rest.{same_itself, same_joined}
use Rattle.ir_run_unreached.proofs.Slices.{each_seen, left_at, length_seen, none_left_at, seen_each, seen_or}
use Rattle.ir_run_unreached.proofs.removing.drop_each.Goals as goal

pub loop-block-init : goal.loop-block-init
loop-block-init g c = (λ h d. d, c.requires, same_itself _)

pub loop-block-preserved : goal.loop-block-preserved
loop-block-preserved g c =
    let bs = c.args.blocks.now in
    let k = c.loop-block.block-index in
    let i = c.loop-block.invariant in
    let d = c.drop_all_uses.ensures in (
      λ h more. i.0 h (subst (λ xs. DropsEach (forest_of c.loop-block.ctx) xs h) (sym (left_at (map (λ p. p.index) bs) k (k + 1) _ refl (seen_or bs (λ p. p.index) k _ c.loop-block-test.true))) (one_dropped d.forest more)),
      seen_each bs (λ p. p.index) (λ b. IsLive (forest_of c.drop_all_uses.new.ctx) (a_block b)) (λ b h. d.keeps.entities_stay_live (a_block b) (each_seen bs (λ p. p.index) (λ b. IsLive (forest_of c.loop-block.ctx) (a_block b)) i.1 b h)),
      same_joined _ _ _ i.2 d.rest,
    )

pub returns : goal.returns
returns g c =
    let bs = c.args.blocks.now in
    let i = c.loop-block.invariant in
    let none = none_left_at (map (λ p. p.index) bs) c.loop-block.block-index (omega (arith, length_seen bs (λ p. p.index), c.loop-block-test.false, c.loop-block.auto.block-index-end)) in
    record {
      dropped = i.0 (forest_of c.loop-block.ctx) (subst (λ xs. DropsEach (forest_of c.loop-block.ctx) xs (forest_of c.loop-block.ctx)) (sym none) none_dropped);
      rest = i.2;
    }
