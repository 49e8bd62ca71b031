use Rattle.std.proofs.Common.{All, map, sym, subst}
use Rattle.ir_model.specs.Forest.{a_block}
use Rattle.ir_model.specs.Nesting.{IsLive}
use Rattle.ir_core_queries.specs.State.{forest_of}
use Rattle.ir_run_unreached.specs.Marks.{ListsUnreached}
use Rattle.ir_run_unreached.proofs.KeptNames.{all_keep, keep_all}
use Rattle.ir_run_unreached.proofs.Removals.{each_live}
use Rattle.ir_run_unreached.proofs.Slices.{seen_each}
use Rattle.ir_run_unreached.proofs.condition.can_remove_unreached.Goals as goal

pub all_blocks_inside-requires : goal.all_blocks_inside-requires
all_blocks_inside-requires g c =
    let f = forest_of c.args.ctx.now in
    let r = c.args.region.index in
    subst (λ xs. All (λ p. IsLive f (a_block p.index)) xs) (sym c.as_slice-listed.ensures.value)
    (seen_each c.in_ok-blocks.blocks.items (λ p. p.index) (λ b. IsLive f (a_block b)) (λ b h. each_live f r c.recall_well_formed.ensures.nested _ c.in_ok-blocks.ensures.listed b h))

pub keeps_each-requires : goal.keeps_each-requires
keeps_each-requires g c =
    let f = forest_of c.args.ctx.now in
    let r = c.args.region.index in
    subst (λ xs. All (λ p. IsLive f (a_block p.index)) xs) (sym c.as_slice-listed.ensures.value)
    (seen_each c.in_ok-blocks.blocks.items (λ p. p.index) (λ b. IsLive f (a_block b)) (λ b h. each_live f r c.recall_well_formed.ensures.nested _ c.in_ok-blocks.ensures.listed b h))

pub returns-clause-exact : goal.returns-clause-exact
returns-clause-exact g c =
    let f = forest_of c.args.ctx.now in
    let r = c.args.region.index in
    let listed = subst (λ xs. ListsUnreached f r (map (λ p. p.index) xs)) (sym c.as_slice-listed.ensures.value) c.in_ok-blocks.ensures.listed in
    (λ e. all_keep f _ _ c.in_ok-marked.ensures.marks r listed (c.keeps_each.ensures.0 e), λ stay. c.keeps_each.ensures.1 (keep_all f _ _ c.in_ok-marked.ensures.marks r listed stay))
