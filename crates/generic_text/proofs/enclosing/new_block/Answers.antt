use Rattle.std.proofs.Common.{ap}
use Rattle.ir_core_queries.specs.State.{bare, forest_of}
use Rattle.ir_model.specs.Forest.{a_block}
use Rattle.ir_model.proofs.Back.{slice_get-in}
use Rattle.generic_text.proofs.Apart.{apart-block-behind, apart-same}
use Rattle.generic_text.proofs.Left.{region-is-new, was_not}
use Rattle.generic_text.proofs.MadeNew.{block_apart, dead_block}
use Rattle.generic_text.proofs.NewModules.{filled_first}
use Rattle.generic_text.specs.Left.{IsNew}
use Rattle.generic_text.proofs.enclosing.new_block.Goals as goal

pub returns-in_err-region-clause-apart : goal.returns-in_err-region-clause-apart
returns-in_err-region-clause-apart c = λ first apart new. block_apart _ (bare c.args.ctx.now) (bare c.new.new.ctx) c.recall_live_was_made.ensures _ _ _ c.in_ok-block.ensures.made first apart

pub returns-in_err-insert_at_back-clause-apart : goal.returns-in_err-insert_at_back-clause-apart
returns-in_err-insert_at_back-clause-apart c = λ first apart new.
    apart-same first (forest_of c.new.new.ctx) (block_apart _ (bare c.args.ctx.now) (bare c.new.new.ctx) c.recall_live_was_made.ensures _ _ _ c.in_ok-block.ensures.made first apart) _ (ap forest_of c.in_err-insert_at_back.ensures.err)

pub returns-clause-around : goal.returns-clause-around
returns-clause-around c =
    filled_first (forest_of c.args.ctx.now) (forest_of c.new.new.ctx) (forest_of c.insert_at_back.new.ctx) c.args.root.index c.in_ok-block.block.index c.in_ok-region.region.index _ _ _ c.requires c.in_ok-block.ensures.made.forest c.in_ok-block.ensures.counts c.in_ok-region.ensures.found c.in_ok-region.ensures.live c.in_ok-insert_at_back.ensures.forest

pub returns-clause-live : goal.returns-clause-live
returns-clause-live c = c.in_ok-insert_at_back.ensures.keeps.entities_stay_live (a_block c.in_ok-block.block.index) c.in_ok-block.ensures.live

pub returns-clause-apart : goal.returns-clause-apart
returns-clause-apart c = λ first apart new.
    let g = forest_of c.new.new.ctx in
    let block = c.in_ok-block.block.index in
    let region = c.in_ok-region.region.index in
    let made = block_apart _ (bare c.args.ctx.now) (bare c.new.new.ctx) c.recall_live_was_made.ensures _ _ _ c.in_ok-block.ensures.made first apart in
    let dead : IsNew (forest_of c.args.ctx.now) (a_block block) = dead_block _ (bare c.args.ctx.now) (bare c.new.new.ctx) c.recall_live_was_made.ensures _ _ _ c.in_ok-block.ensures.made in
    let new_block : IsNew first (a_block block) = was_not first (forest_of c.args.ctx.now) apart.left (a_block block) dead in
    let new_region = region-is-new first g made.left c.args.root.index region apart.nested c.recall_well_formed.ensures.nested new (slice_get-in _ 0 region c.in_ok-region.ensures.found) in
    apart-block-behind first g made (forest_of c.insert_at_back.new.ctx) region block new_region new_block c.in_ok-insert_at_back.ensures.forest

pub returns-clause-new : goal.returns-clause-new
returns-clause-new c = dead_block _ (bare c.args.ctx.now) (bare c.new.new.ctx) c.recall_live_was_made.ensures _ _ _ c.in_ok-block.ensures.made
