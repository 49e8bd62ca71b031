use Rattle.std.proofs.Common.{◌∙◌, ◌++◌, ◌∷◌, [], ap, refl}
use Rattle.ir_core_queries.specs.State.{bare, forest_of}
use Rattle.ir_model.specs.Forest.{a_block}
use Rattle.generic_text.specs.Left.{IsNew}
use Rattle.generic_text.proofs.BuiltOn.{all_more, on_apart}
use Rattle.generic_text.proofs.Left.{was_not}
use Rattle.generic_text.proofs.MadeNew.{block_apart, dead_block}
use Rattle.generic_text.proofs.blocks.make.Goals as goal

pub returns-in_err-add_block-clause-goes_on : goal.returns-in_err-add_block-clause-goes_on
returns-in_err-add_block-clause-goes_on c = λ first builds.
    let apart = block_apart _ (bare c.args.ctx.now) (bare c.new.new.ctx) c.recall_live_was_made.ensures _ _ _ c.in_ok-block.ensures.made first builds.apart in
    on_apart first (forest_of c.args.ctx.now) c.args.made.now builds (forest_of c.new.new.ctx) c.add_block.new.self apart (ap (λ v. v.items) c.add_block.ensures.ops) (c.in_err-add_block.ensures.err ∙ c.reserve.ensures.items) (ap (λ v. v.items) c.add_block.ensures.late)

pub returns-clause-new : goal.returns-clause-new
returns-clause-new c = dead_block _ (bare c.args.ctx.now) (bare c.new.new.ctx) c.recall_live_was_made.ensures _ _ _ c.in_ok-block.ensures.made

pub returns-clause-goes_on : goal.returns-clause-goes_on
returns-clause-goes_on c = λ first builds.
    let f = forest_of c.args.ctx.now in
    let apart = block_apart _ (bare c.args.ctx.now) (bare c.new.new.ctx) c.recall_live_was_made.ensures _ _ _ c.in_ok-block.ensures.made first builds.apart in
    let new : IsNew first (a_block c.in_ok-block.block.index) = was_not first f builds.apart.left (a_block c.in_ok-block.block.index) (returns-clause-new c) in
    let before = on_apart first f c.args.made.now builds (forest_of c.new.new.ctx) (record c.add_block.new.self { blocks = c.args.made.now.blocks }) apart (ap (λ v. v.items) c.add_block.ensures.ops) refl (ap (λ v. v.items) c.add_block.ensures.late) in
    record {
      apart = apart;
      ops = before.ops;
      blocks = all_more (λ b. IsNew first (a_block b.index)) _ _ c.in_ok-block.block (c.in_ok-add_block.ensures.blocks ∙ ap (λ bs. bs ++ c.in_ok-block.block ∷ []) c.reserve.ensures.items) builds.blocks new;
      late = before.late;
    }
