use Rattle.std.proofs.Common.{◌∙◌, ap, map, subst, sym}
use Rattle.ir_model.specs.ContextIds.{context_ids}
use Rattle.ir_model.specs.Forest.{the_block}
use Rattle.ir_model.specs.Uses.{AreUses, Use}
use Rattle.ir_core_context.specs.State.{forest_of}
use Rattle.ir_core_queries.proofs.BlockUsers.{kept-meant, users-linked, users-named}
use Rattle.ir_core_queries.proofs.users.kept_uses.Goals as goal

pub returns-clause-kept : goal.returns-clause-kept
returns-clause-kept g c = kept-meant c.records.result.now c.args.ctx.now.records c.records.ensures c.args.block.index c.as_slice.result.now (c.as_slice.ensures ∙ c.block_uses-uses.ensures)

pub returns-clause-exact : goal.returns-clause-exact
returns-clause-exact g c =
    let kept = kept-meant c.records.result.now c.args.ctx.now.records c.records.ensures c.args.block.index c.as_slice.result.now (c.as_slice.ensures ∙ c.block_uses-uses.ensures) in
    subst (AreUses (forest_of c.args.ctx.now) (the_block c.args.block.index)) (sym kept) (c.recall_uses_exact.ensures.blocks c.args.block.index c.requires)

pub returns-clause-users : goal.returns-clause-users
returns-clause-users g c = users-named (forest_of c.args.ctx.now) c.args.block.index c.as_slice.result.now (returns-clause-exact g c)

pub returns-clause-linked : goal.returns-clause-linked
returns-clause-linked g c = users-linked (forest_of c.args.ctx.now) c.args.block.index c.as_slice.result.now (returns-clause-exact g c)
