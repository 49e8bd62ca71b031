use Rattle.std.proofs.lemmas.Option.{slice_get-get_or}
use Rattle.ir_core_queries.specs.State.{block_uses_of, forest_of}
use Rattle.ir_view_parts.proofs.Users.{kept-within, predecessor-at, predecessor-listed, user-linked}
use Rattle.ir_view_parts.proofs.backward_edges.PtrBasicBlockBlockPredecessors.get_pred.Goals as goal

pub linked_block-requires : goal.linked_block-requires
linked_block-requires g c =
    let f = forest_of c.args.ctx.now in
    let b = c.args.self.index in
    let kept = c.kept_uses-uses.result.now in
    let exact = c.kept_uses-uses.ensures.exact in
    record { linked = rw (c.user.ensures, c.index-uses-index.is) (user-linked f b kept c.kept_uses-uses.ensures.users c.requires.linked c.args.index _ (slice_get-get_or kept c.args.index _ (kept-within f b kept exact (block_uses_of c.args.ctx.now b) c.kept_uses-uses.ensures.kept c.args.index c.requires.within))) }

pub returns-clause-found : goal.returns-clause-found
returns-clause-found g c =
    let f = forest_of c.args.ctx.now in
    let b = c.args.self.index in
    let kept = c.kept_uses-uses.result.now in
    let exact = c.kept_uses-uses.ensures.exact in
    predecessor-at f b kept exact c.args.index _ (slice_get-get_or kept c.args.index _ (kept-within f b kept exact (block_uses_of c.args.ctx.now b) c.kept_uses-uses.ensures.kept c.args.index c.requires.within))
    (block_uses_of c.args.ctx.now b) c.kept_uses-uses.ensures.kept c.linked_block.result.index (rw (c.user.ensures, c.index-uses-index.is) at c.linked_block.ensures.found)

pub returns-clause-listed : goal.returns-clause-listed
returns-clause-listed g c =
    let f = forest_of c.args.ctx.now in
    let b = c.args.self.index in
    let kept = c.kept_uses-uses.result.now in
    let exact = c.kept_uses-uses.ensures.exact in
    predecessor-listed f b kept exact c.args.index _ (slice_get-get_or kept c.args.index _ (kept-within f b kept exact (block_uses_of c.args.ctx.now b) c.kept_uses-uses.ensures.kept c.args.index c.requires.within))
    (block_uses_of c.args.ctx.now b) c.kept_uses-uses.ensures.kept _ c.recall_well_formed.ensures c.linked_block.result.index (rw (c.user.ensures, c.index-uses-index.is) at c.linked_block.ensures.found)
