use Rattle.std.proofs.Common.{length}
use Rattle.ir_core_queries.specs.State.{block_uses_of, forest_of, types_of}
use Rattle.ir_view_parts.proofs.Users.{edges-ok, predecessors-ok}
use Rattle.ir_view_parts.proofs.backward_edges.PtrBasicBlockBlockPredecessors.preds.Goals as goal
use Rattle.ir_core_records.specs.DialectAnswers.{behaviour_of}

pub blocks_of_users-requires : goal.blocks_of_users-requires
blocks_of_users-requires g c = record { linked = c.kept_uses.ensures.linked.1 c.requires.linked }

pub returns-clause-exact : goal.returns-clause-exact
returns-clause-exact g c =
    predecessors-ok (forest_of c.args.ctx.now) c.args.self.index c.kept_uses.result.now c.kept_uses.ensures.exact (λ p. p.index) (λ blocks. blocks.items) c.blocks_of_users.result
    (block_uses_of c.args.ctx.now c.args.self.index) c.kept_uses.ensures.kept c.blocks_of_users.ensures.found

pub returns-clause-edges : goal.returns-clause-edges
returns-clause-edges g c =
    edges-ok (forest_of c.args.ctx.now) (behaviour_of g.D.Dialects g.D.TypeKey.PartialEq.eq)
    (length (types_of c.args.ctx.now)) c.recall_well_formed.ensures c.args.self.index (λ p. p.index) (λ blocks. blocks.items) c.blocks_of_users.result
    (block_uses_of c.args.ctx.now c.args.self.index) (returns-clause-exact g c)
