use Rattle.std.proofs.Common.{take}
use Rattle.ir_model.specs.Forest.{a_block}
use Rattle.ir_model.specs.Nesting.{In, IsLive, ops_of}
use Rattle.ir_core_queries.specs.State.{forest_of}
use Rattle.ir_view_parts.proofs.Items.{zip-next, zip-second}
use Rattle.ir_view_parts.proofs.Stands.{stands-live}
use Rattle.ir_view_parts.proofs.backward_edges.blocks_of_users.Goals as goal

pub linked_block-requires : goal.linked_block-requires
linked_block-requires g c =
    record { linked = rw (c.user.ensures, c.used-item.is) (c.requires.linked c.loop-used.used-index c.used-item.result c.loop-used-test.true) }

pub loop-used-preserved : goal.loop-used-preserved
loop-used-preserved g c =
    zip-next (λ u p. In u.user (ops_of (forest_of c.args.ctx.now) p.index)) c.args.uses.now c.loop-used.blocks.items c.push.new.self.items c.loop-used.used-index _ c.linked_block.result
    c.loop-used.invariant c.loop-used-test.true c.in_ok-push.ensures.items (rw (c.user.ensures, c.used-item.is) at c.linked_block.ensures.found)

pub returns-clause-live : goal.returns-clause-live
returns-clause-live g c =
    zip-second (λ u p. In u.user (ops_of (forest_of c.args.ctx.now) p.index)) (λ p. IsLive (forest_of c.args.ctx.now) (a_block p.index)) (λ u p h. stands-live (forest_of c.args.ctx.now) u.user p.index h)
    (take c.loop-used.used-index c.args.uses.now) c.loop-used.blocks.items c.loop-used.invariant
