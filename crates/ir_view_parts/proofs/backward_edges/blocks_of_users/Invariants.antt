use Rattle.std.proofs.Common.{take}
use Rattle.std.specs.List.{AllZip}
use Rattle.ir_model.specs.Nesting.{In, ops_of}
use Rattle.ir_core_queries.specs.State.{forest_of}
use Rattle.ir_view_parts.proofs.backward_edges.blocks_of_users.Given as goal

abbrev pub invariant-loop-used : goal.invariant-loop-used
invariant-loop-used g l = AllZip (λ u p. In u.user (ops_of (forest_of l.ctx) p.index)) (take l.used-index l.uses) l.blocks.items
