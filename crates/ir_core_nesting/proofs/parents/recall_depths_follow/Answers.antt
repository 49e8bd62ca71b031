use Rattle.std.proofs.Common.{suc, ap, ◌∙◌}
use Rattle.ir_core_records.specs.Tree.{tree_of, ops_in, blocks_in}
use Rattle.ir_core_nesting.specs.Climbs.{depth, kept_parent, size}
use Rattle.ir_core_nesting.proofs.Climbs.{climb-length}
use Rattle.ir_core_nesting.proofs.ForestParents.{parent-from}
use Rattle.ir_core_nesting.proofs.Depth.{depth-up}
use Rattle.ir_core_nesting.proofs.parents.recall_depths_follow.Goals as goal

pub returns-clause-below : goal.returns-clause-below
returns-clause-below g c = λ t x y nested formed h.
    let ops = c.lists_hold_nodes.ensures.container t.ops t.blocks (ops_in (tree_of t)) nested.op_lists in
    let blocks = c.lists_hold_nodes-2.ensures.container t.blocks t.regions (blocks_in (tree_of t)) nested.block_lists in
    depth-up t nested formed ops blocks x ∙ ap (λ o. suc (depth t o)) (parent-from t nested formed ops blocks x y h)

pub returns-clause-fits : goal.returns-clause-fits
returns-clause-fits g c = λ t o. climb-length (suc (size t)) (kept_parent (tree_of t)) o
