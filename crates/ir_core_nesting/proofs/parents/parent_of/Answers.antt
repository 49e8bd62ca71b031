use Rattle.std.specs.Option.{option_map}
use Rattle.ir_core_records.specs.Meaning.{entity_of}
use Rattle.ir_core_records.specs.Tree.{tree_of, ops_in, blocks_in}
use Rattle.ir_core_nesting.proofs.ForestParents.{parent-is}
use Rattle.ir_core_nesting.proofs.parents.parent_of.Goals as goal

pub returns : goal.returns
returns g c =
    let t = c.args.records.now in
    parent-is t c.requires.nested c.requires.formed
    (c.lists_hold_nodes.ensures.container t.ops t.blocks (ops_in (tree_of t)) c.requires.nested.op_lists)
    (c.lists_hold_nodes-2.ensures.container t.blocks t.regions (blocks_in (tree_of t)) c.requires.nested.block_lists)
    (entity_of c.args.entity) (option_map entity_of c.parent_in_record.result) c.parent_in_record.ensures
