use Rattle.std.proofs.Common.{sym, ap, ◌∙◌}
use Rattle.std.specs.Option.{option_map}
use Rattle.ir_model.specs.Forest.{an_op, a_block}
use Rattle.ir_base_arenas.specs.Arena.{get}
use Rattle.ir_core_records.specs.declared.record.Operation.{Operation}
use Rattle.ir_core_records.specs.declared.records.Records.{Records}
use Rattle.ir_core_records.specs.Meaning.{forest_in}
use Rattle.ir_core_records.specs.Tree.{tree_of, op_links, ops_in}
use Rattle.ir_core_queries.proofs.Listed.{ops-listed}
use Rattle.ir_core_queries.proofs.Neighbours.{links-tell}
use Rattle.ir_core_queries.proofs.links.operation.Goals as goal

pub returns : goal.returns
returns g c =
    let t = c.args.ctx.now.records in
    let nested = c.recall_holds_together.ensures.nested in
    let o = c.args.op.index in
    let here = ap (option_map op_links) (rw c.records.ensures at c.at.ensures) in
    links-tell (forest_in t) c.recall_well_formed.ensures.nested an_op a_block (ops_in (tree_of t)) (ops-listed t nested) (tree_of t).ops
    (c.links_are_neighbours.ensures.links t.ops t.blocks (ops_in (tree_of t)) nested.op_lists)
    o (op_links c.at.result.now) here (nested.op_lists.covers o (op_links c.at.result.now) here)
