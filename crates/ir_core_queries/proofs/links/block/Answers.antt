use Rattle.std.proofs.Common.{sym, ap, subst}
use Rattle.std.specs.Option.{option_map}
use Rattle.ir_model.specs.Forest.{an_op, a_block, a_region}
use Rattle.ir_model.specs.Nesting.{ops_of}
use Rattle.ir_core_records.specs.Meaning.{forest_in}
use Rattle.ir_core_records.specs.Tree.{tree_of, block_ends, block_links, blocks_in, ops_in}
use Rattle.ir_core_queries.specs.Neighbours.{EndsTell}
use Rattle.ir_core_queries.proofs.Listed.{blocks-listed, ops-listed, ops-meant}
use Rattle.ir_core_queries.proofs.Neighbours.{ends-tell, links-tell}
use Rattle.ir_core_queries.proofs.links.block.Goals as goal

pub returns-clause-links : goal.returns-clause-links
returns-clause-links g c =
    let t = c.args.ctx.now.records in
    let nested = c.recall_holds_together.ensures.nested in
    let b = c.args.block.index in
    let here = ap (option_map block_links) (rw c.records.ensures at c.at.ensures) in
    links-tell (forest_in t) c.recall_well_formed.ensures.nested a_block a_region (blocks_in (tree_of t)) (blocks-listed t nested) (tree_of t).blocks
    (c.links_are_neighbours.ensures.links t.blocks t.regions (blocks_in (tree_of t)) nested.block_lists)
    b (block_links c.at.result.now) here (nested.block_lists.covers b (block_links c.at.result.now) here)

pub returns-clause-ends : goal.returns-clause-ends
returns-clause-ends g c =
    let t = c.args.ctx.now.records in
    let nested = c.recall_holds_together.ensures.nested in
    let b = c.args.block.index in
    let here = ap (option_map block_ends) (rw c.records.ensures at c.at.ensures) in
    subst (λ list. EndsTell (forest_in t) an_op list (block_ends c.at.result.now)) (sym (ops-meant t nested b))
    (ends-tell (forest_in t) c.recall_well_formed.ensures.nested an_op (a_block b) (ops_in (tree_of t) b) ((ops-listed t nested).list b)
    (block_ends c.at.result.now) (nested.op_lists.ends b (block_ends c.at.result.now) here))
