use Rattle.std.proofs.Common.{sym, ap, subst}
use Rattle.std.specs.Option.{option_map}
use Rattle.ir_model.specs.Forest.{a_block, a_region}
use Rattle.ir_core_records.specs.Meaning.{forest_in}
use Rattle.ir_core_records.specs.Tree.{tree_of, blocks_in, region_ends}
use Rattle.ir_core_queries.specs.Neighbours.{EndsTell}
use Rattle.ir_core_queries.proofs.Listed.{blocks-listed, blocks-meant}
use Rattle.ir_core_queries.proofs.Neighbours.{ends-tell}
use Rattle.ir_core_queries.proofs.links.region.Goals as goal

pub returns : goal.returns
returns g c =
    let t = c.args.ctx.now.records in
    let nested = c.recall_holds_together.ensures.nested in
    let r = c.args.region.index in
    let here = ap (option_map region_ends) (rw c.records.ensures at c.at.ensures) in
    subst (λ list. EndsTell (forest_in t) a_block list (region_ends c.at.result.now)) (sym (blocks-meant t nested r))
    (ends-tell (forest_in t) c.recall_well_formed.ensures.nested a_block (a_region r) (blocks_in (tree_of t) r) ((blocks-listed t nested).list r)
    (region_ends c.at.result.now) (nested.block_lists.ends r (region_ends c.at.result.now) here))
