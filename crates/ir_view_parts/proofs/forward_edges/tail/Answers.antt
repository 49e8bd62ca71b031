use Rattle.std.proofs.Common.{◌∙◌, ap, sym, Some}
use Rattle.ir_core_queries.specs.State.{forest_of}
use Rattle.ir_view_parts.proofs.Tails.{tail-is, tail-live}
use Rattle.ir_view_parts.proofs.forward_edges.tail.Goals as goal

pub returns-clause-found : goal.returns-clause-found
returns-clause-found g c =
    ap Some c.from_index.ensures ∙ sym c.in_ok-last.was ∙ c.get.ensures
    ∙ tail-is c.records.result.now c.args.ctx.now.records c.records.ensures c.recall_holds_together.ensures.nested c.args.block.index c.at.result.now c.at.ensures

pub returns-clause-live : goal.returns-clause-live
returns-clause-live g c =
    tail-live (forest_of c.args.ctx.now) _ c.recall_well_formed.ensures c.args.block.index c.from_index.result.index
    (sym (ap Some c.from_index.ensures ∙ sym c.in_ok-last.was ∙ c.get.ensures
    ∙ tail-is c.records.result.now c.args.ctx.now.records c.records.ensures c.recall_holds_together.ensures.nested c.args.block.index c.at.result.now c.at.ensures))
