use Rattle.std.proofs.Common.{◌≡◌, Some, ap, ◌∙◌, sym, subst, slice_get}
use Rattle.ir_model.specs.Nesting.{In, regions_of}
use Rattle.ir_core_context.specs.State.{forest_of}
use Rattle.ir_core_queries.proofs.Places.{index-of, region-in, regions-read}
use Rattle.ir_core_queries.proofs.region.PtrRegionRegionPlace.find_index_in_parent.Goals as goal

pub index_of_item-requires : goal.index_of_item-requires
index_of_item-requires g c =
    let f = forest_of c.args.ctx.now in
    let op = c.get_parent_op.result.index in
    let read : regions_of f op ≡ c.as_slice.result.now = regions-read c.args.ctx.now.records op c.at-op.result.now (rw c.records.ensures at c.at-op.ensures) ∙ sym c.as_slice.ensures in
    rw c.index.ensures (subst (In c.args.self.index) read (region-in f op c.args.self.index c.get_parent_op.ensures.parent))

pub returns : goal.returns
returns g c =
    let f = forest_of c.args.ctx.now in
    let op = c.get_parent_op.result.index in
    let read : regions_of f op ≡ c.as_slice.result.now = regions-read c.args.ctx.now.records op c.at-op.result.now (rw c.records.ensures at c.at-op.ensures) ∙ sym c.as_slice.ensures in
    index-of f op c.args.self.index c.index_of_item.result (ap (λ xs. slice_get xs c.index_of_item.result) read ∙ c.index_of_item.ensures ∙ ap Some c.index.ensures)
