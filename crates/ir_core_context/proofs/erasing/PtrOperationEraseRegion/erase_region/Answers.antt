use Rattle.std.proofs.Common.{◌≡◌, List, Some, length, slice_get, rules, sym, subst}
use Rattle.ir_model.specs.declared.ids.ArenaIndex.{ArenaIndex}
use Rattle.ir_model.specs.Forest.{a_region}
use Rattle.ir_model.specs.Nesting.{IsClosed, regions_of}
use Rattle.ir_model.proofs.Found.{holds_of}
use Rattle.ir_core_context.specs.Calls.{IsOperation}
use Rattle.ir_core_context.specs.State.{forest_of, types_of}
use Rattle.ir_core_context.proofs.Leads.{leads-to-live, regions-here}
use Rattle.ir_core_context.proofs.erasing.PtrOperationEraseRegion.erase_region.Goals as goal

pub erase_whole-requires-clause-live : goal.erase_whole-requires-clause-live
erase_whole-requires-clause-live g c =
    let found : IsOperation (forest_of c.args.ctx.now) c.args.self.index c.at.result.now = search rules in
    (leads-to-live (forest_of c.args.ctx.now) (length (types_of c.args.ctx.now)) c.recall_well_formed.ensures c.args.self.index c.at.result.now found).regions c.get_region-region.result.index c.args.index c.get_region-region.ensures

pub erase_whole-requires-clause-closed : goal.erase_whole-requires-clause-closed
erase_whole-requires-clause-closed g c =
    let found : IsOperation (forest_of c.args.ctx.now) c.args.self.index c.at.result.now = search rules in
    let here : slice_get (regions_of (forest_of c.args.ctx.now) c.args.self.index) c.args.index ≡ Some c.get_region-region.result.index =
    subst (λ (rs : List ArenaIndex). slice_get rs c.args.index ≡ Some c.get_region-region.result.index) (sym (regions-here (forest_of c.args.ctx.now) (length (types_of c.args.ctx.now)) c.recall_well_formed.ensures c.args.self.index c.at.result.now found)) c.get_region-region.ensures in
    holds_of {P = λ (r : ArenaIndex). IsClosed (forest_of c.args.ctx.now) (a_region r)} (slice_get (regions_of (forest_of c.args.ctx.now) c.args.self.index) c.args.index) c.get_region-region.result.index here c.requires.closed
