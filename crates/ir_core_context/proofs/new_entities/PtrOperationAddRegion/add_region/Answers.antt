use Rattle.std.proofs.Common.{sym, ap, subst}
use Rattle.ir_model.specs.Forest.{Forest, a_region, an_op}
use Rattle.ir_model.specs.Ids.{Counts}
use Rattle.ir_model.specs.Nesting.{IsLive}
use Rattle.ir_core_context.specs.Calls.{region_needs}
use Rattle.ir_core_context.specs.State.{bare, forest_of}
use Rattle.ir_core_context.proofs.Answers.{err_holds}
use Rattle.ir_core_context.proofs.Handed.{skips-nothing}
use Rattle.ir_core_context.proofs.StayLive.{region-live}
use Rattle.ir_core_context.proofs.Told.{TellsLacks, has-no-numbers, lacks-no-numbers, tells-done, tells-memory, tells-of, tells-refused, tells-slots}
use Rattle.ir_core_context.proofs.new_entities.PtrOperationAddRegion.add_region.Goals as goal

pub returns-in_err-covers-clause-counter : goal.returns-in_err-covers-clause-counter
returns-in_err-covers-clause-counter g c =
    let s = bare c.args.ctx.now in
    let told : TellsLacks s region_needs c.covers.result = tells-of s c.covers.result (ap (λ (k : Counts). record k { regions = 1 }) c.none.ensures) c.covers.ensures.counter c.covers.ensures.slots in
    let here = tells-refused s region_needs c.covers.result c.from_residual.result c.in_err-covers.field-0.0 told c.in_err-covers.was c.from_residual.ensures.1 in
    λ e. lacks-no-numbers c.args.ctx.now c.recall_keeps_to_limits.ensures.values c.recall_keeps_to_limits.ensures.uses (here.counter.0 e)

pub returns-in_err-covers-clause-slots : goal.returns-in_err-covers-clause-slots
returns-in_err-covers-clause-slots g c =
    let s = bare c.args.ctx.now in
    let told : TellsLacks s region_needs c.covers.result = tells-of s c.covers.result (ap (λ (k : Counts). record k { regions = 1 }) c.none.ensures) c.covers.ensures.counter c.covers.ensures.slots in
    let here = tells-refused s region_needs c.covers.result c.from_residual.result c.in_err-covers.field-0.0 told c.in_err-covers.was c.from_residual.ensures.1 in
    tells-slots s region_needs c.from_residual.result here (has-no-numbers c.args.ctx.now c.recall_keeps_to_limits.ensures.values c.recall_keeps_to_limits.ensures.uses)

pub returns-in_err-covers-clause-refused : goal.returns-in_err-covers-clause-refused
returns-in_err-covers-clause-refused g c = err_holds c.from_residual.result (skips-nothing (bare c.args.ctx.now) region_needs)

pub returns-in_err-create_region-clause-op_live : goal.returns-in_err-create_region-clause-op_live
returns-in_err-create_region-clause-op_live g c = subst (λ (f : Forest _ _). IsLive f (an_op c.args.self.index)) (sym c.in_err-create_region.ensures.refused.forest) c.requires

pub returns-in_err-create_region-clause-slots : goal.returns-in_err-create_region-clause-slots
returns-in_err-create_region-clause-slots g c =
    let s = bare c.args.ctx.now in
    let told : TellsLacks s region_needs c.covers.result = tells-of s c.covers.result (ap (λ (k : Counts). record k { regions = 1 }) c.none.ensures) c.covers.ensures.counter c.covers.ensures.slots in
    let here = tells-memory s region_needs c.covers.result c.from_residual-in_err-create_region.result c.in_ok-covers.field-0 told c.in_ok-covers.was c.from_residual-in_err-create_region.ensures.1 in
    tells-slots s region_needs c.from_residual-in_err-create_region.result here (has-no-numbers c.args.ctx.now c.recall_keeps_to_limits.ensures.values c.recall_keeps_to_limits.ensures.uses)

pub returns-clause-live : goal.returns-clause-live
returns-clause-live g c =
    let made = c.in_ok-create_region.ensures.made in
    subst (λ i. IsLive (forest_of c.create_region.new.ctx) (a_region i)) (sym c.from_index.ensures)
    (subst (λ (f : Forest _ _). IsLive f (a_region c.in_ok-create_region.field-0)) (sym made.forest) (region-live (forest_of c.args.ctx.now) c.args.self.index c.in_ok-create_region.field-0))

pub returns-clause-op_live : goal.returns-clause-op_live
returns-clause-op_live g c = c.in_ok-create_region.ensures.keeps.entities_stay_live (an_op c.args.self.index) c.requires

pub returns-clause-slots : goal.returns-clause-slots
returns-clause-slots g c =
    let s = bare c.args.ctx.now in
    let told : TellsLacks s region_needs c.covers.result = tells-of s c.covers.result (ap (λ (k : Counts). record k { regions = 1 }) c.none.ensures) c.covers.ensures.counter c.covers.ensures.slots in
    tells-slots s region_needs _ (tells-done s region_needs c.covers.result c.in_ok-covers.field-0 c.from_index.result told c.in_ok-covers.was) (has-no-numbers c.args.ctx.now c.recall_keeps_to_limits.ensures.values c.recall_keeps_to_limits.ensures.uses)
