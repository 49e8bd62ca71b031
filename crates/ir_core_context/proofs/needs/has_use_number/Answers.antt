use Rattle.std.proofs.Common.{◌≡◌, ◌+◌, ap, arith}
use Rattle.ir_model.specs.Edits.{one_use}
use Rattle.ir_model.specs.Ids.{Counts}
use Rattle.ir_core_context.specs.Calls.{counts_of}
use Rattle.ir_core_context.specs.State.{bare}
use Rattle.ir_core_context.proofs.Rooms.{slots_enough}
use Rattle.ir_core_context.proofs.Told.{TellsLacks, only-counter, tells-of}
use Rattle.ir_core_context.proofs.needs.has_use_number.Goals as goal

pub returns-clause-counter : goal.returns-clause-counter
returns-clause-counter g c =
    let none = c.none.ensures in
    let one : 1 + c.none.result.successors ≡ 1 = omega (arith, ap (λ (k : Counts). k.uses) none) in
    let told : TellsLacks (bare c.args.ctx.now) one_use c.covers.result = tells-of (bare c.args.ctx.now) c.covers.result (λ i. record (none i) { uses = one i }) c.covers.ensures.counter c.covers.ensures.slots in
    told.counter

pub returns-clause-only : goal.returns-clause-only
returns-clause-only g c =
    let none = c.none.ensures in
    let one : 1 + c.none.result.successors ≡ 1 = omega (arith, ap (λ (k : Counts). k.uses) none) in
    let told : TellsLacks (bare c.args.ctx.now) one_use c.covers.result = tells-of (bare c.args.ctx.now) c.covers.result (λ i. record (none i) { uses = one i }) c.covers.ensures.counter c.covers.ensures.slots in
    only-counter c.covers.result c.covers.ensures.only (λ h. slots_enough (bare c.args.ctx.now) c.room-room.result c.room-room.ensures.exact one_use (omega arith) (omega arith) (omega arith) (told.slots.0 h).1)
