use Rattle.std.proofs.Common.{◌≡◌, ◌⊎◌, ◌+◌, ◌<◌, refl, inl, inr, arith}
use Rattle.ir_core_context.specs.Calls.{counts_of}
use Rattle.ir_core_context.specs.State.{bare}
use Rattle.ir_core_context.proofs.Rooms.{has-numbers, lacks-numbers, lacks-slots, left-above, not_having, not_lacking, slots_enough}
use Rattle.ir_core_context.proofs.context.Context.covers.Goals as goal
use Rattle.ir_core_context.proofs.context.Context.covers.Goals.{then-room-needs-via-then-room-needs, then-room-needs-via-else-room-needs+then-room-operands, then-room-needs-via-else-room-needs+else-room-operands+then-room-operands-2, then-room-needs-2-via-then-room-needs-2, then-room-needs-2-via-else-room-needs-2+then-room-needs-3, then-room-needs-2-via-else-room-needs-2+else-room-needs-3+then-room-needs-4}

pub returns-then-room-needs-clause-counter : goal.returns-then-room-needs-clause-counter
returns-then-room-needs-clause-counter g c =
    let n = c.args.needs in
    let room = c.room-room.result in
    let few : (room.values < n.values) ⊎ (room.uses < n.operands + n.successors) =
    elim c.then-room-needs.branch [
      | then-room-needs-via-then-room-needs w ↦ inl (omega arith)
      | then-room-needs-via-else-room-needs+then-room-operands w ↦ inr (omega arith)
      | then-room-needs-via-else-room-needs+else-room-operands+then-room-operands-2 w ↦ inr (omega arith)
    ] in
    (λ e. lacks-numbers (bare c.args.self.now) room c.room-room.ensures.exact (counts_of n) few, λ h. refl)

pub returns-then-room-needs-clause-slots : goal.returns-then-room-needs-clause-slots
returns-then-room-needs-clause-slots g c =
    let n = c.args.needs in
    let room = c.room-room.result in
    let few : (room.values < n.values) ⊎ (room.uses < n.operands + n.successors) =
    elim c.then-room-needs.branch [
      | then-room-needs-via-then-room-needs w ↦ inl (omega arith)
      | then-room-needs-via-else-room-needs+then-room-operands w ↦ inr (omega arith)
      | then-room-needs-via-else-room-needs+else-room-operands+then-room-operands-2 w ↦ inr (omega arith)
    ] in
    (λ e. absurd cc, λ h. absurd (not_having (bare c.args.self.now) room c.room-room.ensures.exact (counts_of n) few h.0))

pub returns-then-room-needs-2-clause-counter : goal.returns-then-room-needs-2-clause-counter
returns-then-room-needs-2-clause-counter g c = (λ e. absurd cc, λ l. absurd (not_lacking (bare c.args.self.now) c.room-room.result c.room-room.ensures.exact (counts_of c.args.needs) (omega arith) (omega arith) l))

pub returns-then-room-needs-2-clause-slots : goal.returns-then-room-needs-2-clause-slots
returns-then-room-needs-2-clause-slots g c =
    let n = c.args.needs in
    let room = c.room-room.result in
    let few : (room.ops < n.ops) ⊎ ((room.blocks < n.blocks) ⊎ (room.regions < n.regions)) =
    elim c.then-room-needs-2.branch [
      | then-room-needs-2-via-then-room-needs-2 w ↦ inl (omega arith)
      | then-room-needs-2-via-else-room-needs-2+then-room-needs-3 w ↦ inr (inl (omega arith))
      | then-room-needs-2-via-else-room-needs-2+else-room-needs-3+then-room-needs-4 w ↦ inr (inr (omega arith))
    ] in
    (λ e. (has-numbers (bare c.args.self.now) room c.room-room.ensures.exact (counts_of n) (omega arith) (omega arith), lacks-slots (bare c.args.self.now) room c.room-room.ensures.exact (counts_of n) few), λ h. refl)

pub returns-clause-enough : goal.returns-clause-enough
returns-clause-enough g c =
    let s = c.args.self.now in
    let values = left-above s.limits.values s.next_value c.room-room.result.values c.room-room.ensures.exact.values in
    let uses = left-above s.limits.uses s.next_use c.room-room.result.uses c.room-room.ensures.exact.uses in
    record {
      values = omega (arith, values);
      uses = omega (arith, uses);
      ops = omega (arith, c.room-room.ensures.ops);
      blocks = omega (arith, c.room-room.ensures.blocks);
      regions = omega (arith, c.room-room.ensures.regions);
    }

pub returns-clause-counter : goal.returns-clause-counter
returns-clause-counter g c = (λ e. absurd cc, λ l. absurd (not_lacking (bare c.args.self.now) c.room-room.result c.room-room.ensures.exact (counts_of c.args.needs) (omega arith) (omega arith) l))

pub returns-clause-slots : goal.returns-clause-slots
returns-clause-slots g c = (λ e. absurd cc, λ h. absurd (slots_enough (bare c.args.self.now) c.room-room.result c.room-room.ensures.exact (counts_of c.args.needs) (omega arith) (omega arith) (omega arith) h.1))
