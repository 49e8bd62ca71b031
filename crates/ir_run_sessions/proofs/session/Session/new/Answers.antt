use Rattle.std.proofs.Common.{refl}
use Rattle.ir_model.proofs.Grows.{new_sound}
use Rattle.ir_run_sessions.proofs.session.Session.new.Goals as goal

pub invariant_of-result : goal.invariant_of-result
invariant_of-result g c =
    let n = c.with_limits.ensures.new in
    new_sound _ (record { ops = n.ops; blocks = n.blocks; regions = n.regions; store = n.store; tables = c.new.ensures; none_passed = n.none_passed })
