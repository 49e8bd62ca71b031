use Rattle.ir_checked.proofs.verifying.verify_typed_handle.Goals as goal

pub verify-requires : goal.verify-requires
verify-requires g c = c.is_known.ensures.0 c.if-not-is_known.false
