use Rattle.ir_checked.proofs.typed_handle.deref.Goals as goal

pub deref-requires : goal.deref-requires
deref-requires g c = c.is_known.ensures.0 c.if-not-is_known.false
