use Rattle.ir_run_unreached.proofs.inside.treat.Goals as goal

pub remove_unreached-requires-clause-names : goal.remove_unreached-requires-clause-names
remove_unreached-requires-clause-names g c = c.requires (c.is_live.ensures.0 c.if-not-is_live.false)
