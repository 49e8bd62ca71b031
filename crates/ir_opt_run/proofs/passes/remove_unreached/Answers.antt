use Rattle.ir_opt_run.proofs.passes.remove_unreached.Goals as goal

pub remove_unreached_inside-requires-clause-names : goal.remove_unreached_inside-requires-clause-names
remove_unreached_inside-requires-clause-names c = c.in_ok-can.ensures.exact.0 c.if-not-can.false

pub returns-then-is_live-clause-names : goal.returns-then-is_live-clause-names
returns-then-is_live-clause-names c = c.in_ok-can.ensures.exact.0 c.if-not-can.false
