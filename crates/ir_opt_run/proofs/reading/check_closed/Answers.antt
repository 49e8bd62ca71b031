use Rattle.ir_opt_run.proofs.reading.check_closed.Goals as goal

pub returns-then-can_erase-clause-closed : goal.returns-then-can_erase-clause-closed
returns-then-can_erase-clause-closed c = c.can_erase.ensures.0 c.if-can_erase.true
