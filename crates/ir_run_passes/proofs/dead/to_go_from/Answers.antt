use Rattle.ir_run_passes.proofs.dead.to_go_from.Goals as goal

pub returns-clause-none : goal.returns-clause-none
returns-clause-none g c = λ e. c.start_of-start.ensures.all (c.next_to_go.ensures.none e)
