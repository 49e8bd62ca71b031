use Rattle.ir_run_sessions.proofs.laws.choices_unseen.Goals as goal

pub returns : goal.returns
returns g c = c.choices_unseen.ensures _
