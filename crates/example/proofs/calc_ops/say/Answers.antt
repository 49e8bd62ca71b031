use Rattle.example.proofs.calc_ops.say.Goals as goal

-- whatever is written, what was live is live
pub returns-clause-stay_live : goal.returns-clause-stay_live
returns-clause-stay_live c = c.deref_mut-written.ensures.written.stay_live _
