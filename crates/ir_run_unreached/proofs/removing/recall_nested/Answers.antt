use Rattle.ir_run_unreached.proofs.removing.recall_nested.Goals as goal

pub returns : goal.returns
returns g c = c.recall_well_formed.ensures.nested
