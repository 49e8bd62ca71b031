use Rattle.ir_run_passes.proofs.walking.walk_start.Goals as goal

pub returns : goal.returns
returns g c = rw c.records.ensures at c.deepest.ensures.first
