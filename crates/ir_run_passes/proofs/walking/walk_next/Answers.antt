use Rattle.ir_run_passes.proofs.walking.walk_next.Goals as goal

pub returns : goal.returns
returns g c = rw c.records.ensures at c.next_inside.ensures
