use Rattle.ir_core_queries.proofs.entity.can_erase.Goals as goal

pub returns : goal.returns
returns g c = rw (c.records.ensures, c.index.ensures) at c.can_erase.ensures
