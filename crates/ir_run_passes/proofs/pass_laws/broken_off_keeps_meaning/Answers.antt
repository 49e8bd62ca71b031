use Rattle.ir_run_passes.proofs.pass_laws.broken_off_keeps_meaning.Goals as goal

pub returns-clause-in_block : goal.returns-clause-in_block
returns-clause-in_block g c = c.part_keeps_meaning.ensures.last

pub returns-clause-inside : goal.returns-clause-inside
returns-clause-inside g c = c.part_keeps_meaning.ensures.inside
