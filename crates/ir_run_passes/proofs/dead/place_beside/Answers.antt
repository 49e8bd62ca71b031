use Rattle.ir_core_queries.specs.State.{forest_of}
use Rattle.ir_run_passes.proofs.Ranks.{listed_live, beside_listed, beside_other}
use Rattle.ir_run_passes.proofs.dead.place_beside.Goals as goal

pub beside-requires : goal.beside-requires
beside-requires g c = listed_live (forest_of c.args.ctx.now) c.args.block.index c.recall_well_formed.ensures.nested c.args.op.index c.requires.op

pub returns-then-eq-clause-listed : goal.returns-then-eq-clause-listed
returns-then-eq-clause-listed g c = beside_listed (forest_of c.args.ctx.now) c.args.block.index c.recall_well_formed.ensures.nested c.args.op.index c.requires.op (λ p. p.index) c.args.to_end c.beside.result c.beside.ensures

pub returns-then-eq-clause-other : goal.returns-then-eq-clause-other
returns-then-eq-clause-other g c = beside_other (forest_of c.args.ctx.now) c.args.block.index c.recall_well_formed.ensures.nested c.args.op.index c.requires.op (λ p. p.index) c.args.to_end c.beside.result c.beside.ensures
