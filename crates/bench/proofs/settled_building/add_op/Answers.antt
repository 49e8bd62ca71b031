use Rattle.ir_base.specs.Model.Forest.{a_block, an_op}
use Rattle.ir_core.specs.Context.State.{forest_of}
use Rattle.bench.proofs.Placing.{new_op_arguments, new_op_goes, new_op_grows, placed_counts}
use Rattle.bench.proofs.settled_building.add_op.Goals as goal

pub insert_at_back-requires-clause-container_live : goal.insert_at_back-requires-clause-container_live
insert_at_back-requires-clause-container_live g c = c.in_ok-op.ensures.keeps.entities_stay_live (a_block c.args.block.index) c.requires.block

pub insert_at_back-requires-clause-may_go : goal.insert_at_back-requires-clause-may_go
insert_at_back-requires-clause-may_go g c = new_op_goes _ _ _ c.recall_live_was_made.ensures _ _ _ _ _ _ c.in_ok-op.ensures.made c.recall_well_formed.ensures.nested c.args.block.index

pub returns-clause-live : goal.returns-clause-live
returns-clause-live g c = c.insert_at_back.ensures.keeps.entities_stay_live (an_op c.in_ok-op.op.index) c.in_ok-op.ensures.live

pub returns-clause-counts : goal.returns-clause-counts
returns-clause-counts g c = placed_counts (forest_of c.new.new.ctx) (forest_of c.insert_at_back.new.ctx) _ _ _ _ _ _ _ c.insert_at_back.ensures.forest c.in_ok-op.ensures.counts

pub returns-clause-arguments : goal.returns-clause-arguments
returns-clause-arguments g c = new_op_arguments _ _ _ c.recall_live_was_made.ensures _ _ _ _ _ _ c.in_ok-op.ensures.made (forest_of c.insert_at_back.new.ctx) c.args.block.index c.insert_at_back.ensures.forest

pub returns-clause-grows : goal.returns-clause-grows
returns-clause-grows g c = (new_op_grows _ _ _ c.recall_live_was_made.ensures _ _ _ _ _ _ c.in_ok-op.ensures.made (forest_of c.insert_at_back.new.ctx) c.args.block.index c.requires.block c.insert_at_back.ensures.forest).0

pub returns-clause-inside : goal.returns-clause-inside
returns-clause-inside g c = (new_op_grows _ _ _ c.recall_live_was_made.ensures _ _ _ _ _ _ c.in_ok-op.ensures.made (forest_of c.insert_at_back.new.ctx) c.args.block.index c.requires.block c.insert_at_back.ensures.forest).1
