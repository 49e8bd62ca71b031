use Rattle.ir_base.specs.Model.Forest.{a_block, a_region}
use Rattle.ir_core.specs.Context.State.{forest_of}
use Rattle.bench.proofs.Placing.{new_block_goes, new_block_grows, placed_arguments}
use Rattle.bench.proofs.settled_building.add_block.Goals as goal

pub insert_at_back-requires-clause-container_live : goal.insert_at_back-requires-clause-container_live
insert_at_back-requires-clause-container_live g c = c.in_ok-block.ensures.keeps.entities_stay_live (a_region c.args.region.index) c.requires.region

pub insert_at_back-requires-clause-may_go : goal.insert_at_back-requires-clause-may_go
insert_at_back-requires-clause-may_go g c = new_block_goes _ _ _ c.recall_live_was_made.ensures _ _ _ c.in_ok-block.ensures.made c.recall_well_formed.ensures.nested c.args.region.index

pub returns-clause-live : goal.returns-clause-live
returns-clause-live g c = c.insert_at_back.ensures.keeps.entities_stay_live (a_block c.in_ok-block.block.index) c.in_ok-block.ensures.live

pub returns-clause-arguments : goal.returns-clause-arguments
returns-clause-arguments g c = placed_arguments (forest_of c.new.new.ctx) (forest_of c.insert_at_back.new.ctx) _ _ _ _ c.insert_at_back.ensures.forest c.in_ok-block.ensures.counts

pub returns-clause-grows : goal.returns-clause-grows
returns-clause-grows g c = (new_block_grows _ _ _ c.recall_live_was_made.ensures _ _ _ c.in_ok-block.ensures.made (forest_of c.insert_at_back.new.ctx) c.args.region.index c.requires.region c.insert_at_back.ensures.forest).0

pub returns-clause-inside : goal.returns-clause-inside
returns-clause-inside g c = (new_block_grows _ _ _ c.recall_live_was_made.ensures _ _ _ c.in_ok-block.ensures.made (forest_of c.insert_at_back.new.ctx) c.args.region.index c.requires.region c.insert_at_back.ensures.forest).1
