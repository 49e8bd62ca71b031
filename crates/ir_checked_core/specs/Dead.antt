-- What is told of an entity that isn't live.
use Rattle.ir_core_queries.specs.declared.entity.Entity.{Entity}
use Rattle.ir_core_queries.specs.declared.entity.Entity.TheVariants.{Op, Block, Region}
use Rattle.ir_checked_core.specs.declared.error.Condition.{Condition}
use Rattle.ir_checked_core.specs.declared.error.Condition.TheVariants.{DeadBlock, DeadOperation, DeadRegion}

module _ {D A K B S X L : Type 0} where
  -- the condition that fails where it isn't live, by which of the three it is
  abbrev pub dead_entity : Entity D A K B S X L → Condition
  dead_entity (Op p) = DeadOperation
  dead_entity (Block p) = DeadBlock
  dead_entity (Region p) = DeadRegion
