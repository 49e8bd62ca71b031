-- What the handle of an operation, a block or a region means.
use Rattle.ir_model.specs.ContextIds.{context_ids}
use Rattle.ir_model.specs.Forest.{Entity, an_op, a_block, a_region}
use Rattle.ir_core_queries.specs.declared.entity.Entity.{Entity as Handle}
use Rattle.ir_core_queries.specs.declared.entity.Entity.TheVariants.{Op, Block, Region}

module _ {D A K B S X L : Type 0} where
  -- the entity that a handle means
  abbrev pub meant : Handle D A K B S X L → Entity context_ids
  meant (Op p) = an_op p.index
  meant (Block p) = a_block p.index
  meant (Region p) = a_region p.index
