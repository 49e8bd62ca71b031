-- The blocks that stand inside an entity.
use Rattle.std.specs.Prelude.{◌↔◌, List}
use Rattle.ir_model.specs.declared.ids.ArenaIndex.{ArenaIndex}
use Rattle.ir_model.specs.ContextIds.{context_ids}
use Rattle.ir_model.specs.Ids.{Distinct}
use Rattle.ir_model.specs.Forest.{Dialect, Forest, Entity, a_block}
use Rattle.ir_model.specs.Nesting.{In, Inside}

module _ {W : Dialect} where
  -- the list has exactly the blocks inside e, each once
  pub record ListsBlocks (f : Forest context_ids W) (e : Entity context_ids) (blocks : List ArenaIndex) : Type 0 where
    pub once : Distinct blocks
    pub exact : (b : ArenaIndex) → In b blocks ↔ Inside f e (a_block b)
