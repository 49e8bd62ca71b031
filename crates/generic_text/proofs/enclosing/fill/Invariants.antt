use Rattle.std.proofs.Common.{[], map, take}
use Rattle.ir_core_queries.specs.State.{forest_of}
use Rattle.ir_model.specs.declared.ids.ArenaIndex.{ArenaIndex}
use Rattle.ir_model.specs.Forest.{a_block}
use Rattle.ir_model.specs.Nesting.{IsLive}
use Rattle.generic_text.specs.Enclosing.{StandsAround}
use Rattle.generic_text.specs.Left.{StaysApartBut}
use Rattle.generic_text.proofs.enclosing.fill.Given as goal

-- those that were gone through stand in the block, and what was there at first is as it was
abbrev pub invariant-loop-op : goal.invariant-loop-op
invariant-loop-op l =
    ((root : ArenaIndex) → StandsAround (forest_of l.fn.ctx) root l.block.index [] → StandsAround (forest_of l.ctx) root l.block.index (map (λ p. p.index) (take l.op-index l.tops)))
    × IsLive (forest_of l.ctx) (a_block l.block.index)
    × StaysApartBut l.block.index (forest_of l.fn.ctx) (forest_of l.ctx)
