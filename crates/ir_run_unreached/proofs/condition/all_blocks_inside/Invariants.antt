use Rattle.std.proofs.Common.{◌↔◌, map, take}
use Rattle.ir_model.specs.declared.ids.ArenaIndex.{ArenaIndex}
use Rattle.ir_model.specs.Forest.{a_block}
use Rattle.ir_model.specs.Nesting.{In}
use Rattle.ir_core_queries.specs.State.{forest_of}
use Rattle.ir_run_unreached.specs.Kept.{IsInsideOne}
use Rattle.ir_run_unreached.proofs.condition.all_blocks_inside.Given as goal

-- the blocks inside the first ones are marked
abbrev pub invariant-loop-block : goal.invariant-loop-block
invariant-loop-block g l = (c : ArenaIndex) → In c l.marked ↔ IsInsideOne (forest_of l.ctx) (take l.block-index (map (λ p. p.index) l.blocks)) (a_block c)
