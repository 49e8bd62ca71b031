use Rattle.std.proofs.Common.{map, take}
use Rattle.ir_model.specs.declared.ids.ArenaIndex.{ArenaIndex}
use Rattle.ir_model.specs.ContextIds.{context_ids}
use Rattle.ir_model.specs.Forest.{Entity, a_block}
use Rattle.ir_model.specs.Nesting.{In, Inside}
use Rattle.ir_core_queries.specs.State.{forest_of}
use Rattle.ir_run_unreached.specs.Kept.{KeepsOwn}
use Rattle.ir_run_unreached.proofs.condition.keeps_each.Given as goal

-- what names something inside one of the first blocks stands in marked blocks
abbrev pub invariant-loop-block : goal.invariant-loop-block
invariant-loop-block g l = (b : ArenaIndex) → In b (take l.block-index (map (λ p. p.index) l.blocks)) → (x : Entity context_ids) → Inside (forest_of l.ctx) (a_block b) x → KeepsOwn (forest_of l.ctx) l.marked x
