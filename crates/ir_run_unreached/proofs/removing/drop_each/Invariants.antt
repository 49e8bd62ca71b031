use Rattle.std.proofs.Common.{All, drop, map}
use Rattle.ir_model.specs.ContextIds.{context_ids}
use Rattle.ir_model.specs.Forest.{Forest, a_block}
use Rattle.ir_model.specs.Nesting.{IsLive}
use Rattle.ir_core_queries.specs.State.{bare, forest_of}
use Rattle.ir_core_queries.specs.Calls.{SameButForest}
use Rattle.ir_core_records.specs.Meaning.{closed}
use Rattle.ir_run_unreached.specs.Removals.{DropsEach}
use Rattle.ir_run_unreached.proofs.removing.drop_each.Given as goal

-- whatever the drops that are left make, all of them make
abbrev pub invariant-loop-block : goal.invariant-loop-block
invariant-loop-block g l =
    ((h : Forest context_ids (closed g.row.D-Attr.Denot g.row.D-TypeKey.Denot g.row.D-TypeBody.Denot g.row.D-Saved.Denot g.row.D-Aux.Denot g.row.D-Loc.Denot))
    → DropsEach (forest_of l.ctx) (drop l.block-index (map (λ p. p.index) l.blocks)) h → DropsEach (forest_of l.initial.ctx) (map (λ p. p.index) l.blocks) h)
    × All (λ p. IsLive (forest_of l.ctx) (a_block p.index)) l.blocks
    × SameButForest (bare l.initial.ctx) (bare l.ctx)
