use Rattle.ir_core_queries.specs.State.{forest_of}
use Rattle.generic_text.specs.Left.{BuildsOn, GenericForest, StandsApart}
use Rattle.generic_text.proofs.taking_back.take_back.Given as goal

abbrev pub invariant-uses : goal.invariant-uses
invariant-uses l = (first : GenericForest) → BuildsOn first (forest_of l.fn.ctx) l.made → StandsApart first (forest_of l.ctx)

abbrev pub invariant-block_uses : goal.invariant-block_uses
invariant-block_uses l = (first : GenericForest) → BuildsOn first (forest_of l.fn.ctx) l.made → StandsApart first (forest_of l.ctx)

abbrev pub invariant-ops : goal.invariant-ops
invariant-ops l = (first : GenericForest) → BuildsOn first (forest_of l.fn.ctx) l.made → StandsApart first (forest_of l.ctx)

abbrev pub invariant-loose_blocks : goal.invariant-loose_blocks
invariant-loose_blocks l = (first : GenericForest) → BuildsOn first (forest_of l.fn.ctx) l.made → StandsApart first (forest_of l.ctx)
