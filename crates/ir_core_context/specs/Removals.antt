-- How many removals an erasing takes, and a clearing.
use Rattle.std.specs.Prelude.{◌≡◌, ℕ, ◌+◌}
use Rattle.ir_model.specs.ContextIds.{context_ids}
use Rattle.ir_model.specs.Forest.{Entity}
use Rattle.ir_model.specs.Subtree.{IsSubtreeSize}
use Rattle.ir_base_arenas.specs.Arena.{cleared}
use Rattle.ir_core_erasing.specs.Erasing.{removals}
use Rattle.ir_core_context.specs.State.{ContextState, forest_of}

-- each entity of the subtree is removed once, and nothing else is
abbrev pub RemovesEachOnce : {D A K B S X L : Type 0} → ContextState D A K B S X L → ContextState D A K B S X L → Entity context_ids → Type 0
RemovesEachOnce old new e = (n : ℕ) × IsSubtreeSize (forest_of old) e n × (removals new.records ≡ removals old.records + n)

-- each live operation, block and region is removed once, and nothing else is
pub record ClearsEachOnce {D A K B S X L : Type 0} (old new : ContextState D A K B S X L) : Type 0 where
  pub ops : new.records.ops ≡ cleared old.records.ops
  pub blocks : new.records.blocks ≡ cleared old.records.blocks
  pub regions : new.records.regions ≡ cleared old.records.regions
