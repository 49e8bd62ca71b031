-- What holds of every `Context`, in five parts.
use Rattle.std.specs.Prelude.{◌≡◌, ℕ, ◌<◌, ◌≤◌, length}
use Rattle.ir_model.specs.declared.ids.ArenaIndex.{ArenaIndex}
use Rattle.ir_model.specs.declared.ids.Limits.{Limits}
use Rattle.ir_model.specs.ContextIds.{context_ids}
use Rattle.ir_model.specs.Forest.{Definer}
use Rattle.ir_model.specs.Nesting.{In, WellFormed, numbers_of, use_numbers_of}
use Rattle.ir_core_records.specs.Chains.{AreLinked, chains_of}
use Rattle.ir_core_records.specs.Nested.{AreNested}
use Rattle.ir_core_records.specs.Table.{KnowOwn}
use Rattle.ir_core_records.specs.Tree.{tree_of}
pub use Rattle.ir_core_data.specs.Side.{Keeps}
use Rattle.ir_core_context.specs.State.{ContextState, forest_of}

-- the limits are in range
pub record AreLimits (l : Limits) : Type 0 where
  pub slots : l.slots < 4294967295
  pub some_version : 1 ≤ l.last_version

module _ {D A K B S X L : Type 0} where
  -- each number in use was handed out, and no limit is passed
  pub record KeepsCounts (s : ContextState D A K B S X L) : Type 0 where
    pub values : (d : Definer context_ids) (n : ℕ) → In n (numbers_of (forest_of s) d) → n < s.next_value
    pub uses : (o : ArenaIndex) (n : ℕ) → In n (use_numbers_of (forest_of s) o) → n < s.next_use
    pub value_limit : s.next_value ≤ s.limits.values
    pub use_limit : s.next_use ≤ s.limits.uses
    pub limits : AreLimits s.limits
    pub op_slots : Keeps s.limits s.records.ops
    pub block_slots : Keeps s.limits s.records.blocks
    pub region_slots : Keeps s.limits s.records.regions
    pub aux_slots : Keeps s.limits s.side.aux

  pub record IsSound (s : ContextState D A K B S X L) : Type 0 where
    -- uses and places name each other
    pub linked : AreLinked (chains_of s.records)
    -- links, ends and parents are those of lists
    pub nested : AreNested (tree_of s.records)
    -- operations and blocks know their own places
    pub own : KnowOwn s.records
    pub formed : WellFormed (forest_of s) (length s.types)
    pub counted : KeepsCounts s
