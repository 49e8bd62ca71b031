-- What an erasure makes of the arenas.
use Rattle.std.specs.Prelude.{◌≡◌, ℕ, ◌+◌}
use Rattle.ir_model.specs.declared.ids.ArenaIndex.{ArenaIndex}
use Rattle.ir_model.specs.ContextIds.{context_ids}
use Rattle.ir_model.specs.Forest.{Entity}
use Rattle.ir_model.specs.Changes.{Removes}
use Rattle.ir_base_arenas.specs.Arena.{Arena, arena_len, is_passed}
use Rattle.ir_core_records.specs.declared.records.Records.{Records}
use Rattle.ir_core_records.specs.Chains.{chains_of}
use Rattle.ir_core_records.specs.Meaning.{forest_in}
use Rattle.ir_core_records.specs.Nested.{AreNested}
use Rattle.ir_core_records.specs.Table.{KnowOwn}
use Rattle.ir_core_records.specs.Tree.{tree_of}

-- the arena has handed out the same ids, under the same limits
pub record SamePassed {T : Type 0} (old new : Arena T) : Type 0 where
  pub passed : (i : ArenaIndex) → is_passed new i ≡ is_passed old i
  pub limit : new.limit ≡ old.limit
  pub last_version : new.last_version ≡ old.last_version

module _ {D A K B S X L : Type 0} where
  -- how often records were removed
  abbrev pub removals : Records D A K B S X L → ℕ
  removals t = t.ops.removals + t.blocks.removals + t.regions.removals

  -- how many entities are live
  abbrev pub population : Records D A K B S X L → ℕ
  population t = arena_len t.ops + arena_len t.blocks + arena_len t.regions

  -- no id was handed out, and none that was is forgotten
  pub record HandsOutNone (old new : Records D A K B S X L) : Type 0 where
    pub ops : SamePassed old.ops new.ops
    pub blocks : SamePassed old.blocks new.blocks
    pub regions : SamePassed old.regions new.regions

  -- e alone was removed, by one removal, and all that it stood beside agrees as before
  pub record RemovesLeaf (old : Records D A K B S X L) (e : Entity context_ids) (new : Records D A K B S X L) : Type 0 where
    pub removed : Removes (forest_in old) e (forest_in new)
    pub nested : AreNested (tree_of new)
    pub chains : chains_of new ≡ chains_of old
    pub own : KnowOwn old → KnowOwn new
    pub ids : HandsOutNone old new
    pub counted : removals new ≡ removals old + 1
    pub fewer : population new + 1 ≡ population old
