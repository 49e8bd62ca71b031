-- Arenas that hand out new ids, or lose records.
use Rattle.std.specs.Prelude.{◌≡◌, ◌⊎◌, ◌↔◌, ℕ, ◌≤◌, List, length, None, Some, IsTrue}
use Rattle.ir_model.specs.declared.ids.ArenaIndex.{ArenaIndex}
use Rattle.ir_model.specs.declared.ids.Limits.{Limits}
use Rattle.ir_model.specs.Ids.{Distinct}
use Rattle.ir_model.specs.Nesting.{In}
use Rattle.ir_model.specs.Sessions.{IsNewId}
use Rattle.ir_base_arenas.specs.Arena.{Arena, get, is_passed, IsLiveIn}

module _ {T : Type 0} where
  -- the second arena has handed out these ids besides those of the first, in which nothing stood under them
  pub record Grows (old new : Arena T) (made : List ArenaIndex) : Type 0 where
    pub distinct : Distinct made
    pub dead : (i : ArenaIndex) → In i made → get old i ≡ None
    pub are_new : (limits : Limits) → limits.slots ≡ old.limit → limits.last_version ≡ old.last_version → (i : ArenaIndex) → In i made → IsNewId limits (is_passed old) (IsLiveIn old) i
    pub passed : (i : ArenaIndex) → IsTrue (is_passed new i) ↔ (IsTrue (is_passed old i) ⊎ In i made)
    pub limit : new.limit ≡ old.limit
    pub last_version : new.last_version ≡ old.last_version

  -- the record stands under each of these new ids, and all else as it stood
  pub record Fills (old new : Arena T) (made : List ArenaIndex) (value : T) : Type 0 where
    pub grows : Grows old new made
    pub filled : (i : ArenaIndex) → In i made → get new i ≡ Some value
    pub kept : (i : ArenaIndex) → (In i made → ⊥) → get new i ≡ get old i

  -- at most so many ids were skipped
  pub record SkipsIds (old new : Arena T) (most : ℕ) : Type 0 where
    pub skipped : List ArenaIndex
    pub few : length skipped ≤ most
    pub grows : Grows old new skipped

  -- nothing stands under these ids, and all else as it stood
  pub record Clears (old new : Arena T) (ids : List ArenaIndex) : Type 0 where
    pub gone : (i : ArenaIndex) → In i ids → get new i ≡ None
    pub kept : (i : ArenaIndex) → (In i ids → ⊥) → get new i ≡ get old i
    pub passed : (i : ArenaIndex) → is_passed new i ≡ is_passed old i
    pub limit : new.limit ≡ old.limit
    pub last_version : new.last_version ≡ old.last_version
