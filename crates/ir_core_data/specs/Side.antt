-- What a context keeps beside the forest and the types, and what it means.
use Rattle.std.specs.Prelude.{◌≡◌, ℕ, []}
use Rattle.ir_model.specs.declared.ids.ArenaIndex.{ArenaIndex}
use Rattle.ir_model.specs.declared.ids.Limits.{Limits}
use Rattle.ir_model.specs.AuxData.{IsNewAux}
use Rattle.ir_model.specs.Forest.{Dialect}
use Rattle.ir_model.specs.Sessions.{Beside}
use Rattle.ir_base_arenas.specs.Arena.{Arena, empty, fill, get, is_passed}
use Rattle.ir_core_records.specs.Meaning.{closed}
use Rattle.ir_core_data.specs.declared.side_data.SideData.{SideData}
use Rattle.ir_core_data.specs.Names.{index_at, no_names}

-- the arena keeps to the limits
pub record Keeps {T : Type 0} (l : Limits) (a : Arena T) : Type 0 where
  pub limit : a.limit ≡ l.slots
  pub last_version : a.last_version ≡ l.last_version

-- no freed slot is left: each index that may be handed out is the first of its slot
abbrev pub NoFreedSlot : {W : Dialect} → Limits → Beside W → Type 0
NoFreedSlot limits b = (i : ArenaIndex) → IsNewAux limits b i → i.version ≡ 1

module _ {D A K B S X L : Type 0} where
  -- no data, and no name
  abbrev pub nothing : ℕ → ℕ → SideData D A K B S X L
  nothing slots last_version = record { saved = []; aux = empty slots last_version; names = no_names }

  -- saved data in the order in which they came, and auxiliary data under their indices, with their names
  abbrev pub beside_in : SideData D A K B S X L → Beside (closed A K B S X L)
  beside_in s = record { saved = s.saved; aux = get s.aux; aux_names = index_at s.names; aux_passed = is_passed s.aux }

  -- the data with this written under an index
  abbrev pub with_written : SideData D A K B S X L → ArenaIndex → X → SideData D A K B S X L
  with_written s i value = record s { aux = fill s.aux i value }
