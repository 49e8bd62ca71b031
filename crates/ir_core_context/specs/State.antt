-- What a contract sees of a `Context`, and what it means: a forest, a store of types, saved and auxiliary data, what has passed, and limits.
use Rattle.std.specs.Prelude.{ℕ, List, [], map, nat_lt}
use Rattle.ir_model.specs.declared.ids.ArenaIndex.{ArenaIndex}
use Rattle.ir_model.specs.declared.ids.Limits.{Limits}
use Rattle.ir_model.specs.ContextIds.{context_ids}
use Rattle.ir_model.specs.Forest.{Forest}
use Rattle.ir_model.specs.Edits.{StoredType, Tables}
use Rattle.ir_model.specs.Sessions.{Passed, Session, Beside}
use Rattle.ir_model.specs.Uses.{Use}
use Rattle.ir_base_arenas.specs.Arena.{is_passed}
use Rattle.ir_core_records.specs.declared.record.ValueIndex.{ValueIndex}
use Rattle.ir_core_records.specs.declared.record.BlockIndex.{BlockIndex}
use Rattle.ir_core_records.specs.declared.records.Records.{Records}
use Rattle.ir_core_records.specs.Table.{uses_at, block_uses_at}
use Rattle.ir_core_records.specs.Meaning.{closed, use_of, forest_in}
use Rattle.ir_core_data.specs.declared.side_data.SideData.{SideData}
use Rattle.ir_core_data.specs.Side.{beside_in}

-- the records, the store of types, the next numbers, what is kept beside, and the limits
pub record ContextState (D A K B S X L : Type 0) : Type 0 where
  pub records : Records D A K B S X L
  pub types : List (K × B)
  pub next_value : ℕ
  pub next_use : ℕ
  pub side : SideData D A K B S X L
  pub limits : Limits

abbrev pub no_tables : Tables context_ids
no_tables = record { types = []; ops = []; blocks = []; regions = []; values = [] }

module _ {D A K B S X L : Type 0} where
  -- the forest that the context means
  abbrev pub forest_of : ContextState D A K B S X L → Forest context_ids (closed A K B S X L)
  forest_of s = forest_in s.records

  -- the types in order, each with its body
  abbrev pub types_of : ContextState D A K B S X L → List (StoredType (closed A K B S X L))
  types_of s = map (λ t. record { key = t.0; body = t.1 }) s.types

  -- what the context has handed out
  abbrev pub passed_of : ContextState D A K B S X L → Passed
  passed_of s = record {
    ops = is_passed s.records.ops;
    blocks = is_passed s.records.blocks;
    regions = is_passed s.records.regions;
    numbers = λ n. nat_lt n s.next_value;
    uses = λ n. nat_lt n s.next_use;
  }

  -- saved data, and auxiliary data with its names
  abbrev pub beside_of : ContextState D A K B S X L → Beside (closed A K B S X L)
  beside_of s = beside_in s.side

  -- the context with the tables of a session
  abbrev pub session_of : ContextState D A K B S X L → Tables context_ids → Session (closed A K B S X L)
  session_of s tables = record {
    state = record { forest = forest_of s; store = types_of s; tables = tables };
    beside = beside_of s;
    passed = passed_of s;
    limits = s.limits;
  }

  -- the context alone, as a session that knows nothing yet
  abbrev pub bare : ContextState D A K B S X L → Session (closed A K B S X L)
  bare s = session_of s no_tables

  -- the kept list of the uses of a value
  abbrev pub uses_of : ContextState D A K B S X L → ValueIndex → List (Use context_ids)
  uses_of s v = map use_of (uses_at s.records v)

  -- the kept list of the uses of a block as a successor
  abbrev pub block_uses_of : ContextState D A K B S X L → ArenaIndex → List (Use context_ids)
  block_uses_of s b = map use_of (block_uses_at s.records (record { index = b }))
