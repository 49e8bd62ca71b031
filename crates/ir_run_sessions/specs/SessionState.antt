-- What a contract sees of a `Session`.
use Rattle.ir_model.specs.ContextIds.{context_ids}
use Rattle.ir_model.specs.Edits.{Tables}
use Rattle.ir_model.specs.Sessions.{Session as PlainSession}
use Rattle.ir_core_records.specs.Meaning.{closed}
use Rattle.ir_core_queries.specs.State.{ContextState, session_of}

-- the context, and the tables in the order in which their entries were made
pub record SessionState (D A K B S X L : Type 0) : Type 0 where
  pub ctx : ContextState D A K B S X L
  pub tables : Tables context_ids

module _ {D A K B S X L : Type 0} where
  -- the session that it means: a forest, a store of types, tables, what has passed, and limits
  abbrev pub plain : SessionState D A K B S X L → PlainSession (closed A K B S X L)
  plain s = session_of s.ctx s.tables
