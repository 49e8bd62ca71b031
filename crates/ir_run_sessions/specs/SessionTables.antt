-- What the tables of a session mean, and how what was made is entered into them.
use Rattle.std.specs.Prelude.{◌≡◌, ℕ, List, Some, slice_get, ◌+◌, ◌≤◌, [], ◌∷◌, ◌++◌, map, Result, Ok, Err, vec_len, vec_capacity}
use Rattle.ir_model.specs.declared.ids.ArenaIndex.{ArenaIndex}
use Rattle.ir_model.specs.declared.answer.Answer.{Answer}
use Rattle.ir_model.specs.declared.answer.Answer.TheVariants.{Done, Made, Refused}
use Rattle.ir_model.specs.declared.answer.Refused.TheVariants.{Memory, Counter, Slots}
use Rattle.ir_model.specs.declared.error.CoreError.{CoreError}
use Rattle.ir_model.specs.declared.error.CoreError.TheVariants.{OutOfMemory, CounterSpent, SlotsSpent}
use Rattle.ir_model.specs.ContextIds.{context_ids}
use Rattle.ir_model.specs.Ids.{Counts}
use Rattle.ir_model.specs.Forest.{Entity, Value, of_op, of_block}
use Rattle.ir_model.specs.Sessions.{Session}
use Rattle.ir_model.specs.Edits.{Tables as PlainTables, numbered}
use Rattle.ir_core_records.specs.declared.record.Operation.{Operation}
use Rattle.ir_core_records.specs.declared.record.BasicBlock.{BasicBlock}
use Rattle.ir_core_records.specs.Meaning.{closed, op_index, op_record, block_index, block_record, value_of}
use Rattle.ir_core_queries.specs.State.{ContextState, forest_of, session_of}
use Rattle.ir_run_sessions.specs.Named.{NamesLive}
use Rattle.ir_run_sessions.specs.declared.session_tables.Tables.{Tables}

-- how an edit is answered that made an entry with this number, or was refused for this
abbrev pub answer_of : Result ℕ CoreError → Answer
answer_of (Ok n) = Made n
answer_of (Err OutOfMemory) = Refused Memory
answer_of (Err CounterSpent) = Refused Counter
answer_of (Err SlotsSpent) = Refused Slots

-- how an edit is answered that was done, or refused for this
abbrev pub done_of : {T : Type 0} → Result T CoreError → Answer
done_of (Ok _) = Done
done_of (Err e) = answer_of (Err e)

-- the tables with the type behind the others
abbrev pub with_type_entered : PlainTables context_ids → ℕ → PlainTables context_ids
with_type_entered t ty = record t { types = t.types ++ ty ∷ [] }

-- the tables with the region behind the others
abbrev pub with_region : PlainTables context_ids → ArenaIndex → PlainTables context_ids
with_region t region = record t { regions = t.regions ++ region ∷ [] }

-- the tables with the value behind the others
abbrev pub with_value : PlainTables context_ids → Value context_ids → PlainTables context_ids
with_value t v = record t { values = t.values ++ v ∷ [] }

module _ {D A K B S X L : Type 0} where
  -- the entries, as plain ids and numbers
  abbrev pub entries_of : Tables D A K B S X L → PlainTables context_ids
  entries_of t = record {
    types = map (λ y. y.place) t.types.items;
    ops = map (λ p. p.index) t.ops.items;
    blocks = map (λ p. p.index) t.blocks.items;
    regions = map (λ p. p.index) t.regions.items;
    values = map (λ v. value_of v.index) t.values.items;
  }

  -- the session that a context and its tables mean
  abbrev pub session_in : ContextState D A K B S X L → Tables D A K B S X L → Session (closed A K B S X L)
  session_in s t = session_of s (entries_of t)

  -- no two live entities have these numbers, each in the table of its kind
  abbrev pub NoTwoLive : ContextState D A K B S X L → Tables D A K B S X L → (ArenaIndex → Entity context_ids) → (PlainTables context_ids → List ArenaIndex) → ℕ → (ArenaIndex → Entity context_ids) → (PlainTables context_ids → List ArenaIndex) → ℕ → Type 0
  NoTwoLive s t entity column n other others m = (i j : ArenaIndex) → NamesLive (forest_of s) entity (column (entries_of t)) n i → NamesLive (forest_of s) other (others (entries_of t)) m j → ⊥

  -- no two live entities that have these numbers stand so to each other
  abbrev pub NoPairLive : ContextState D A K B S X L → Tables D A K B S X L → (ArenaIndex → Entity context_ids) → (PlainTables context_ids → List ArenaIndex) → ℕ → (ArenaIndex → Entity context_ids) → (PlainTables context_ids → List ArenaIndex) → ℕ → (Entity context_ids → Entity context_ids → Type 0) → Type 0
  NoPairLive s t entity column n other others m Are = (i j : ArenaIndex) → NamesLive (forest_of s) entity (column (entries_of t)) n i → NamesLive (forest_of s) other (others (entries_of t)) m j → Are (entity i) (other j) → ⊥

  -- whatever numbers the operation and the type have
  abbrev pub ForOpAndType : Tables D A K B S X L → ArenaIndex → ℕ → (ℕ → ℕ → Type 0) → Type 0
  ForOpAndType t op ty Is = (n m : ℕ) → slice_get (entries_of t).ops n ≡ Some op → slice_get (entries_of t).types m ≡ Some ty → Is n m

  -- whatever numbers the block and the type have
  abbrev pub ForBlockAndType : Tables D A K B S X L → ArenaIndex → ℕ → (ℕ → ℕ → Type 0) → Type 0
  ForBlockAndType t block ty Is = (n m : ℕ) → slice_get (entries_of t).blocks n ≡ Some block → slice_get (entries_of t).types m ≡ Some ty → Is n m

  -- the tables can take so many operations, blocks, regions and values without growing
  pub record HasPlace (t : Tables D A K B S X L) (n : Counts) : Type 0 where
    pub ops : vec_len t.ops + n.ops ≤ vec_capacity t.ops
    pub blocks : vec_len t.blocks + n.blocks ≤ vec_capacity t.blocks
    pub regions : vec_len t.regions + n.regions ≤ vec_capacity t.regions
    pub values : vec_len t.values + n.numbers ≤ vec_capacity t.values

  -- the tables with the operation, its regions and its results behind the others
  abbrev pub with_op : PlainTables context_ids → Operation D A K B S X L → PlainTables context_ids
  with_op t op = record t {
    ops = t.ops ++ op_index op ∷ [];
    regions = t.regions ++ (op_record op).regions;
    values = t.values ++ numbered (of_op (op_index op)) (map (λ r. r.number) (op_record op).results);
  }

  -- the tables with the block and its arguments behind the others
  abbrev pub with_block : PlainTables context_ids → BasicBlock D A K B S X L → PlainTables context_ids
  with_block t block = record t {
    blocks = t.blocks ++ block_index block ∷ [];
    values = t.values ++ numbered (of_block (block_index block)) (map (λ r. r.number) (block_record [] block).arguments);
  }
