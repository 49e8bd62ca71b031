-- What holds of a session from its start and after every step.
use Rattle.std.specs.Prelude.{ℕ, ◌<◌, List, map, length, IsTrue}
use Rattle.ir_model.specs.declared.ids.ArenaIndex.{ArenaIndex}
use Rattle.ir_model.specs.declared.answer.Answer.{Answer}
use Rattle.ir_model.specs.ContextIds.{context_ids}
use Rattle.ir_model.specs.Ids.{Counts, Distinct}
use Rattle.ir_model.specs.Forest.{Dialect, Behaviour, Value, a_value}
use Rattle.ir_model.specs.Nesting.{In, IsLiveNamed, WellFormed, use_numbers_of}
use Rattle.ir_model.specs.Edits.{Edit}
use Rattle.ir_model.specs.Sessions.{Session, Step, Run, Number, TakesSlot, IsNewSession, live_op, live_block, live_region}

module _ {W : Dialect} where
  -- what is live stands in the tables
  pub record LiveAreListed (s : Session W) : Type 0 where
    pub ops : (o : ArenaIndex) → live_op s.state o → In o s.state.tables.ops
    pub blocks : (b : ArenaIndex) → live_block s.state b → In b s.state.tables.blocks
    pub regions : (r : ArenaIndex) → live_region s.state r → In r s.state.tables.regions
    pub values : (v : Value context_ids) → IsLiveNamed s.state.forest (a_value v) → In v s.state.tables.values

  -- what stands in the tables or at a use was handed out
  pub record ListedHavePassed (s : Session W) : Type 0 where
    pub ops : (o : ArenaIndex) → In o s.state.tables.ops → IsTrue (s.passed.ops o)
    pub blocks : (b : ArenaIndex) → In b s.state.tables.blocks → IsTrue (s.passed.blocks b)
    pub regions : (r : ArenaIndex) → In r s.state.tables.regions → IsTrue (s.passed.regions r)
    pub numbers : (n : ℕ) → In n (map (λ v. v.number) s.state.tables.values) → IsTrue (s.passed.numbers n)
    pub uses : (o : ArenaIndex) (u : ℕ) → In u (use_numbers_of s.state.forest o) → IsTrue (s.passed.uses u)

  -- no table names an entity or a number twice
  pub record ListedOnce (s : Session W) : Type 0 where
    pub ops : Distinct s.state.tables.ops
    pub blocks : Distinct s.state.tables.blocks
    pub regions : Distinct s.state.tables.regions
    pub numbers : Distinct (map (λ (v : Value context_ids). v.number) s.state.tables.values)

  -- exactly so many of each kind are gone: value and use numbers that were passed, and slots that are taken
  pub record AreGone (s : Session W) (gone : Counts) : Type 0 where
    pub numbers : Number (λ n. IsTrue (s.passed.numbers n)) gone.numbers
    pub uses : Number (λ u. IsTrue (s.passed.uses u)) gone.uses
    pub ops : Number (TakesSlot s.limits s.passed.ops (live_op s.state)) gone.ops
    pub blocks : Number (TakesSlot s.limits s.passed.blocks (live_block s.state)) gone.blocks
    pub regions : Number (TakesSlot s.limits s.passed.regions (live_region s.state)) gone.regions

  -- what is gone can be counted
  abbrev pub IsCounted : Session W → Type 0
  IsCounted s = (gone : Counts) × AreGone s gone

  -- the forest is well formed over the stored types, the types that are known are stored, all that is live is listed, once, what is listed was handed out, and what is gone can be counted
  pub record Sound (s : Session W) : Type 0 where
    pub forest : WellFormed s.state.forest (length s.state.store)
    pub stored : (k : ℕ) → In k s.state.tables.types → k < length s.state.store
    pub listed : LiveAreListed s
    pub passed : ListedHavePassed s
    pub once : ListedOnce s
    pub counted : IsCounted s

  -- every step of this edit from a sound session ends in a sound one
  abbrev pub KeepsSound : Behaviour W → Edit W → Type 0
  KeepsSound B edit = (s t : Session W) (a : Answer) → Sound s → Step B s edit a t → Sound t

module _ (W : Dialect) where
  -- every session in which nothing is made yet is sound
  abbrev pub NewSessionsAreSound : Type 0
  NewSessionsAreSound = (s : Session W) → IsNewSession s → Sound s

module _ (W : Dialect) (B : Behaviour W) where
  -- every step from a sound session ends in a sound one
  abbrev pub StepsKeepSound : Type 0
  StepsKeepSound = (edit : Edit W) → KeepsSound B edit

  -- every run from a sound session ends in a sound one
  abbrev pub RunsKeepSound : Type 0
  RunsKeepSound = (edits : List (Edit W)) (s t : Session W) (answers : List Answer) → Sound s → Run B s edits answers t → Sound t

  -- after every run from a new session the forest is well formed
  abbrev pub RunsAreWellFormed : Type 0
  RunsAreWellFormed = (edits : List (Edit W)) (s t : Session W) (answers : List Answer) → IsNewSession s → Run B s edits answers t → WellFormed t.state.forest (length t.state.store)
