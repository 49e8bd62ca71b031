-- Which ids and numbers are new, and the steps and runs of a session.
use Rattle.std.specs.Prelude.{Option, ◌≡◌, ◌≢◌, ◌⊎◌, ◌↔◌, ℕ, ◌+◌, ◌<◌, ◌≤◌, Bool, false, List, [], ◌∷◌, length, IsSome, IsTrue, None}
use Rattle.std.specs.List.{AllZip}
use Rattle.ir_model.specs.declared.ids.ArenaIndex.{ArenaIndex}
use Rattle.ir_model.specs.declared.ids.Limits.{Limits}
use Rattle.ir_model.specs.ContextIds.{context_ids}
use Rattle.ir_model.specs.Ids.{Fresh, Counts, counts, Distinct, FreshDistinct}
use Rattle.ir_model.specs.Forest.{Behaviour, Text, Dialect}
use Rattle.ir_model.specs.Nesting.{In}
use Rattle.ir_model.specs.Edits.{Edit, State, Condition, Change, needs, answer as reply, MayRunOut}
use Rattle.ir_model.specs.declared.answer.Answer.{Answer}
use Rattle.ir_model.specs.declared.answer.Answer.TheVariants.{Made, Done, Refused}
use Rattle.ir_model.specs.declared.answer.Refused.TheVariants.{Condition as ForCondition, Counter, Slots, Memory}
use Rattle.ir_model.specs.Views.{view}

-- the ids and numbers that were handed out or skipped
pub record Passed : Type 0 where
  pub ops : ArenaIndex → Bool
  pub blocks : ArenaIndex → Bool
  pub regions : ArenaIndex → Bool
  pub numbers : ℕ → Bool
  pub uses : ℕ → Bool

-- a number that may be handed out: it is in range, and was not passed
abbrev pub IsNewNumber : ℕ → (ℕ → Bool) → ℕ → Type 0
IsNewNumber count passed n = (n < count) × (passed n ≡ false)

-- an id that may be handed out: its slot was never used, or its last id is dead and may have a successor
abbrev pub IsNewId : Limits → (ArenaIndex → Bool) → (ArenaIndex → Type 0) → ArenaIndex → Type 0
IsNewId limits passed live i =
    (1 ≤ i.slot) × (i.slot ≤ limits.slots) × (i.version ≤ limits.last_version)
    × (((i.version ≡ 1) × ((j : ArenaIndex) → IsTrue (passed j) → j.slot ≢ i.slot))
    ⊎ ((last : ArenaIndex) × (last.slot ≡ i.slot) × (i.version ≡ last.version + 2) × IsTrue (passed last) × (live last → ⊥)
    × ((j : ArenaIndex) → IsTrue (passed j) → j.slot ≡ i.slot → j.version ≤ last.version)))

-- exactly so many have P
abbrev pub Number : {A : Type 0} → (A → Type 0) → ℕ → Type 0
Number {A} P n = (xs : List A) × Distinct xs × ((x : A) → In x xs ↔ P x) × (length xs ≡ n)

-- there is room for n more: so many are gone that these and n fit the count
abbrev pub HasRoom : {A : Type 0} → ℕ → (A → Type 0) → ℕ → Type 0
HasRoom count P n = (gone : ℕ) × Number P gone × (gone + n ≤ count)

-- there is no room for n more
abbrev pub LacksRoom : {A : Type 0} → ℕ → (A → Type 0) → ℕ → Type 0
LacksRoom count P n = (gone : ℕ) × Number P gone × (count < gone + n)

-- live, or never handed out again
abbrev pub TakesSlot : Limits → (ArenaIndex → Bool) → (ArenaIndex → Type 0) → ArenaIndex → Type 0
TakesSlot limits passed live i = live i ⊎ (IsTrue (passed i) × (live i → ⊥) × (limits.last_version < i.version + 2))

-- no id and no number was handed out or skipped
abbrev pub nothing_passed : Passed
nothing_passed = record { ops = λ _. false; blocks = λ _. false; regions = λ _. false; numbers = λ _. false; uses = λ _. false }

-- what was passed and these, and nothing else, are passed
pub record Passes (old : Passed) (made : Fresh context_ids) (new : Passed) : Type 0 where
  pub ops : (i : ArenaIndex) → IsTrue (new.ops i) ↔ (IsTrue (old.ops i) ⊎ In i made.ops)
  pub blocks : (i : ArenaIndex) → IsTrue (new.blocks i) ↔ (IsTrue (old.blocks i) ⊎ In i made.blocks)
  pub regions : (i : ArenaIndex) → IsTrue (new.regions i) ↔ (IsTrue (old.regions i) ⊎ In i made.regions)
  pub numbers : (n : ℕ) → IsTrue (new.numbers n) ↔ (IsTrue (old.numbers n) ⊎ In n made.numbers)
  pub uses : (n : ℕ) → IsTrue (new.uses n) ↔ (IsTrue (old.uses n) ⊎ In n made.uses)

-- no more of any kind
pub record NoMore (a b : Counts) : Type 0 where
  pub ops : a.ops ≤ b.ops
  pub blocks : a.blocks ≤ b.blocks
  pub regions : a.regions ≤ b.regions
  pub numbers : a.numbers ≤ b.numbers
  pub uses : a.uses ≤ b.uses

-- refused for memory, a counter or slots
abbrev pub IsSpared : Answer → Type 0
IsSpared (Refused Counter) = Unit {0}
IsSpared (Refused Slots) = Unit {0}
IsSpared (Refused Memory) = Unit {0}
IsSpared (Refused ForCondition) = ⊥
IsSpared (Made n) = ⊥
IsSpared Done = ⊥

-- at each place both answers are one, or neither is a refusal for memory, a counter or slots
abbrev pub SameRefusals : List Answer → List Answer → Type 0
SameRefusals answers others = AllZip (λ a b. IsSpared a ⊎ IsSpared b → a ≡ b) answers others

module _ (W : Dialect) where
  -- what no edit touches: saved data, and auxiliary data with its names
  pub record Beside : Type 0 where
    pub saved : List W.Saved
    pub aux : ArenaIndex → Option W.Aux
    pub aux_names : Text → Option ArenaIndex
    pub aux_passed : ArenaIndex → Bool

  -- a session: its state, what no edit touches, what was passed, and the limits
  pub record Session : Type 0 where
    pub state : State context_ids W
    pub beside : Beside
    pub passed : Passed
    pub limits : Limits

module _ {W : Dialect} where
  -- the id leads to an operation
  abbrev pub live_op : State context_ids W → ArenaIndex → Type 0
  live_op s i = IsSome (s.forest.ops i)

  -- the id leads to a block
  abbrev pub live_block : State context_ids W → ArenaIndex → Type 0
  live_block s i = IsSome (s.forest.blocks i)

  -- the id leads to a region
  abbrev pub live_region : State context_ids W → ArenaIndex → Type 0
  live_region s i = IsSome (s.forest.regions i)

  -- nothing is made yet and nothing was passed; what no edit touches may be anything, and so may the limits
  pub record IsNewSession (s : Session W) : Type 0 where
    pub ops : (i : ArenaIndex) → s.state.forest.ops i ≡ None
    pub blocks : (i : ArenaIndex) → s.state.forest.blocks i ≡ None
    pub regions : (i : ArenaIndex) → s.state.forest.regions i ≡ None
    pub store : s.state.store ≡ []
    pub tables : s.state.tables ≡ record { types = []; ops = []; blocks = []; regions = []; values = [] }
    pub none_passed : s.passed ≡ nothing_passed

  -- each of these may be handed out
  pub record AreNew (s : Session W) (new : Fresh context_ids) : Type 0 where
    pub ops : (i : ArenaIndex) → In i new.ops → IsNewId s.limits s.passed.ops (live_op s.state) i
    pub blocks : (i : ArenaIndex) → In i new.blocks → IsNewId s.limits s.passed.blocks (live_block s.state) i
    pub regions : (i : ArenaIndex) → In i new.regions → IsNewId s.limits s.passed.regions (live_region s.state) i
    pub numbers : (n : ℕ) → In n new.numbers → IsNewNumber s.limits.values s.passed.numbers n
    pub uses : (n : ℕ) → In n new.uses → IsNewNumber s.limits.uses s.passed.uses n

  -- a refusal for want of room or memory leaves the state, and passes no more than the edit needs
  pub record Skips (s : Session W) (edit : Edit W) (t : Session W) : Type 0 where
    pub state : t.state ≡ s.state
    pub beside : t.beside ≡ s.beside
    pub limits : t.limits ≡ s.limits
    pub skipped : Fresh context_ids
    pub within : NoMore (counts context_ids skipped) (needs edit)
    pub were_new : AreNew s skipped
    pub passed : Passes s.passed skipped t.passed

  -- there is room for these value and use numbers
  pub record HasNumbers (s : Session W) (n : Counts) : Type 0 where
    pub values : HasRoom s.limits.values (λ m. IsTrue (s.passed.numbers m)) n.numbers
    pub uses : HasRoom s.limits.uses (λ m. IsTrue (s.passed.uses m)) n.uses

  -- there is room for these operations, blocks and regions
  pub record HasSlots (s : Session W) (n : Counts) : Type 0 where
    pub ops : HasRoom s.limits.slots (TakesSlot s.limits s.passed.ops (live_op s.state)) n.ops
    pub blocks : HasRoom s.limits.slots (TakesSlot s.limits s.passed.blocks (live_block s.state)) n.blocks
    pub regions : HasRoom s.limits.slots (TakesSlot s.limits s.passed.regions (live_region s.state)) n.regions

  -- there is no room for the value numbers, or none for the use numbers
  abbrev pub LacksNumbers : Session W → Counts → Type 0
  LacksNumbers s n = LacksRoom s.limits.values (λ m. IsTrue (s.passed.numbers m)) n.numbers ⊎ LacksRoom s.limits.uses (λ m. IsTrue (s.passed.uses m)) n.uses

  -- there is no room for the operations, or none for the blocks, or none for the regions
  abbrev pub LacksSlots : Session W → Counts → Type 0
  LacksSlots s n =
      LacksRoom s.limits.slots (TakesSlot s.limits s.passed.ops (live_op s.state)) n.ops
      ⊎ LacksRoom s.limits.slots (TakesSlot s.limits s.passed.blocks (live_block s.state)) n.blocks
      ⊎ LacksRoom s.limits.slots (TakesSlot s.limits s.passed.regions (live_region s.state)) n.regions

  -- the edit is made, with as many new ids and numbers as it needs, and exactly these become passed
  pub record Makes (B : Behaviour W) (s : Session W) (edit : Edit W) (t : Session W) : Type 0 where
    pub new : Fresh context_ids
    pub enough : counts context_ids new ≡ needs edit
    pub distinct : FreshDistinct context_ids new
    pub are_new : AreNew s new
    pub change : Change B s.state edit new t.state
    pub passed : Passes s.passed new t.passed
    pub beside : t.beside ≡ s.beside
    pub limits : t.limits ≡ s.limits

  -- one edit, its answer, and the session after it: the first of the refusals for the condition, a counter and slots that applies holds, and where none does the edit is made, or refused for memory where it may be
  pub data Step (B : Behaviour W) (s : Session W) (edit : Edit W) (a : Answer) (t : Session W) : Type 0 where
    -- exactly where the condition does not hold; nothing changes
    condition : (Condition s.state edit → ⊥) → a ≡ Refused ForCondition → t ≡ s → Step B s edit a t
    -- exactly where there is too little room for the numbers that it needs
    counter : Condition s.state edit → LacksNumbers s (needs edit) → a ≡ Refused Counter → Skips s edit t → Step B s edit a t
    -- exactly where there is room for the numbers, and too little for the slots
    slots : Condition s.state edit → HasNumbers s (needs edit) → LacksSlots s (needs edit) → a ≡ Refused Slots → Skips s edit t → Step B s edit a t
    -- only for an edit that may run out of memory
    memory : Condition s.state edit → HasNumbers s (needs edit) → HasSlots s (needs edit) → MayRunOut s.state edit → a ≡ Refused Memory → Skips s edit t → Step B s edit a t
    -- with its change and its answer
    made : Condition s.state edit → HasNumbers s (needs edit) → HasSlots s (needs edit) → a ≡ reply s.state edit → Makes B s edit t → Step B s edit a t

  -- steps joined over the list, one answer for each edit
  abbrev pub Run : Behaviour W → Session W → List (Edit W) → List Answer → Session W → Type 0
  Run B s [] answers u = (answers ≡ []) × (u ≡ s)
  Run B s (edit ∷ rest) answers u = (a : Answer) × (later : List Answer) × (t : Session W) × (answers ≡ a ∷ later) × Step B s edit a t × Run B t rest later u

module _ (W : Dialect) where
  -- two runs of one list of edits from new sessions, refused alike, answer alike and leave the same view
  abbrev pub TwoRuns : Behaviour W → Type 0
  TwoRuns B =
      (edits : List (Edit W)) (s t s' t' : Session W) (answers others : List Answer)
      → IsNewSession s → IsNewSession t → Run B s edits answers s' → Run B t edits others t' → SameRefusals answers others
      → (answers ≡ others) × (view s'.state ≡ view t'.state)
