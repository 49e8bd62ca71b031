-- What was handed out and is gone.
use Rattle.std.specs.Prelude.{ℕ, List, IsTrue}
use Rattle.ir_model.specs.declared.ids.ArenaIndex.{ArenaIndex}
use Rattle.ir_model.specs.declared.answer.Answer.{Answer}
use Rattle.ir_model.specs.ContextIds.{context_ids}
use Rattle.ir_model.specs.Forest.{Dialect, Behaviour, Definer}
use Rattle.ir_model.specs.Nesting.{In, numbers_of, use_numbers_of}
use Rattle.ir_model.specs.Edits.{Edit}
use Rattle.ir_model.specs.Sessions.{Session, Run, live_op, live_block, live_region}
use Rattle.ir_model.specs.Soundness.{Sound}

module _ {W : Dialect} where
  -- the number stands at a result or an argument
  abbrev pub IsNumber : Session W → ℕ → Type 0
  IsNumber s n = (d : Definer context_ids) × In n (numbers_of s.state.forest d)

  -- the number stands at an operand or a successor
  abbrev pub IsUseNumber : Session W → ℕ → Type 0
  IsUseNumber s u = (o : ArenaIndex) × In u (use_numbers_of s.state.forest o)

  -- the id or number was handed out or skipped, and nothing has it
  abbrev pub IsGoneOp : Session W → ArenaIndex → Type 0
  IsGoneOp s i = IsTrue (s.passed.ops i) × (live_op s.state i → ⊥)

  -- the same for a block
  abbrev pub IsGoneBlock : Session W → ArenaIndex → Type 0
  IsGoneBlock s i = IsTrue (s.passed.blocks i) × (live_block s.state i → ⊥)

  -- the same for a region
  abbrev pub IsGoneRegion : Session W → ArenaIndex → Type 0
  IsGoneRegion s i = IsTrue (s.passed.regions i) × (live_region s.state i → ⊥)

  -- the same for a value number, which stands at no result or argument
  abbrev pub IsGoneNumber : Session W → ℕ → Type 0
  IsGoneNumber s n = IsTrue (s.passed.numbers n) × (IsNumber s n → ⊥)

  -- the same for a use number, which stands at no operand or successor
  abbrev pub IsGoneUse : Session W → ℕ → Type 0
  IsGoneUse s u = IsTrue (s.passed.uses u) × (IsUseNumber s u → ⊥)

  -- what is gone in the first session is gone in the second
  pub record StaysGone (s t : Session W) : Type 0 where
    pub ops : (i : ArenaIndex) → IsGoneOp s i → IsGoneOp t i
    pub blocks : (i : ArenaIndex) → IsGoneBlock s i → IsGoneBlock t i
    pub regions : (i : ArenaIndex) → IsGoneRegion s i → IsGoneRegion t i
    pub numbers : (n : ℕ) → IsGoneNumber s n → IsGoneNumber t n
    pub uses : (u : ℕ) → IsGoneUse s u → IsGoneUse t u

  -- what the first session has and the second has not is gone in the second
  pub record LeavesGone (s t : Session W) : Type 0 where
    pub ops : (i : ArenaIndex) → live_op s.state i → (live_op t.state i → ⊥) → IsGoneOp t i
    pub blocks : (i : ArenaIndex) → live_block s.state i → (live_block t.state i → ⊥) → IsGoneBlock t i
    pub regions : (i : ArenaIndex) → live_region s.state i → (live_region t.state i → ⊥) → IsGoneRegion t i
    pub numbers : (n : ℕ) → IsNumber s n → (IsNumber t n → ⊥) → IsGoneNumber t n
    pub uses : (u : ℕ) → IsUseNumber s u → (IsUseNumber t u → ⊥) → IsGoneUse t u

module _ (W : Dialect) (B : Behaviour W) where
  -- whatever is gone before a run is gone after it
  abbrev pub GoneForGood : Type 0
  GoneForGood = (edits : List (Edit W)) (s t : Session W) (answers : List Answer) → Sound s → Run B s edits answers t → StaysGone s t

  -- whatever a run erased or removed is gone after it
  abbrev pub ErasedAreGone : Type 0
  ErasedAreGone = (edits : List (Edit W)) (s t : Session W) (answers : List Answer) → Sound s → Run B s edits answers t → LeavesGone s t
