-- What was refused stays refused, by the pairs that callers hold: an operation and a use number, a definer and a value number.
use Rattle.std.specs.Prelude.{◌≡◌, ℕ, List, map, IsTrue}
use Rattle.ir_model.specs.declared.ids.ArenaIndex.{ArenaIndex}
use Rattle.ir_model.specs.declared.answer.Answer.{Answer}
use Rattle.ir_model.specs.ContextIds.{context_ids}
use Rattle.ir_model.specs.Forest.{Dialect, Behaviour, Definer}
use Rattle.ir_model.specs.Nesting.{In, numbers_of, operands_of, successors_of}
use Rattle.ir_model.specs.Edits.{Edit}
use Rattle.ir_model.specs.Sessions.{Session, Run}
use Rattle.ir_model.specs.Soundness.{Sound}

module _ {W : Dialect} where
  -- the operation or block has a result or argument with this number
  abbrev pub HasDefinition : Session W → Definer context_ids → ℕ → Type 0
  HasDefinition s d n = In n (numbers_of s.state.forest d)

  -- the operation has an operand with this use number
  abbrev pub HasOperand : Session W → ArenaIndex → ℕ → Type 0
  HasOperand s o u = In u (map (λ p. p.use_number) (operands_of s.state.forest o))

  -- the operation has a successor with this use number
  abbrev pub HasSuccessor : Session W → ArenaIndex → ℕ → Type 0
  HasSuccessor s o u = In u (map (λ p. p.use_number) (successors_of s.state.forest o))

  -- a number that something has in the first session nothing else has in the second
  pub record NumbersStay (s t : Session W) : Type 0 where
    pub values : (d e : Definer context_ids) (n : ℕ) → HasDefinition s d n → HasDefinition t e n → d ≡ e
    pub operands : (o p : ArenaIndex) (u : ℕ) → HasOperand s o u → HasOperand t p u → o ≡ p
    pub successors : (o p : ArenaIndex) (u : ℕ) → HasSuccessor s o u → HasSuccessor t p u → o ≡ p
    -- an operand's number goes to no successor, and the other way round
    pub operands_only : (o p : ArenaIndex) (u : ℕ) → HasOperand s o u → HasSuccessor t p u → ⊥
    pub successors_only : (o p : ArenaIndex) (u : ℕ) → HasSuccessor s o u → HasOperand t p u → ⊥

  -- a pair whose number was handed out and that is refused in the first session is refused in the second
  pub record StaysRefused (s t : Session W) : Type 0 where
    pub values : (d : Definer context_ids) (n : ℕ) → IsTrue (s.passed.numbers n) → (HasDefinition s d n → ⊥) → HasDefinition t d n → ⊥
    pub operands : (o : ArenaIndex) (u : ℕ) → IsTrue (s.passed.uses u) → (HasOperand s o u → ⊥) → HasOperand t o u → ⊥
    pub successors : (o : ArenaIndex) (u : ℕ) → IsTrue (s.passed.uses u) → (HasSuccessor s o u → ⊥) → HasSuccessor t o u → ⊥

module _ (W : Dialect) (B : Behaviour W) where
  -- over every run a number stays with what had it
  abbrev pub RunsKeepNumbers : Type 0
  RunsKeepNumbers = (edits : List (Edit W)) (s t : Session W) (answers : List Answer) → Sound s → Run B s edits answers t → NumbersStay s t

  -- what is refused before a run is refused after it
  abbrev pub RefusedForGood : Type 0
  RefusedForGood = (edits : List (Edit W)) (s t : Session W) (answers : List Answer) → Sound s → Run B s edits answers t → StaysRefused s t
