-- What a checked call answers: the first condition that doesn't hold, or what the call itself answers.
use Rattle.std.specs.Prelude.{◌≡◌, ◌⊎◌, ⊤, Result, Ok, Err}
use Rattle.ir_model.specs.declared.error.CoreError.TheVariants.{CounterSpent, OutOfMemory, SlotsSpent}
use Rattle.ir_checked_core.specs.declared.error.Call.{Call}
use Rattle.ir_checked_core.specs.declared.error.Condition.{Condition}
use Rattle.ir_checked_core.specs.declared.error.CheckedErr.{CheckedErr}
use Rattle.ir_checked_core.specs.declared.error.CheckedErr.TheVariants.{Core, Unmet}

-- the call was made, and refused for memory
abbrev pub out_of_memory : CheckedErr
out_of_memory = Core OutOfMemory

-- the call was made, and refused for numbers
abbrev pub out_of_numbers : CheckedErr
out_of_numbers = Core CounterSpent

-- the call was made, and refused for slots
abbrev pub out_of_slots : CheckedErr
out_of_slots = Core SlotsSpent

module _ {T : Type 0} where
  -- the answer is the call's own: a value, or why it was refused
  abbrev pub own_answer : Call → Result T CheckedErr → Type 0
  own_answer call (Ok x) = ⊤
  own_answer call (Err (Core e)) = ⊤
  own_answer call (Err (Unmet u)) = ⊥

  -- the answer is the call's own, which refuses nothing: a value
  abbrev pub own_value : Call → Result T CheckedErr → Type 0
  own_value call (Ok x) = ⊤
  own_value call (Err e) = ⊥

  -- where P doesn't hold, the answer is that this condition of the call doesn't; where P holds, the rest is said of the answer
  abbrev pub unless : Type 0 → Condition → (Call → Result T CheckedErr → Type 0) → Call → Result T CheckedErr → Type 0
  unless P condition rest call result = ((P → ⊥) × (result ≡ Err (Unmet (record { call = call; condition = condition })))) ⊎ (P × rest call result)

  -- there was no memory to test the next condition, or the rest is said of the answer
  abbrev pub or_out_of_memory : (Call → Result T CheckedErr → Type 0) → Call → Result T CheckedErr → Type 0
  or_out_of_memory rest call result = (result ≡ Err out_of_memory) ⊎ rest call result

  -- this is said of what the call answers
  abbrev pub Answers : Call → Result T CheckedErr → (Call → Result T CheckedErr → Type 0) → Type 0
  Answers call result said = said call result

  -- P, if a condition doesn't hold
  abbrev pub OnUnmet : Result T CheckedErr → Type 0 → Type 0
  OnUnmet (Ok x) P = ⊤
  OnUnmet (Err (Core e)) P = ⊤
  OnUnmet (Err (Unmet u)) P = P

  -- P, if the call was made and refused
  abbrev pub OnRefused : Result T CheckedErr → Type 0 → Type 0
  OnRefused (Ok x) P = ⊤
  OnRefused (Err (Core e)) P = P
  OnRefused (Err (Unmet u)) P = ⊤

  -- P, if the call was made, since its conditions hold
  abbrev pub Made : Result T CheckedErr → Type 0 → Type 0
  Made (Ok x) P = P
  Made (Err (Core e)) P = P
  Made (Err (Unmet u)) P = ⊤
