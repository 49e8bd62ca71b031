-- The texts of refusals.
use Rattle.std.specs.Prelude.{ℕ, List, codes}
use Rattle.ir_model.specs.declared.answer.Refused.{Refused}
use Rattle.ir_model.specs.declared.answer.Refused.TheVariants.{Condition, Memory, Counter, Slots}

-- what a refusal prints
abbrev pub refusal_text : Refused → List ℕ
refusal_text Condition = codes "condition does not hold"
refusal_text Memory = codes "out of memory"
refusal_text Counter = codes "counter spent"
refusal_text Slots = codes "slots spent"
