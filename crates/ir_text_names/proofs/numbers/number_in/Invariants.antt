use Rattle.std.proofs.Common.{◌≡◌, ℕ, drop, Some}
use Rattle.ir_text_names.specs.Numbers.{amount_of, digits_behind}
use Rattle.ir_text_names.proofs.numbers.number_in.Given as goal

abbrev pub invariant-loop-byte : goal.invariant-loop-byte
invariant-loop-byte l = (n : ℕ) × (l.amount ≡ amount_of (Some n)) × (digits_behind n (drop l.byte-index l.text) ≡ digits_behind 0 l.text)
