use Rattle.std.proofs.Common.{◌≡◌, ◌<◌, ◌≤◌, ℕ, None}
use Rattle.ir_model.specs.Legaliser.{base, numbered_text}
use Rattle.ir_base_identifiers.specs.LegaliserTables.{source_at}
use Rattle.ir_base_identifiers.proofs.legaliser.choose.Given as goal

abbrev pub invariant-loop-number : goal.invariant-loop-number
invariant-loop-number l = (c : ℕ) → l.fn.counter ≤ c → c < l.number → ¬ (source_at l.sources (numbered_text (base l.source) c) ≡ None)
