use Rattle.std.proofs.Common.{◌≡◌, string_bytes}
use Rattle.ir_base_identifiers.proofs.LegaliserLemmas.{stand_ins}
use Rattle.ir_base_identifiers.proofs.legaliser.replaced.Given as goal

abbrev pub invariant-loop-character : goal.invariant-loop-character
invariant-loop-character l = string_bytes l.text ≡ stand_ins l.yielded
