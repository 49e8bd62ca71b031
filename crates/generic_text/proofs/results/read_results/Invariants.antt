use Rattle.ir_text_described.specs.Written.{AreResults}
use Rattle.generic_text.specs.Checks.{setting_of}
use Rattle.generic_text.proofs.results.read_results.Given as goal

abbrev pub invariant-loop : goal.invariant-loop
invariant-loop l = AreResults (setting_of l.check) l.op.index l.from l.named.count l.named.at
