use Rattle.std.proofs.Common.{reverse}
use Rattle.ir_text_described.specs.Written.{AreWritten}
use Rattle.generic_text.specs.Checks.{setting_of}
use Rattle.generic_text.proofs.walk.read_all.Given as goal

abbrev pub invariant-loop : goal.invariant-loop
invariant-loop l = AreWritten (setting_of l.check) (reverse l.items.items) l.at → AreWritten (setting_of l.check) (reverse l.initial.items.items) 0
