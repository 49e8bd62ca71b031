use Rattle.std.proofs.Common.{ℕ}
use Rattle.ir_core_queries.specs.State.{forest_of}
use Rattle.ir_text_described.specs.Written.{IsEntry, Leads, attributes_of}
use Rattle.generic_text.proofs.Lists.{Gone}
use Rattle.generic_text.specs.Checks.{setting_of}
use Rattle.generic_text.proofs.entries.read_entries.Given as goal

abbrev pub invariant-loop-name : goal.invariant-loop-name
invariant-loop-name l = (k : ℕ) × Gone (attributes_of (forest_of l.check.ctx.now) l.fn.op.index) l.name-iterator k × Leads (IsEntry (setting_of l.check) l.fn.op.index) l.from k l.at
