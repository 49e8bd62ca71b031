-- What definitions end as, where a `&mut` to the uses of one of them is returned.
use Rattle.std.specs.Prelude.{ℕ, List}
use Rattle.std.specs.Borrow.{Lends, Fml, MutBor}
use denote.Param.{number}
use Rattle.ir_base_arenas.specs.contracts.plain_seq.PlainSeq.{the_row as plain_row}
use Rattle.ir_core_records.specs.declared.record.UseIndex.{UseIndex}
use Rattle.ir_core_records.specs.declared.record.Definition.{Definition}
use Rattle.ir_core_records.specs.contracts.kept_use.KeptUse.{the_row as use_row}
use Rattle.ir_core_records.specs.contracts.definitions.Definitions.{the_row as definitions_row}
use Rattle.ir_core_records.specs.Lists.{put_uses}

-- once the borrow r ends, the first definition with the number has the last uses written through r
abbrev pub lends_definition_uses : MutBor (List Definition) → ℕ → MutBor (List UseIndex) → Fml
lends_definition_uses s n r = Lends definitions_row (plain_row use_row (number 2)) s r (put_uses s.now n)
