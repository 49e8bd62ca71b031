use Rattle.std.proofs.Common.{[]}
use Rattle.ir_base_dialects.proofs.KeyLemmas.{distinct_keys}
use Rattle.ir_base_dialects.proofs.lazy_table.LazyTable.pairs.Goals as goal

pub returns-clause-distinct : goal.returns-clause-distinct
returns-clause-distinct g c = rw c.new.ensures ((distinct_keys {A = g.row.A.Denot} []).1 tt)
