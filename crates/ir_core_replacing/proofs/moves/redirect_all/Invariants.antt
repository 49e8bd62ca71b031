use Rattle.std.proofs.Common.{◌-◌}
use Rattle.ir_core_records.specs.Table.{IsOp}
use Rattle.ir_core_replacing.proofs.GroupLemmas.{Renaming, gone_to, go_behind}
use Rattle.ir_core_replacing.proofs.moves.redirect_all.Given as goal

abbrev pub invariant-loop-index : goal.invariant-loop-index
invariant-loop-index g l = Renaming IsOp g.N.Named.places_at g.N.Named.with_places g.N.Named.uses_at g.N.Named.with_uses l.fn.from (gone_to l.fn.from (go_behind l.to l.start) (l.index - l.start)) l.fn.records l.initial.records l.records
