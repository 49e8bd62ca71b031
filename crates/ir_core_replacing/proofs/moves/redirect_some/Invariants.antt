use Rattle.std.proofs.Common.{◌≡◌}
use Rattle.ir_core_records.specs.Table.{IsOp}
use Rattle.ir_core_replacing.specs.Chosen.{count_yes}
use Rattle.ir_core_replacing.proofs.GroupLemmas.{Renaming, gone_to, go_chosen}
use Rattle.ir_core_replacing.proofs.moves.redirect_some.Given as goal

abbrev pub invariant-loop-index : goal.invariant-loop-index
invariant-loop-index g l = record {
  going : Renaming IsOp g.N.Named.places_at g.N.Named.with_places g.N.Named.uses_at g.N.Named.with_uses l.from (gone_to l.from (go_chosen l.from l.to l.start l.answers) l.index) l.fn.records l.initial.records l.records;
  count : l.moved ≡ count_yes l.answers l.index;
}
