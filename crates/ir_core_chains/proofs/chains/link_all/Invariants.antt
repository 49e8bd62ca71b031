use Rattle.ir_core_records.specs.Table.{IsOp}
use Rattle.ir_core_chains.proofs.ChainLoops.{LinksFirst}
use Rattle.ir_core_chains.proofs.chains.link_all.Given as goal

abbrev pub invariant-loop-item : goal.invariant-loop-item
invariant-loop-item g l = LinksFirst IsOp g.N.Named.places_at g.N.Named.with_places g.N.Named.uses_at g.N.Named.with_uses g.V.Names.named l.fn.records l.records l.user l.first l.number l.item-index l.named
