use Rattle.std.proofs.Common.{refl, arith}
use Rattle.std.proofs.lemmas.List.{nil_from_length}
use Rattle.ir_core_chains.proofs.ChainLoops.{relinks-start, relinks-step, popped_count}
use Rattle.ir_core_chains.proofs.chains.unlink_all.Goals as goal

pub loop-user-init : goal.loop-user-init
loop-user-init g c = relinks-start g.met.N.Named.chain c.args.records.now c.args.records.now c.args.user refl c.requires.linked c.requires.live

pub place_count-requires : goal.place_count-requires
place_count-requires g c = record { live = c.loop-user.invariant.live }

pub pop_linked-requires-clause-linked : goal.pop_linked-requires-clause-linked
pop_linked-requires-clause-linked g c = c.loop-user.invariant.linked

pub loop-user-smaller : goal.loop-user-smaller
loop-user-smaller g c =
    popped_count (g.N.Named.places_at c.loop-user.records c.args.user) (g.N.Named.places_at c.pop_linked.new.records c.args.user) c.pop_linked.ensures.here (omega (arith, c.loop-user-test.true, c.place_count.ensures))

pub loop-user-preserved : goal.loop-user-preserved
loop-user-preserved g c =
    relinks-step g.met.N.Named.chain c.args.records.now c.loop-user.records c.pop_linked.new.records c.args.user c.loop-user.invariant c.pop_linked.ensures.linked c.pop_linked.ensures.others c.pop_linked.ensures.rest

pub returns-clause-linked : goal.returns-clause-linked
returns-clause-linked g c = c.loop-user.invariant.linked

pub returns-clause-here : goal.returns-clause-here
returns-clause-here g c = nil_from_length (g.N.Named.places_at c.loop-user.records c.args.user) (omega (arith, c.loop-user-test.false, c.place_count.ensures))

pub returns-clause-others : goal.returns-clause-others
returns-clause-others g c = c.loop-user.invariant.others

pub returns-clause-rest : goal.returns-clause-rest
returns-clause-rest g c = c.loop-user.invariant.rest
