use Rattle.std.proofs.Common.{◌≡◌, ◌∙◌, true, not, is_ok, ap, arith}
use Rattle.ir_core_records.specs.Chains.{names_in}
use Rattle.ir_core_chains.specs.ChainEdits.{linked_by, err_holds, rewrites-same, rewrites-trans}
use Rattle.ir_core_chains.proofs.ChainLoops.{first-start, first-step, first-named, first-fresh, first-end, at_ok}
use Rattle.ir_core_chains.proofs.chains.link_all.Goals as goal

pub returns-in_err-reserve_places-clause-linked : goal.returns-in_err-reserve_places-clause-linked
returns-in_err-reserve_places-clause-linked g c = linked_by g.met.N.Named.chain c.args.records.now _ c.reserve_places.ensures c.requires.linked

pub returns-in_err-reserve_places-clause-err : goal.returns-in_err-reserve_places-clause-err
returns-in_err-reserve_places-clause-err g c = err_holds c.from_residual.result (ap (λ r. g.N.Named.places_at r c.args.user) c.reserve_places.ensures ∙ c.requires.bare)

pub returns-in_err-reserve_places-clause-others : goal.returns-in_err-reserve_places-clause-others
returns-in_err-reserve_places-clause-others g c o ne = ap (λ r. names_in (g.N.Named.places_at r o)) c.reserve_places.ensures

pub returns-in_err-reserve_places-clause-rest : goal.returns-in_err-reserve_places-clause-rest
returns-in_err-reserve_places-clause-rest g c = rewrites-same g.met.N.Named.chain c.args.records.now _ c.reserve_places.ensures

pub loop-item-init : goal.loop-item-init
loop-item-init g c =
    first-start g.met.N.Named.chain g.V.Names.named c.args.records.now c.reserve_places.new.records c.args.user c.args.first c.args.named.now c.reserve_places.ensures c.requires.linked c.requires.live c.requires.bare c.requires.fresh

pub push_linked-requires-clause-linked : goal.push_linked-requires-clause-linked
push_linked-requires-clause-linked g c = c.loop-item.invariant.some.so_far.linked

pub push_linked-requires-clause-live : goal.push_linked-requires-clause-live
push_linked-requires-clause-live g c = c.loop-item.invariant.some.so_far.live

pub push_linked-requires-clause-named : goal.push_linked-requires-clause-named
push_linked-requires-clause-named g c =
    first-named g.met.N.Named.chain g.V.Names.named c.args.records.now c.loop-item.records c.args.user c.args.first c.loop-item.number c.loop-item.item-index c.args.named.now c.item-item.result c.named_index.result c.loop-item.invariant c.loop-item-test.true (c.named_index.ensures ∙ ap g.V.Names.named c.item-item.is) c.requires.named

pub push_linked-requires-clause-fresh : goal.push_linked-requires-clause-fresh
push_linked-requires-clause-fresh g c = first-fresh g.met.N.Named.chain g.V.Names.named c.args.records.now c.loop-item.records c.args.user c.args.first c.loop-item.number c.loop-item.item-index c.args.named.now c.loop-item.invariant

pub returns-then-is_err-clause-err : goal.returns-then-is_err-clause-err
returns-then-is_err-clause-err g c = c.unlink_all.ensures.here

pub returns-then-is_err-clause-others : goal.returns-then-is_err-clause-others
returns-then-is_err-clause-others g c o ne = c.unlink_all.ensures.others o ne ∙ c.push_linked.ensures.others o ne ∙ c.loop-item.invariant.some.so_far.others o ne

pub returns-then-is_err-clause-rest : goal.returns-then-is_err-clause-rest
returns-then-is_err-clause-rest g c =
    let C = g.met.N.Named.chain in
    rewrites-trans C c.args.records.now c.push_linked.new.records c.unlink_all.new.records (rewrites-trans C c.args.records.now c.loop-item.records c.push_linked.new.records c.loop-item.invariant.some.so_far.rest c.push_linked.ensures.rest) c.unlink_all.ensures.rest

pub overflow_add-number : goal.overflow_add-number
overflow_add-number g c = omega (arith, c.loop-item.invariant.number, c.loop-item-test.true, c.requires.numbers)

pub loop-item-preserved : goal.loop-item-preserved
loop-item-preserved g c =
    let done : is_ok c.push_linked.result ≡ true = c.is_err.ensures.negation ∙ ap not c.if-is_err.false in
    first-step g.met.N.Named.chain g.V.Names.named c.args.records.now c.loop-item.records c.push_linked.new.records c.args.user c.args.first c.loop-item.number c.loop-item.item-index c.args.named.now c.item-item.result c.named_index.result c.loop-item.invariant c.loop-item-test.true (c.named_index.ensures ∙ ap g.V.Names.named c.item-item.is)
    c.push_linked.ensures.linked (at_ok c.push_linked.result _ done c.push_linked.ensures.here) c.push_linked.ensures.others c.push_linked.ensures.rest

pub returns-clause-linked : goal.returns-clause-linked
returns-clause-linked g c = c.loop-item.invariant.some.so_far.linked

pub returns-clause-here : goal.returns-clause-here
returns-clause-here g c = first-end g.met.N.Named.chain g.V.Names.named c.args.records.now c.loop-item.records c.args.user c.args.first c.loop-item.number c.loop-item.item-index c.args.named.now c.loop-item.invariant (omega (arith, c.loop-item-test.false))

pub returns-clause-others : goal.returns-clause-others
returns-clause-others g c = c.loop-item.invariant.some.so_far.others

pub returns-clause-rest : goal.returns-clause-rest
returns-clause-rest g c = c.loop-item.invariant.some.so_far.rest
