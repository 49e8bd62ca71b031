use Rattle.std.proofs.Common.{◌∙◌, ◌-◌, ap, sym, slice_get, arith}
use Rattle.std.specs.List.{remove}
use Rattle.std.specs.Option.{option_map}
use Rattle.ir_core_records.specs.declared.record.UsePlace.{UsePlace}
use Rattle.ir_core_records.specs.Chains.{names_in}
use Rattle.ir_core_chains.proofs.chains.pop_linked.Goals as goal

pub remove_linked-requires-clause-within : goal.remove_linked-requires-clause-within
remove_linked-requires-clause-within g c = omega (arith, c.place_count-last.ensures, c.requires.some)

pub returns-clause-value : goal.returns-clause-value
returns-clause-value g c =
    ap (λ n. option_map (λ (a : UsePlace g.row.N.Denot). a.names) (slice_get (g.N.Named.places_at c.args.records.now c.args.user) (n - 1))) (sym c.place_count-last.ensures) ∙ c.remove_linked.ensures.value

pub returns-clause-linked : goal.returns-clause-linked
returns-clause-linked g c = c.remove_linked.ensures.linked

pub returns-clause-live : goal.returns-clause-live
returns-clause-live g c = c.remove_linked.ensures.live

pub returns-clause-here : goal.returns-clause-here
returns-clause-here g c =
    c.remove_linked.ensures.here ∙ ap (λ n. remove (names_in (g.N.Named.places_at c.args.records.now c.args.user)) (n - 1)) c.place_count-last.ensures

pub returns-clause-others : goal.returns-clause-others
returns-clause-others g c = c.remove_linked.ensures.others

pub returns-clause-rest : goal.returns-clause-rest
returns-clause-rest g c = c.remove_linked.ensures.rest
