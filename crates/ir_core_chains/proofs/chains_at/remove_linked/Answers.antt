use Rattle.std.proofs.Common.{◌∙◌, ap}
use Rattle.std.specs.Option.{option_map}
use Rattle.ir_core_records.specs.declared.record.UsePlace.{UsePlace}
use Rattle.ir_core_chains.specs.Chain.{unchanged, by_places}
use Rattle.ir_core_chains.specs.ChainEdits.{rewrites-live, rewrites-trans}
use Rattle.ir_core_chains.proofs.Releases.{removed_links, removed_has, removed_within, removed_names, removed_others}
use Rattle.ir_core_chains.proofs.chains_at.remove_linked.Goals as goal

pub release-requires-clause-linked : goal.release-requires-clause-linked
release-requires-clause-linked g c = removed_links g.met.N.Named.chain c.args.records.now c.remove_place-gone.new.records c.args.user c.args.index c.remove_place-gone.result c.requires.linked c.requires.live c.remove_place-gone.ensures.gone c.remove_place-gone.ensures.records

pub release-requires-clause-named : goal.release-requires-clause-named
release-requires-clause-named g c = removed_has g.met.N.Named.chain c.args.records.now c.remove_place-gone.new.records c.args.user c.args.index c.remove_place-gone.result c.requires.linked c.requires.live c.remove_place-gone.ensures.gone c.remove_place-gone.ensures.records

pub release-requires-clause-within : goal.release-requires-clause-within
release-requires-clause-within g c = removed_within g.met.N.Named.chain c.args.records.now c.remove_place-gone.new.records c.args.user c.args.index c.remove_place-gone.result c.requires.linked c.requires.live c.remove_place-gone.ensures.gone c.remove_place-gone.ensures.records

pub returns-clause-value : goal.returns-clause-value
returns-clause-value g c = ap (option_map (λ (a : UsePlace g.row.N.Denot). a.names)) c.remove_place-gone.ensures.gone

pub returns-clause-linked : goal.returns-clause-linked
returns-clause-linked g c = c.release.ensures.linked

pub returns-clause-rest : goal.returns-clause-rest
returns-clause-rest g c = rewrites-trans g.met.N.Named.chain _ _ _ (by_places _ _ _ _ unchanged c.remove_place-gone.ensures.records) c.release.ensures.rest

pub returns-clause-live : goal.returns-clause-live
returns-clause-live g c = rewrites-live g.met.N.Named.chain _ _ _ (returns-clause-rest g c) c.requires.live

pub returns-clause-here : goal.returns-clause-here
returns-clause-here g c = c.release.ensures.names c.args.user ∙ removed_names g.met.N.Named.chain c.args.records.now c.remove_place-gone.new.records c.args.user c.args.index c.remove_place-gone.result c.requires.linked c.requires.live c.remove_place-gone.ensures.gone c.remove_place-gone.ensures.records

pub returns-clause-others : goal.returns-clause-others
returns-clause-others g c o ne = c.release.ensures.names o ∙ removed_others g.met.N.Named.chain c.args.records.now c.remove_place-gone.new.records c.args.user c.args.index c.remove_place-gone.result c.requires.linked c.requires.live c.remove_place-gone.ensures.gone c.remove_place-gone.ensures.records o ne
