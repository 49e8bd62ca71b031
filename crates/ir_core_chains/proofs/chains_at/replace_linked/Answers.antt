use Rattle.std.proofs.Common.{sym, ap, subst, ◌∙◌, arith}
use Rattle.ir_core_records.specs.declared.record.UsePlace.{UsePlace}
use Rattle.ir_core_chains.specs.Chain.{unchanged, by_places, by_uses}
use Rattle.ir_core_records.specs.Chains.{names_in}
use Rattle.ir_core_records.specs.Table.{IsOp}
use Rattle.ir_core_chains.specs.ChainEdits.{linked_by, rewrites-same, rewrites-trans, rewrites-live, err_holds}
use Rattle.ir_core_chains.proofs.Releases.{used_live, used_count, swapped_links, swapped_has, swapped_within, swapped_names, swapped_others}
use Rattle.ir_core_chains.proofs.chains_at.replace_linked.Goals as goal

pub returns-in_err-place-clause-err : goal.returns-in_err-place-clause-err
returns-in_err-place-clause-err g c =
    let same = rw c.in_err-place.was at c.push_use.ensures.records in
    err_holds c.from_residual.result same

pub returns-in_err-place-clause-linked : goal.returns-in_err-place-clause-linked
returns-in_err-place-clause-linked g c =
    let same = rw c.in_err-place.was at c.push_use.ensures.records in
    linked_by g.met.N.Named.chain c.args.records.now _ same c.requires.linked

pub returns-in_err-place-clause-live : goal.returns-in_err-place-clause-live
returns-in_err-place-clause-live g c =
    let same = rw c.in_err-place.was at c.push_use.ensures.records in
    subst (λ r. IsOp r c.args.user) (sym same) c.requires.live

pub returns-in_err-place-clause-others : goal.returns-in_err-place-clause-others
returns-in_err-place-clause-others g c o ne =
    let same = rw c.in_err-place.was at c.push_use.ensures.records in
    ap (λ r. names_in (g.N.Named.places_at r o)) same

pub returns-in_err-place-clause-rest : goal.returns-in_err-place-clause-rest
returns-in_err-place-clause-rest g c =
    let same = rw c.in_err-place.was at c.push_use.ensures.records in
    rewrites-same g.met.N.Named.chain _ _ same

pub replace_place-gone-requires-clause-live : goal.replace_place-gone-requires-clause-live
replace_place-gone-requires-clause-live g c =
    let a : UsePlace g.row.N.Denot = record { number = c.args.number; names = c.args.names; place = c.in_ok-place.place } in
    let used = rw c.in_ok-place.was at c.push_use.ensures.records in
    used_live g.met.N.Named.chain c.args.records.now c.push_use.new.records c.args.user a c.requires.live c.requires.named used

pub replace_place-gone-requires-clause-within : goal.replace_place-gone-requires-clause-within
replace_place-gone-requires-clause-within g c =
    let a : UsePlace g.row.N.Denot = record { number = c.args.number; names = c.args.names; place = c.in_ok-place.place } in
    let used = rw c.in_ok-place.was at c.push_use.ensures.records in
    omega (arith, c.requires.within, used_count g.met.N.Named.chain c.args.records.now c.push_use.new.records c.args.user a c.requires.live c.requires.named used)

pub release-requires-clause-linked : goal.release-requires-clause-linked
release-requires-clause-linked g c =
    let a : UsePlace g.row.N.Denot = record { number = c.args.number; names = c.args.names; place = c.in_ok-place.place } in
    let used = rw c.in_ok-place.was at c.push_use.ensures.records in
    swapped_links g.met.N.Named.chain c.args.records.now c.push_use.new.records c.args.user a c.requires.live c.requires.named used c.replace_place-gone.new.records c.args.index c.replace_place-gone.result c.requires.linked c.replace_place-gone.ensures.gone c.replace_place-gone.ensures.records c.requires.fresh c.in_ok-place.ensures.place

pub release-requires-clause-named : goal.release-requires-clause-named
release-requires-clause-named g c =
    let a : UsePlace g.row.N.Denot = record { number = c.args.number; names = c.args.names; place = c.in_ok-place.place } in
    let used = rw c.in_ok-place.was at c.push_use.ensures.records in
    swapped_has g.met.N.Named.chain c.args.records.now c.push_use.new.records c.args.user a c.requires.live c.requires.named used c.replace_place-gone.new.records c.args.index c.replace_place-gone.result c.requires.linked c.replace_place-gone.ensures.gone c.replace_place-gone.ensures.records

pub release-requires-clause-within : goal.release-requires-clause-within
release-requires-clause-within g c =
    let a : UsePlace g.row.N.Denot = record { number = c.args.number; names = c.args.names; place = c.in_ok-place.place } in
    let used = rw c.in_ok-place.was at c.push_use.ensures.records in
    swapped_within g.met.N.Named.chain c.args.records.now c.push_use.new.records c.args.user a c.requires.live c.requires.named used c.replace_place-gone.new.records c.args.index c.replace_place-gone.result c.requires.linked c.replace_place-gone.ensures.gone c.replace_place-gone.ensures.records

pub returns-clause-linked : goal.returns-clause-linked
returns-clause-linked g c = c.release.ensures.linked

pub returns-clause-rest : goal.returns-clause-rest
returns-clause-rest g c =
    let used = rw c.in_ok-place.was at c.push_use.ensures.records in
    rewrites-trans g.met.N.Named.chain _ _ _ (by_places _ _ _ _ (by_uses _ _ _ _ unchanged used) c.replace_place-gone.ensures.records) c.release.ensures.rest

pub returns-clause-live : goal.returns-clause-live
returns-clause-live g c = rewrites-live g.met.N.Named.chain _ _ _ (returns-clause-rest g c) c.requires.live

pub returns-clause-here : goal.returns-clause-here
returns-clause-here g c =
    let a : UsePlace g.row.N.Denot = record { number = c.args.number; names = c.args.names; place = c.in_ok-place.place } in
    let used = rw c.in_ok-place.was at c.push_use.ensures.records in
    c.release.ensures.names c.args.user ∙ swapped_names g.met.N.Named.chain c.args.records.now c.push_use.new.records c.args.user a c.requires.live c.requires.named used c.replace_place-gone.new.records c.args.index c.replace_place-gone.result c.requires.linked c.replace_place-gone.ensures.gone c.replace_place-gone.ensures.records

pub returns-clause-others : goal.returns-clause-others
returns-clause-others g c o ne =
    let a : UsePlace g.row.N.Denot = record { number = c.args.number; names = c.args.names; place = c.in_ok-place.place } in
    let used = rw c.in_ok-place.was at c.push_use.ensures.records in
    c.release.ensures.names o ∙ swapped_others g.met.N.Named.chain c.args.records.now c.push_use.new.records c.args.user a c.requires.live c.requires.named used c.replace_place-gone.new.records c.args.index c.replace_place-gone.result c.requires.linked c.replace_place-gone.ensures.gone c.replace_place-gone.ensures.records o ne
