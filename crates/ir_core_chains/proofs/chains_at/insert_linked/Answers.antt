use Rattle.std.proofs.Common.{◌≡◌, true, false, not, is_ok, sym, ap, subst, ◌∙◌, arith}
use Rattle.ir_core_records.specs.declared.record.UsePlace.{UsePlace}
use Rattle.ir_core_records.specs.declared.record.UseIndex.{UseIndex}
use Rattle.ir_core_chains.specs.Chain.{unchanged, by_places, by_uses}
use Rattle.ir_core_records.specs.Chains.{names_in}
use Rattle.ir_core_records.specs.Table.{IsOp}
use Rattle.ir_core_chains.specs.ChainEdits.{refused, refused_has, refused_within, linked_by, rewrites-same, err_holds}
use Rattle.ir_core_chains.proofs.Releases.{used_live, used_count, inserted_live, inserted_links, inserted_names, inserted_others}
use Rattle.ir_core_chains.proofs.chains_at.insert_linked.Goals as goal

pub returns-in_err-place-clause-err : goal.returns-in_err-place-clause-err
returns-in_err-place-clause-err g c =
    let same = rw c.in_err-place.was at c.push_use.ensures.records in
    err_holds c.from_residual.result same

pub returns-in_err-place-clause-linked : goal.returns-in_err-place-clause-linked
returns-in_err-place-clause-linked g c =
    let same = rw c.in_err-place.was at c.push_use.ensures.records in
    linked_by g.met.N.Named.chain c.args.records.now _ same c.requires.linked

pub returns-in_err-place-clause-live : goal.returns-in_err-place-clause-live
returns-in_err-place-clause-live g c =
    let same = rw c.in_err-place.was at c.push_use.ensures.records in
    subst (λ r. IsOp r c.args.user) (sym same) c.requires.live

pub returns-in_err-place-clause-others : goal.returns-in_err-place-clause-others
returns-in_err-place-clause-others g c o ne =
    let same = rw c.in_err-place.was at c.push_use.ensures.records in
    ap (λ r. names_in (g.N.Named.places_at r o)) same

pub returns-in_err-place-clause-rest : goal.returns-in_err-place-clause-rest
returns-in_err-place-clause-rest g c =
    let same = rw c.in_err-place.was at c.push_use.ensures.records in
    rewrites-same g.met.N.Named.chain _ _ same

pub insert_place-requires-clause-live : goal.insert_place-requires-clause-live
insert_place-requires-clause-live g c =
    let a : UsePlace g.row.N.Denot = record { number = c.args.number; names = c.args.names; place = c.in_ok-place.place } in
    let used = rw c.in_ok-place.was at c.push_use.ensures.records in
    used_live g.met.N.Named.chain c.args.records.now c.push_use.new.records c.args.user a c.requires.live c.requires.named used

pub insert_place-requires-clause-within : goal.insert_place-requires-clause-within
insert_place-requires-clause-within g c =
    let a : UsePlace g.row.N.Denot = record { number = c.args.number; names = c.args.names; place = c.in_ok-place.place } in
    let used = rw c.in_ok-place.was at c.push_use.ensures.records in
    omega (arith, c.requires.within, used_count g.met.N.Named.chain c.args.records.now c.push_use.new.records c.args.user a c.requires.live c.requires.named used)

pub take_use-requires-clause-named : goal.take_use-requires-clause-named
take_use-requires-clause-named g c =
    let a : UsePlace g.row.N.Denot = record { number = c.args.number; names = c.args.names; place = c.in_ok-place.place } in
    let used = rw c.in_ok-place.was at c.push_use.ensures.records in
    let denied : is_ok c.insert_place.result ≡ false = c.is_err.ensures.negation ∙ ap not c.if-is_err.true in
    let kept = rw denied at c.insert_place.ensures in
    refused_has g.met.N.Named.chain c.args.records.now c.insert_place.new.records c.args.user a c.requires.named (kept ∙ used)

pub take_use-requires-clause-within : goal.take_use-requires-clause-within
take_use-requires-clause-within g c =
    let a : UsePlace g.row.N.Denot = record { number = c.args.number; names = c.args.names; place = c.in_ok-place.place } in
    let used = rw c.in_ok-place.was at c.push_use.ensures.records in
    let denied : is_ok c.insert_place.result ≡ false = c.is_err.ensures.negation ∙ ap not c.if-is_err.true in
    let kept = rw denied at c.insert_place.ensures in
    refused_within g.met.N.Named.chain c.args.records.now c.insert_place.new.records c.args.user a c.requires.named (kept ∙ used) c.in_ok-place.ensures.place

pub returns-then-is_err-clause-err : goal.returns-then-is_err-clause-err
returns-then-is_err-clause-err g c =
    let a : UsePlace g.row.N.Denot = record { number = c.args.number; names = c.args.names; place = c.in_ok-place.place } in
    let x : UseIndex = record { user = c.args.user; number = c.args.number } in
    let used = rw c.in_ok-place.was at c.push_use.ensures.records in
    let denied : is_ok c.insert_place.result ≡ false = c.is_err.ensures.negation ∙ ap not c.if-is_err.true in
    let kept = rw denied at c.insert_place.ensures in
    refused g.met.N.Named.chain c.args.records.now c.push_use.new.records c.insert_place.new.records c.take_use.new.records c.args.user a x c.requires.named used kept c.in_ok-place.ensures.place (c.take_use.ensures.records x)

pub returns-then-is_err-clause-linked : goal.returns-then-is_err-clause-linked
returns-then-is_err-clause-linked g c =
    linked_by g.met.N.Named.chain c.args.records.now _ (returns-then-is_err-clause-err g c) c.requires.linked

pub returns-then-is_err-clause-live : goal.returns-then-is_err-clause-live
returns-then-is_err-clause-live g c =
    subst (λ r. IsOp r c.args.user) (sym (returns-then-is_err-clause-err g c)) c.requires.live

pub returns-then-is_err-clause-others : goal.returns-then-is_err-clause-others
returns-then-is_err-clause-others g c o ne =
    ap (λ r. names_in (g.N.Named.places_at r o)) (returns-then-is_err-clause-err g c)

pub returns-then-is_err-clause-rest : goal.returns-then-is_err-clause-rest
returns-then-is_err-clause-rest g c =
    rewrites-same g.met.N.Named.chain _ _ (returns-then-is_err-clause-err g c)

pub returns-clause-linked : goal.returns-clause-linked
returns-clause-linked g c =
    let a : UsePlace g.row.N.Denot = record { number = c.args.number; names = c.args.names; place = c.in_ok-place.place } in
    let used = rw c.in_ok-place.was at c.push_use.ensures.records in
    let done : is_ok c.insert_place.result ≡ true = c.is_err.ensures.negation ∙ ap not c.if-is_err.false in
    let placed = rw done at c.insert_place.ensures in
    inserted_links g.met.N.Named.chain c.args.records.now c.push_use.new.records c.args.user a c.requires.live c.requires.named used c.insert_place.new.records c.args.index c.requires.within placed c.requires.linked c.requires.fresh c.in_ok-place.ensures.place

pub returns-clause-live : goal.returns-clause-live
returns-clause-live g c =
    let a : UsePlace g.row.N.Denot = record { number = c.args.number; names = c.args.names; place = c.in_ok-place.place } in
    let used = rw c.in_ok-place.was at c.push_use.ensures.records in
    let done : is_ok c.insert_place.result ≡ true = c.is_err.ensures.negation ∙ ap not c.if-is_err.false in
    let placed = rw done at c.insert_place.ensures in
    inserted_live g.met.N.Named.chain c.args.records.now c.push_use.new.records c.args.user a c.requires.live c.requires.named used c.insert_place.new.records c.args.index c.requires.within placed

pub returns-clause-here : goal.returns-clause-here
returns-clause-here g c =
    let a : UsePlace g.row.N.Denot = record { number = c.args.number; names = c.args.names; place = c.in_ok-place.place } in
    let used = rw c.in_ok-place.was at c.push_use.ensures.records in
    let done : is_ok c.insert_place.result ≡ true = c.is_err.ensures.negation ∙ ap not c.if-is_err.false in
    let placed = rw done at c.insert_place.ensures in
    inserted_names g.met.N.Named.chain c.args.records.now c.push_use.new.records c.args.user a c.requires.live c.requires.named used c.insert_place.new.records c.args.index c.requires.within placed

pub returns-clause-others : goal.returns-clause-others
returns-clause-others g c o ne =
    let a : UsePlace g.row.N.Denot = record { number = c.args.number; names = c.args.names; place = c.in_ok-place.place } in
    let used = rw c.in_ok-place.was at c.push_use.ensures.records in
    let done : is_ok c.insert_place.result ≡ true = c.is_err.ensures.negation ∙ ap not c.if-is_err.false in
    let placed = rw done at c.insert_place.ensures in
    inserted_others g.met.N.Named.chain c.args.records.now c.push_use.new.records c.args.user a c.requires.live c.requires.named used c.insert_place.new.records c.args.index c.requires.within placed o ne

pub returns-clause-rest : goal.returns-clause-rest
returns-clause-rest g c =
    let used = rw c.in_ok-place.was at c.push_use.ensures.records in
    let done : is_ok c.insert_place.result ≡ true = c.is_err.ensures.negation ∙ ap not c.if-is_err.false in
    let placed = rw done at c.insert_place.ensures in
    by_places _ _ _ _ (by_uses _ _ _ _ unchanged used) placed
