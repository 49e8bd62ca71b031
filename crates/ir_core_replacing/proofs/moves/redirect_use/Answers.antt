use Rattle.std.proofs.Common.{◌≡◌, sym, ap, ◌∙◌}
use Rattle.ir_core_records.specs.declared.record.UsePlace.{UsePlace}
use Rattle.std.proofs.lemmas.Bool.{false≢true}
use Rattle.ir_core_chains.specs.Chain.{unchanged, by_places, by_uses}
use Rattle.ir_core_chains.specs.ChainEdits.{rewrites-same}
use Rattle.ir_core_replacing.proofs.UseLemmas.{place_live, linked_numbers, one_place_of, use_same, pushed_has, pushed_live, pushed_numbers, from_has, from_within, last_linked, last_names, moved_has, moved_live, moved_numbers, moved_linked, moved_names}
use Rattle.ir_core_replacing.proofs.moves.redirect_use.Goals as goal

pub place_of-near-requires-clause-live : goal.place_of-near-requires-clause-live
place_of-near-requires-clause-live g c = place_live g.met.N.Named.chain c.args.records.now c.args.used c.requires.has

pub place_of-near-requires-clause-distinct : goal.place_of-near-requires-clause-distinct
place_of-near-requires-clause-distinct g c = linked_numbers g.met.N.Named.chain c.args.records.now c.requires.linked c.args.used.user

pub returns-then-is_same-clause-names : goal.returns-then-is_same-clause-names
returns-then-is_same-clause-names g c =
    let old = c.place_of-near.ensures in
    use_same g.met.N.Named.chain c.args.records.now c.args.used c.args.to old.0 c.place_of-near.result.0 c.requires.linked old.1 old.2 (c.is_same.ensures.0 c.if-is_same.true)

pub returns-then-is_same-clause-rest : goal.returns-then-is_same-clause-rest
returns-then-is_same-clause-rest g c = unchanged

pub returns-in_err-place-clause-rest : goal.returns-in_err-place-clause-rest
returns-in_err-place-clause-rest g c =
    let same = rw c.in_err-place.was at c.push_use.ensures.records in
    rewrites-same g.met.N.Named.chain _ _ same

pub rename_place-requires-clause-live : goal.rename_place-requires-clause-live
rename_place-requires-clause-live g c =
    let old = c.place_of-near.ensures in
    let pushed = rw c.in_ok-place.was at c.push_use.ensures.records in
    pushed_live g.met.N.Named.chain c.args.records.now c.args.used c.args.to old.0 c.place_of-near.result.0 c.requires.linked old.1 old.2 c.push_use.new.records pushed

pub rename_place-requires-clause-distinct : goal.rename_place-requires-clause-distinct
rename_place-requires-clause-distinct g c =
    let old = c.place_of-near.ensures in
    let pushed = rw c.in_ok-place.was at c.push_use.ensures.records in
    pushed_numbers g.met.N.Named.chain c.args.records.now c.args.used c.args.to old.0 c.place_of-near.result.0 c.requires.linked old.1 old.2 c.push_use.new.records pushed

pub rename_place-requires-clause-has : goal.rename_place-requires-clause-has
rename_place-requires-clause-has g c =
    let old = c.place_of-near.ensures in
    let pushed = rw c.in_ok-place.was at c.push_use.ensures.records in
    pushed_has g.met.N.Named.chain c.args.records.now c.args.used c.args.to old.0 c.place_of-near.result.0 c.requires.linked old.1 old.2 c.push_use.new.records pushed

pub take_use-requires-clause-named : goal.take_use-requires-clause-named
take_use-requires-clause-named g c =
    let old = c.place_of-near.ensures in
    let pushed = rw c.in_ok-place.was at c.push_use.ensures.records in
    let ne = λ (e : c.place_of-near.result.0.names ≡ c.args.to). false≢true (sym c.if-is_same.false ∙ c.is_same.ensures.1 e) in
    from_has g.met.N.Named.chain c.args.records.now c.args.used c.args.to old.0 c.place_of-near.result.0 c.requires.linked old.1 old.2 c.push_use.new.records c.rename_place.new.records c.rename_place.new.records c.args.used c.in_ok-place.place ne c.requires.named c.in_ok-place.ensures.place pushed c.rename_place.ensures

pub take_use-requires-clause-within : goal.take_use-requires-clause-within
take_use-requires-clause-within g c =
    let old = c.place_of-near.ensures in
    let pushed = rw c.in_ok-place.was at c.push_use.ensures.records in
    let ne = λ (e : c.place_of-near.result.0.names ≡ c.args.to). false≢true (sym c.if-is_same.false ∙ c.is_same.ensures.1 e) in
    from_within g.met.N.Named.chain c.args.records.now c.args.used c.args.to old.0 c.place_of-near.result.0 c.requires.linked old.1 old.2 c.push_use.new.records c.rename_place.new.records c.rename_place.new.records c.args.used c.in_ok-place.place ne c.requires.named c.in_ok-place.ensures.place pushed c.rename_place.ensures

pub returns-in_default-clause-linked : goal.returns-in_default-clause-linked
returns-in_default-clause-linked g c =
    let old = c.place_of-near.ensures in
    let pushed = rw c.in_ok-place.was at c.push_use.ensures.records in
    let ne = λ (e : c.place_of-near.result.0.names ≡ c.args.to). false≢true (sym c.if-is_same.false ∙ c.is_same.ensures.1 e) in
    last_linked g.met.N.Named.chain c.args.records.now c.args.used c.args.to old.0 c.place_of-near.result.0 c.requires.linked old.1 old.2 c.push_use.new.records c.rename_place.new.records c.take_use.new.records c.args.used c.in_ok-place.place ne c.requires.named c.in_ok-place.ensures.place pushed c.rename_place.ensures (c.take_use.ensures.records c.args.used) (sym (c.take_use.ensures.moved c.args.used) ∙ c.in_default.is)

pub returns-in_default-clause-names : goal.returns-in_default-clause-names
returns-in_default-clause-names g c =
    let old = c.place_of-near.ensures in
    let pushed = rw c.in_ok-place.was at c.push_use.ensures.records in
    let ne = λ (e : c.place_of-near.result.0.names ≡ c.args.to). false≢true (sym c.if-is_same.false ∙ c.is_same.ensures.1 e) in
    last_names g.met.N.Named.chain c.args.records.now c.args.used c.args.to old.0 c.place_of-near.result.0 c.requires.linked old.1 old.2 c.push_use.new.records c.rename_place.new.records c.take_use.new.records c.args.used c.in_ok-place.place ne c.requires.named c.in_ok-place.ensures.place pushed c.rename_place.ensures (c.take_use.ensures.records c.args.used) (sym (c.take_use.ensures.moved c.args.used) ∙ c.in_default.is)

pub returns-in_default-clause-rest : goal.returns-in_default-clause-rest
returns-in_default-clause-rest g c =
    let pushed = rw c.in_ok-place.was at c.push_use.ensures.records in
    by_uses _ _ _ _ (by_places _ _ _ _ (by_uses _ _ _ _ unchanged pushed) c.rename_place.ensures) (c.take_use.ensures.records c.args.used)

pub rename_place-requires-2-clause-live : goal.rename_place-requires-2-clause-live
rename_place-requires-2-clause-live g c =
    let old = c.place_of-near.ensures in
    let pushed = rw c.in_ok-place.was at c.push_use.ensures.records in
    let ne = λ (e : c.place_of-near.result.0.names ≡ c.args.to). false≢true (sym c.if-is_same.false ∙ c.is_same.ensures.1 e) in
    rw c.used.ensures (moved_live g.met.N.Named.chain c.args.records.now c.args.used c.args.to old.0 c.place_of-near.result.0 c.requires.linked old.1 old.2 c.push_use.new.records c.rename_place.new.records c.take_use.new.records c.args.used c.in_ok-place.place ne c.requires.named c.in_ok-place.ensures.place pushed c.rename_place.ensures (c.take_use.ensures.records c.args.used) c.in-Some.moved (sym (c.take_use.ensures.moved c.args.used) ∙ c.in-Some.is))

pub rename_place-requires-2-clause-distinct : goal.rename_place-requires-2-clause-distinct
rename_place-requires-2-clause-distinct g c =
    let old = c.place_of-near.ensures in
    let pushed = rw c.in_ok-place.was at c.push_use.ensures.records in
    let ne = λ (e : c.place_of-near.result.0.names ≡ c.args.to). false≢true (sym c.if-is_same.false ∙ c.is_same.ensures.1 e) in
    rw c.used.ensures (moved_numbers g.met.N.Named.chain c.args.records.now c.args.used c.args.to old.0 c.place_of-near.result.0 c.requires.linked old.1 old.2 c.push_use.new.records c.rename_place.new.records c.take_use.new.records c.args.used c.in_ok-place.place ne c.requires.named c.in_ok-place.ensures.place pushed c.rename_place.ensures (c.take_use.ensures.records c.args.used) c.in-Some.moved (sym (c.take_use.ensures.moved c.args.used) ∙ c.in-Some.is))

pub rename_place-requires-2-clause-has : goal.rename_place-requires-2-clause-has
rename_place-requires-2-clause-has g c =
    let old = c.place_of-near.ensures in
    let pushed = rw c.in_ok-place.was at c.push_use.ensures.records in
    let ne = λ (e : c.place_of-near.result.0.names ≡ c.args.to). false≢true (sym c.if-is_same.false ∙ c.is_same.ensures.1 e) in
    rw c.used.ensures (moved_has g.met.N.Named.chain c.args.records.now c.args.used c.args.to old.0 c.place_of-near.result.0 c.requires.linked old.1 old.2 c.push_use.new.records c.rename_place.new.records c.take_use.new.records c.args.used c.in_ok-place.place ne c.requires.named c.in_ok-place.ensures.place pushed c.rename_place.ensures (c.take_use.ensures.records c.args.used) c.in-Some.moved (sym (c.take_use.ensures.moved c.args.used) ∙ c.in-Some.is))

pub returns-clause-linked : goal.returns-clause-linked
returns-clause-linked g c =
    let old = c.place_of-near.ensures in
    let pushed = rw c.in_ok-place.was at c.push_use.ensures.records in
    let ne = λ (e : c.place_of-near.result.0.names ≡ c.args.to). false≢true (sym c.if-is_same.false ∙ c.is_same.ensures.1 e) in
    moved_linked g.met.N.Named.chain c.args.records.now c.args.used c.args.to old.0 c.place_of-near.result.0 c.requires.linked old.1 old.2 c.push_use.new.records c.rename_place.new.records c.take_use.new.records c.args.used c.in_ok-place.place ne c.requires.named c.in_ok-place.ensures.place pushed c.rename_place.ensures (c.take_use.ensures.records c.args.used) c.in-Some.moved (sym (c.take_use.ensures.moved c.args.used) ∙ c.in-Some.is) c.rename_place-2.new.records (rw c.used.ensures at c.rename_place-2.ensures)

pub returns-clause-names : goal.returns-clause-names
returns-clause-names g c =
    let old = c.place_of-near.ensures in
    let pushed = rw c.in_ok-place.was at c.push_use.ensures.records in
    let ne = λ (e : c.place_of-near.result.0.names ≡ c.args.to). false≢true (sym c.if-is_same.false ∙ c.is_same.ensures.1 e) in
    moved_names g.met.N.Named.chain c.args.records.now c.args.used c.args.to old.0 c.place_of-near.result.0 c.requires.linked old.1 old.2 c.push_use.new.records c.rename_place.new.records c.take_use.new.records c.args.used c.in_ok-place.place ne c.requires.named c.in_ok-place.ensures.place pushed c.rename_place.ensures (c.take_use.ensures.records c.args.used) c.in-Some.moved (sym (c.take_use.ensures.moved c.args.used) ∙ c.in-Some.is) c.rename_place-2.new.records (rw c.used.ensures at c.rename_place-2.ensures)

pub returns-clause-rest : goal.returns-clause-rest
returns-clause-rest g c =
    let pushed = rw c.in_ok-place.was at c.push_use.ensures.records in
    by_places _ _ _ _ (by_uses _ _ _ _ (by_places _ _ _ _ (by_uses _ _ _ _ unchanged pushed) c.rename_place.ensures) (c.take_use.ensures.records c.args.used)) c.rename_place-2.ensures

pub returns-in_err-place-clause-itself : goal.returns-in_err-place-clause-itself
returns-in_err-place-clause-itself g c a at e =
    let same = one_place_of g.met.N.Named.chain c.args.records.now c.args.used a c.place_of-near.result.0 c.requires.linked at c.place_of-near.ensures in
    let old : c.place_of-near.result.0.names ≡ c.args.to = ap (λ (x : UsePlace g.row.N.Denot). x.names) (sym same) ∙ e in
    absurd (false≢true (sym c.if-is_same.false ∙ c.is_same.ensures.1 old))
