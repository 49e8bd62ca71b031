use Rattle.std.proofs.Common.{◌≡◌, ◌∷◌, ◌++◌, [], true, false, true≢false, cond, is_ok, is_some, inl, inr, refl, sym, ap, subst, ◌∙◌}
use Rattle.std.proofs.lemmas.Option.{same_Some}
use Rattle.ir_model.specs.ContextIds.{same_id}
use Rattle.ir_model.specs.Ids.{Distinct}
use Rattle.ir_model.specs.Nesting.{In, regions_of}
use Rattle.ir_model.specs.Changes.{move_region}
use Rattle.ir_model.proofs.KeepsNew.{any_in}
use Rattle.ir_model.proofs.TwoRuns.{id_tells}
use Rattle.ir_base_arenas.specs.Arena.{get, fill}
use Rattle.ir_core_records.specs.Lists.{in_record}
use Rattle.ir_core_records.specs.Meaning.{forest_in}
use Rattle.ir_core_records.specs.Tree.{op_regions}
use Rattle.ir_core_nesting.proofs.Readings.{found-at, edited-at}
use Rattle.ir_core_nesting.proofs.MovedRegions.{err_holds, only-owner, owner-has, owner-held, regions-once, drops, kept-from, records-moved, records-kept}
use Rattle.ir_core_nesting.proofs.region_moves.move_region.Goals as goal

pub returns-then-eq-clause-forest : goal.returns-then-eq-clause-forest
returns-then-eq-clause-forest g c =
    let old = c.args.records.now in
    let op = c.args.op in
    let r = c.args.region in
    let region = c.at.result.now in
    let from = region.parent in
    let found_region = ap (get old.regions) (sym c.from_index.ensures) ∙ c.at.ensures in
    let has = owner-has old c.requires.nested c.requires.formed r region found_region in
    let same : from ≡ op = (id_tells from op).0 (sym c.eq.ensures ∙ c.if-eq.true) in
    elim (any_in same_id id_tells r (regions_of (forest_in old) op)) [
      | inl k ↦ sym (ap (λ b. cond b (forest_in old) (move_region (forest_in old) r op)) k.0)
      | inr k ↦ absurd (k.1 (subst (λ o. In r (regions_of (forest_in old) o)) same has))
    ]

pub returns-in_err-push_region-clause-same : goal.returns-in_err-push_region-clause-same
returns-in_err-push_region-clause-same g c =
    let old = c.args.records.now in
    let op = c.args.op in
    let r = c.args.region in
    let region = c.at.result.now in
    let from = region.parent in
    let found_region = ap (get old.regions) (sym c.from_index.ensures) ∙ c.at.ensures in
    let has = owner-has old c.requires.nested c.requires.formed r region found_region in
    let two : from ≡ op → ⊥ = (λ e. true≢false (sym ((id_tells from op).1 e) ∙ (sym c.eq.ensures ∙ c.if-eq.false))) in
    let absent : In r (regions_of (forest_in old) op) → ⊥ = (λ h. two (only-owner old c.requires.nested r op region found_region h)) in
    let at = found-at old.ops op c.requires.op_live in
    let denied : is_ok c.push_region.result ≡ false = ap is_ok c.in_err-push_region.was in
    let same : c.push_region.new.ops ≡ fill old.ops op (record (at.0) { regions = at.0.regions }) = c.push_region.ensures ∙ edited-at _ old.ops op at.0 at.1 ∙ ap (λ b. fill old.ops op (record (at.0) { regions = cond b (at.0.regions ++ r ∷ []) at.0.regions })) denied in
    let kept = records-kept old op at.0 at.1 c.requires.nested c.lists_are_one.ensures c.push_region.new.ops same in
    err_holds c.from_residual.result kept.forest

pub returns-in_err-push_region-clause-refused : goal.returns-in_err-push_region-clause-refused
returns-in_err-push_region-clause-refused g c =
    let old = c.args.records.now in
    let op = c.args.op in
    let r = c.args.region in
    let region = c.at.result.now in
    let from = region.parent in
    let found_region = ap (get old.regions) (sym c.from_index.ensures) ∙ c.at.ensures in
    let has = owner-has old c.requires.nested c.requires.formed r region found_region in
    let two : from ≡ op → ⊥ = (λ e. true≢false (sym ((id_tells from op).1 e) ∙ (sym c.eq.ensures ∙ c.if-eq.false))) in
    let absent : In r (regions_of (forest_in old) op) → ⊥ = (λ h. two (only-owner old c.requires.nested r op region found_region h)) in
    let at = found-at old.ops op c.requires.op_live in
    err_holds c.from_residual.result absent

pub returns-in_err-push_region-clause-nested : goal.returns-in_err-push_region-clause-nested
returns-in_err-push_region-clause-nested g c =
    let old = c.args.records.now in
    let op = c.args.op in
    let r = c.args.region in
    let region = c.at.result.now in
    let from = region.parent in
    let found_region = ap (get old.regions) (sym c.from_index.ensures) ∙ c.at.ensures in
    let has = owner-has old c.requires.nested c.requires.formed r region found_region in
    let two : from ≡ op → ⊥ = (λ e. true≢false (sym ((id_tells from op).1 e) ∙ (sym c.eq.ensures ∙ c.if-eq.false))) in
    let absent : In r (regions_of (forest_in old) op) → ⊥ = (λ h. two (only-owner old c.requires.nested r op region found_region h)) in
    let at = found-at old.ops op c.requires.op_live in
    let denied : is_ok c.push_region.result ≡ false = ap is_ok c.in_err-push_region.was in
    let same : c.push_region.new.ops ≡ fill old.ops op (record (at.0) { regions = at.0.regions }) = c.push_region.ensures ∙ edited-at _ old.ops op at.0 at.1 ∙ ap (λ b. fill old.ops op (record (at.0) { regions = cond b (at.0.regions ++ r ∷ []) at.0.regions })) denied in
    let kept = records-kept old op at.0 at.1 c.requires.nested c.lists_are_one.ensures c.push_region.new.ops same in
    kept.nested

pub returns-in_err-push_region-clause-keeps : goal.returns-in_err-push_region-clause-keeps
returns-in_err-push_region-clause-keeps g c =
    let old = c.args.records.now in
    let op = c.args.op in
    let r = c.args.region in
    let region = c.at.result.now in
    let from = region.parent in
    let found_region = ap (get old.regions) (sym c.from_index.ensures) ∙ c.at.ensures in
    let has = owner-has old c.requires.nested c.requires.formed r region found_region in
    let two : from ≡ op → ⊥ = (λ e. true≢false (sym ((id_tells from op).1 e) ∙ (sym c.eq.ensures ∙ c.if-eq.false))) in
    let absent : In r (regions_of (forest_in old) op) → ⊥ = (λ h. two (only-owner old c.requires.nested r op region found_region h)) in
    let at = found-at old.ops op c.requires.op_live in
    let denied : is_ok c.push_region.result ≡ false = ap is_ok c.in_err-push_region.was in
    let same : c.push_region.new.ops ≡ fill old.ops op (record (at.0) { regions = at.0.regions }) = c.push_region.ensures ∙ edited-at _ old.ops op at.0 at.1 ∙ ap (λ b. fill old.ops op (record (at.0) { regions = cond b (at.0.regions ++ r ∷ []) at.0.regions })) denied in
    let kept = records-kept old op at.0 at.1 c.requires.nested c.lists_are_one.ensures c.push_region.new.ops same in
    kept.keeps

pub drop_region-requires-clause-live : goal.drop_region-requires-clause-live
drop_region-requires-clause-live g c =
    let old = c.args.records.now in
    let op = c.args.op in
    let r = c.args.region in
    let region = c.at.result.now in
    let from = region.parent in
    let found_region = ap (get old.regions) (sym c.from_index.ensures) ∙ c.at.ensures in
    let has = owner-has old c.requires.nested c.requires.formed r region found_region in
    let two : from ≡ op → ⊥ = (λ e. true≢false (sym ((id_tells from op).1 e) ∙ (sym c.eq.ensures ∙ c.if-eq.false))) in
    let absent : In r (regions_of (forest_in old) op) → ⊥ = (λ h. two (only-owner old c.requires.nested r op region found_region h)) in
    let at = found-at old.ops op c.requires.op_live in
    let at_from = found-at old.ops from (owner-held old c.requires.nested r from has) in
    let done : is_ok c.push_region.result ≡ true = ap is_ok c.in_ok-push_region.was in
    let pushed : c.push_region.new.ops ≡ fill old.ops op (record (at.0) { regions = at.0.regions ++ r ∷ [] }) = c.push_region.ensures ∙ edited-at _ old.ops op at.0 at.1 ∙ ap (λ b. fill old.ops op (record (at.0) { regions = cond b (at.0.regions ++ r ∷ []) at.0.regions })) done in
    ap is_some (ap (λ a. get a from) pushed ∙ kept-from old op from r c.len-place.result at.0 at_from.0 region at.1 at_from.1 found_region refl two c.requires.nested c.lists_are_one.ensures c.lists_are_one-2.ensures) ∙ owner-held old c.requires.nested r from has

pub drop_region-requires-clause-once : goal.drop_region-requires-clause-once
drop_region-requires-clause-once g c =
    let old = c.args.records.now in
    let op = c.args.op in
    let r = c.args.region in
    let region = c.at.result.now in
    let from = region.parent in
    let found_region = ap (get old.regions) (sym c.from_index.ensures) ∙ c.at.ensures in
    let has = owner-has old c.requires.nested c.requires.formed r region found_region in
    let two : from ≡ op → ⊥ = (λ e. true≢false (sym ((id_tells from op).1 e) ∙ (sym c.eq.ensures ∙ c.if-eq.false))) in
    let absent : In r (regions_of (forest_in old) op) → ⊥ = (λ h. two (only-owner old c.requires.nested r op region found_region h)) in
    let at = found-at old.ops op c.requires.op_live in
    let at_from = found-at old.ops from (owner-held old c.requires.nested r from has) in
    let done : is_ok c.push_region.result ≡ true = ap is_ok c.in_ok-push_region.was in
    let pushed : c.push_region.new.ops ≡ fill old.ops op (record (at.0) { regions = at.0.regions ++ r ∷ [] }) = c.push_region.ensures ∙ edited-at _ old.ops op at.0 at.1 ∙ ap (λ b. fill old.ops op (record (at.0) { regions = cond b (at.0.regions ++ r ∷ []) at.0.regions })) done in
    subst (λ m. Distinct (in_record op_regions [] m)) (sym (ap (λ a. get a from) pushed ∙ kept-from old op from r c.len-place.result at.0 at_from.0 region at.1 at_from.1 found_region refl two c.requires.nested c.lists_are_one.ensures c.lists_are_one-2.ensures)) (regions-once old c.requires.nested c.requires.formed from)

pub returns-clause-forest : goal.returns-clause-forest
returns-clause-forest g c =
    let old = c.args.records.now in
    let op = c.args.op in
    let r = c.args.region in
    let region = c.at.result.now in
    let from = region.parent in
    let found_region = ap (get old.regions) (sym c.from_index.ensures) ∙ c.at.ensures in
    let has = owner-has old c.requires.nested c.requires.formed r region found_region in
    let two : from ≡ op → ⊥ = (λ e. true≢false (sym ((id_tells from op).1 e) ∙ (sym c.eq.ensures ∙ c.if-eq.false))) in
    let absent : In r (regions_of (forest_in old) op) → ⊥ = (λ h. two (only-owner old c.requires.nested r op region found_region h)) in
    let at = found-at old.ops op c.requires.op_live in
    let at_from = found-at old.ops from (owner-held old c.requires.nested r from has) in
    let done : is_ok c.push_region.result ≡ true = ap is_ok c.in_ok-push_region.was in
    let pushed : c.push_region.new.ops ≡ fill old.ops op (record (at.0) { regions = at.0.regions ++ r ∷ [] }) = c.push_region.ensures ∙ edited-at _ old.ops op at.0 at.1 ∙ ap (λ b. fill old.ops op (record (at.0) { regions = cond b (at.0.regions ++ r ∷ []) at.0.regions })) done in
    let value : c.at_mut-record.result.now ≡ region = same_Some _ _ (sym c.at_mut-record.ensures.value ∙ ap (get old.regions) c.from_index-3.ensures ∙ found_region) in
    let dropped = drops old op from r c.len-place.result at.0 at_from.0 region at.1 at_from.1 found_region refl two c.requires.nested c.lists_are_one.ensures c.lists_are_one-2.ensures c.push_region.new.ops c.drop_region.new.ops pushed c.drop_region.ensures in
    let told = records-moved old op from r c.len-place.result at.0 at_from.0 region at.1 at_from.1 found_region refl two c.requires.nested c.lists_are_one.ensures c.lists_are_one-2.ensures c.drop_region.new.ops _ dropped
    (λ i. fill old.regions (c.from_index-3.ensures i) (record (value i) { parent = op; place = c.len-place.result })) in
    elim (any_in same_id id_tells r (regions_of (forest_in old) op)) [
      | inl k ↦ absurd (absent k.1)
      | inr k ↦ told.forest ∙ sym (ap (λ b. cond b (forest_in old) (move_region (forest_in old) r op)) k.0)
    ]

pub returns-clause-nested : goal.returns-clause-nested
returns-clause-nested g c =
    let old = c.args.records.now in
    let op = c.args.op in
    let r = c.args.region in
    let region = c.at.result.now in
    let from = region.parent in
    let found_region = ap (get old.regions) (sym c.from_index.ensures) ∙ c.at.ensures in
    let has = owner-has old c.requires.nested c.requires.formed r region found_region in
    let two : from ≡ op → ⊥ = (λ e. true≢false (sym ((id_tells from op).1 e) ∙ (sym c.eq.ensures ∙ c.if-eq.false))) in
    let absent : In r (regions_of (forest_in old) op) → ⊥ = (λ h. two (only-owner old c.requires.nested r op region found_region h)) in
    let at = found-at old.ops op c.requires.op_live in
    let at_from = found-at old.ops from (owner-held old c.requires.nested r from has) in
    let done : is_ok c.push_region.result ≡ true = ap is_ok c.in_ok-push_region.was in
    let pushed : c.push_region.new.ops ≡ fill old.ops op (record (at.0) { regions = at.0.regions ++ r ∷ [] }) = c.push_region.ensures ∙ edited-at _ old.ops op at.0 at.1 ∙ ap (λ b. fill old.ops op (record (at.0) { regions = cond b (at.0.regions ++ r ∷ []) at.0.regions })) done in
    let value : c.at_mut-record.result.now ≡ region = same_Some _ _ (sym c.at_mut-record.ensures.value ∙ ap (get old.regions) c.from_index-3.ensures ∙ found_region) in
    let dropped = drops old op from r c.len-place.result at.0 at_from.0 region at.1 at_from.1 found_region refl two c.requires.nested c.lists_are_one.ensures c.lists_are_one-2.ensures c.push_region.new.ops c.drop_region.new.ops pushed c.drop_region.ensures in
    let told = records-moved old op from r c.len-place.result at.0 at_from.0 region at.1 at_from.1 found_region refl two c.requires.nested c.lists_are_one.ensures c.lists_are_one-2.ensures c.drop_region.new.ops _ dropped
    (λ i. fill old.regions (c.from_index-3.ensures i) (record (value i) { parent = op; place = c.len-place.result })) in
    told.nested

pub returns-clause-keeps : goal.returns-clause-keeps
returns-clause-keeps g c =
    let old = c.args.records.now in
    let op = c.args.op in
    let r = c.args.region in
    let region = c.at.result.now in
    let from = region.parent in
    let found_region = ap (get old.regions) (sym c.from_index.ensures) ∙ c.at.ensures in
    let has = owner-has old c.requires.nested c.requires.formed r region found_region in
    let two : from ≡ op → ⊥ = (λ e. true≢false (sym ((id_tells from op).1 e) ∙ (sym c.eq.ensures ∙ c.if-eq.false))) in
    let absent : In r (regions_of (forest_in old) op) → ⊥ = (λ h. two (only-owner old c.requires.nested r op region found_region h)) in
    let at = found-at old.ops op c.requires.op_live in
    let at_from = found-at old.ops from (owner-held old c.requires.nested r from has) in
    let done : is_ok c.push_region.result ≡ true = ap is_ok c.in_ok-push_region.was in
    let pushed : c.push_region.new.ops ≡ fill old.ops op (record (at.0) { regions = at.0.regions ++ r ∷ [] }) = c.push_region.ensures ∙ edited-at _ old.ops op at.0 at.1 ∙ ap (λ b. fill old.ops op (record (at.0) { regions = cond b (at.0.regions ++ r ∷ []) at.0.regions })) done in
    let value : c.at_mut-record.result.now ≡ region = same_Some _ _ (sym c.at_mut-record.ensures.value ∙ ap (get old.regions) c.from_index-3.ensures ∙ found_region) in
    let dropped = drops old op from r c.len-place.result at.0 at_from.0 region at.1 at_from.1 found_region refl two c.requires.nested c.lists_are_one.ensures c.lists_are_one-2.ensures c.push_region.new.ops c.drop_region.new.ops pushed c.drop_region.ensures in
    let told = records-moved old op from r c.len-place.result at.0 at_from.0 region at.1 at_from.1 found_region refl two c.requires.nested c.lists_are_one.ensures c.lists_are_one-2.ensures c.drop_region.new.ops _ dropped
    (λ i. fill old.regions (c.from_index-3.ensures i) (record (value i) { parent = op; place = c.len-place.result })) in
    told.keeps
