use Rattle.std.proofs.Common.{◌≡◌, ◌∷◌, ◌++◌, [], None, true, false, not, cond, is_ok, is_some, refl, sym, ap, subst, ◌∙◌, rules}
use Rattle.ir_model.specs.declared.ids.ArenaIndex.{ArenaIndex}
use Rattle.ir_model.specs.Changes.{add_region}
use Rattle.ir_base_arenas.specs.Arena.{Arena, IsLiveIn, fill, cut}
use Rattle.ir_base_arenas.specs.Lists.{SameIds}
use Rattle.ir_core_records.specs.declared.record.Region.{Region}
use Rattle.ir_core_records.specs.Growth.{Grows, SkipsIds}
use Rattle.ir_core_records.specs.Chains.{AreLinked}
use Rattle.ir_core_records.specs.Meaning.{forest_in}
use Rattle.ir_core_records.specs.Tree.{tree_of, blocks_in}
use Rattle.ir_core_nesting.proofs.Readings.{found-at, edited-at}
use Rattle.ir_core_nesting.proofs.Growths.{Grows-one, Skips-none, Skips-cut, SameIds-written, removed}
use Rattle.ir_core_nesting.proofs.RegionLists.{region-added, region-undone}
use Rattle.ir_core_nesting.proofs.creation.add_region.Goals as goal

pub returns-in_default-clause-skipped : goal.returns-in_default-clause-skipped
returns-in_default-clause-skipped g c =
    subst (λ (a : Arena Region). SkipsIds c.args.records.now.regions a 1) (sym c.in_default.ensures.err) (Skips-none c.args.records.now.regions)

pub returns-then-is_err-clause-op_ids : goal.returns-then-is_err-clause-op_ids
returns-then-is_err-clause-op_ids g c =
    let old = c.args.records.now in
    let op = c.args.op in
    let id = c.in-Ok.region.index in
    let h = c.in-Ok.ensures.inserted in
    let region : Region = record { index = id; parent = op; first = None; last = None; place = c.len-place.result } in
    let is : h.value ≡ region = search rules in
    let at = found-at old.ops op c.requires.live in
    let denied : is_ok c.push_region.result ≡ false = c.is_err.ensures.negation ∙ ap not c.if-is_err.true in
    let pushed : c.push_region.new.ops ≡ fill old.ops op (record (at.0) { regions = at.0.regions }) = c.push_region.ensures ∙ edited-at _ old.ops op at.0 at.1 ∙ ap (λ b. fill old.ops op (record (at.0) { regions = cond b (at.0.regions ++ c.index.result ∷ []) at.0.regions })) denied in
    let made : c.insert_with-inserted.new.self ≡ fill old.regions id region = h.filled ∙ ap (fill old.regions id) is in
    let live : IsLiveIn c.insert_with-inserted.new.self id = ap is_some h.found in
    let cleared : c.remove.new.self ≡ cut (fill old.regions id region) id = removed c.insert_with-inserted.new.self c.remove.new.self id c.remove.result live c.remove.ensures.value c.remove.ensures.cut ∙ ap (λ a. cut a id) made in
    subst (λ a. SameIds old.ops a) (sym pushed) (SameIds-written old.ops op _ c.requires.live)

pub returns-then-is_err-clause-nested : goal.returns-then-is_err-clause-nested
returns-then-is_err-clause-nested g c =
    let old = c.args.records.now in
    let op = c.args.op in
    let id = c.in-Ok.region.index in
    let h = c.in-Ok.ensures.inserted in
    let region : Region = record { index = id; parent = op; first = None; last = None; place = c.len-place.result } in
    let is : h.value ≡ region = search rules in
    let at = found-at old.ops op c.requires.live in
    let denied : is_ok c.push_region.result ≡ false = c.is_err.ensures.negation ∙ ap not c.if-is_err.true in
    let pushed : c.push_region.new.ops ≡ fill old.ops op (record (at.0) { regions = at.0.regions }) = c.push_region.ensures ∙ edited-at _ old.ops op at.0 at.1 ∙ ap (λ b. fill old.ops op (record (at.0) { regions = cond b (at.0.regions ++ c.index.result ∷ []) at.0.regions })) denied in
    let made : c.insert_with-inserted.new.self ≡ fill old.regions id region = h.filled ∙ ap (fill old.regions id) is in
    let live : IsLiveIn c.insert_with-inserted.new.self id = ap is_some h.found in
    let cleared : c.remove.new.self ≡ cut (fill old.regions id region) id = removed c.insert_with-inserted.new.self c.remove.new.self id c.remove.result live c.remove.ensures.value c.remove.ensures.cut ∙ ap (λ a. cut a id) made in
    let undone = region-undone old op at.0 at.1 c.push_region.new.ops c.remove.new.self c.lists_are_one.ensures c.lists_are_one-2.ensures c.requires.nested id region h.new_id pushed cleared in
    undone.nested

pub returns-then-is_err-clause-chains : goal.returns-then-is_err-clause-chains
returns-then-is_err-clause-chains g c =
    let old = c.args.records.now in
    let op = c.args.op in
    let id = c.in-Ok.region.index in
    let h = c.in-Ok.ensures.inserted in
    let region : Region = record { index = id; parent = op; first = None; last = None; place = c.len-place.result } in
    let is : h.value ≡ region = search rules in
    let at = found-at old.ops op c.requires.live in
    let denied : is_ok c.push_region.result ≡ false = c.is_err.ensures.negation ∙ ap not c.if-is_err.true in
    let pushed : c.push_region.new.ops ≡ fill old.ops op (record (at.0) { regions = at.0.regions }) = c.push_region.ensures ∙ edited-at _ old.ops op at.0 at.1 ∙ ap (λ b. fill old.ops op (record (at.0) { regions = cond b (at.0.regions ++ c.index.result ∷ []) at.0.regions })) denied in
    let made : c.insert_with-inserted.new.self ≡ fill old.regions id region = h.filled ∙ ap (fill old.regions id) is in
    let live : IsLiveIn c.insert_with-inserted.new.self id = ap is_some h.found in
    let cleared : c.remove.new.self ≡ cut (fill old.regions id region) id = removed c.insert_with-inserted.new.self c.remove.new.self id c.remove.result live c.remove.ensures.value c.remove.ensures.cut ∙ ap (λ a. cut a id) made in
    let undone = region-undone old op at.0 at.1 c.push_region.new.ops c.remove.new.self c.lists_are_one.ensures c.lists_are_one-2.ensures c.requires.nested id region h.new_id pushed cleared in
    undone.chains

pub returns-then-is_err-clause-linked : goal.returns-then-is_err-clause-linked
returns-then-is_err-clause-linked g c = subst AreLinked (sym (returns-then-is_err-clause-chains g c))

pub returns-then-is_err-clause-own : goal.returns-then-is_err-clause-own
returns-then-is_err-clause-own g c =
    let old = c.args.records.now in
    let op = c.args.op in
    let id = c.in-Ok.region.index in
    let h = c.in-Ok.ensures.inserted in
    let region : Region = record { index = id; parent = op; first = None; last = None; place = c.len-place.result } in
    let is : h.value ≡ region = search rules in
    let at = found-at old.ops op c.requires.live in
    let denied : is_ok c.push_region.result ≡ false = c.is_err.ensures.negation ∙ ap not c.if-is_err.true in
    let pushed : c.push_region.new.ops ≡ fill old.ops op (record (at.0) { regions = at.0.regions }) = c.push_region.ensures ∙ edited-at _ old.ops op at.0 at.1 ∙ ap (λ b. fill old.ops op (record (at.0) { regions = cond b (at.0.regions ++ c.index.result ∷ []) at.0.regions })) denied in
    let made : c.insert_with-inserted.new.self ≡ fill old.regions id region = h.filled ∙ ap (fill old.regions id) is in
    let live : IsLiveIn c.insert_with-inserted.new.self id = ap is_some h.found in
    let cleared : c.remove.new.self ≡ cut (fill old.regions id region) id = removed c.insert_with-inserted.new.self c.remove.new.self id c.remove.result live c.remove.ensures.value c.remove.ensures.cut ∙ ap (λ a. cut a id) made in
    let undone = region-undone old op at.0 at.1 c.push_region.new.ops c.remove.new.self c.lists_are_one.ensures c.lists_are_one-2.ensures c.requires.nested id region h.new_id pushed cleared in
    undone.own

pub returns-then-is_err-clause-same : goal.returns-then-is_err-clause-same
returns-then-is_err-clause-same g c =
    let old = c.args.records.now in
    let op = c.args.op in
    let id = c.in-Ok.region.index in
    let h = c.in-Ok.ensures.inserted in
    let region : Region = record { index = id; parent = op; first = None; last = None; place = c.len-place.result } in
    let is : h.value ≡ region = search rules in
    let at = found-at old.ops op c.requires.live in
    let denied : is_ok c.push_region.result ≡ false = c.is_err.ensures.negation ∙ ap not c.if-is_err.true in
    let pushed : c.push_region.new.ops ≡ fill old.ops op (record (at.0) { regions = at.0.regions }) = c.push_region.ensures ∙ edited-at _ old.ops op at.0 at.1 ∙ ap (λ b. fill old.ops op (record (at.0) { regions = cond b (at.0.regions ++ c.index.result ∷ []) at.0.regions })) denied in
    let made : c.insert_with-inserted.new.self ≡ fill old.regions id region = h.filled ∙ ap (fill old.regions id) is in
    let live : IsLiveIn c.insert_with-inserted.new.self id = ap is_some h.found in
    let cleared : c.remove.new.self ≡ cut (fill old.regions id region) id = removed c.insert_with-inserted.new.self c.remove.new.self id c.remove.result live c.remove.ensures.value c.remove.ensures.cut ∙ ap (λ a. cut a id) made in
    let undone = region-undone old op at.0 at.1 c.push_region.new.ops c.remove.new.self c.lists_are_one.ensures c.lists_are_one-2.ensures c.requires.nested id region h.new_id pushed cleared in
    undone.forest

pub returns-then-is_err-clause-skipped : goal.returns-then-is_err-clause-skipped
returns-then-is_err-clause-skipped g c =
    let old = c.args.records.now in
    let op = c.args.op in
    let id = c.in-Ok.region.index in
    let h = c.in-Ok.ensures.inserted in
    let region : Region = record { index = id; parent = op; first = None; last = None; place = c.len-place.result } in
    let is : h.value ≡ region = search rules in
    let at = found-at old.ops op c.requires.live in
    let denied : is_ok c.push_region.result ≡ false = c.is_err.ensures.negation ∙ ap not c.if-is_err.true in
    let pushed : c.push_region.new.ops ≡ fill old.ops op (record (at.0) { regions = at.0.regions }) = c.push_region.ensures ∙ edited-at _ old.ops op at.0 at.1 ∙ ap (λ b. fill old.ops op (record (at.0) { regions = cond b (at.0.regions ++ c.index.result ∷ []) at.0.regions })) denied in
    let made : c.insert_with-inserted.new.self ≡ fill old.regions id region = h.filled ∙ ap (fill old.regions id) is in
    let live : IsLiveIn c.insert_with-inserted.new.self id = ap is_some h.found in
    let cleared : c.remove.new.self ≡ cut (fill old.regions id region) id = removed c.insert_with-inserted.new.self c.remove.new.self id c.remove.result live c.remove.ensures.value c.remove.ensures.cut ∙ ap (λ a. cut a id) made in
    subst (λ (a : Arena Region). SkipsIds old.regions a 1) (sym cleared) (Skips-cut old.regions id region h.new_id)

pub returns-clause-grows : goal.returns-clause-grows
returns-clause-grows g c =
    let old = c.args.records.now in
    let h = c.in-Ok.ensures.inserted in
    subst (λ (u : ArenaIndex). Grows old.regions c.insert_with-inserted.new.self (u ∷ [])) (sym c.index-2.ensures)
    (subst (λ (a : Arena Region). Grows old.regions a (c.in-Ok.region.index ∷ [])) (sym h.filled) (Grows-one old.regions c.in-Ok.region.index h.value h.new_id))

pub returns-clause-forest : goal.returns-clause-forest
returns-clause-forest g c =
    let old = c.args.records.now in
    let op = c.args.op in
    let id = c.in-Ok.region.index in
    let h = c.in-Ok.ensures.inserted in
    let region : Region = record { index = id; parent = op; first = None; last = None; place = c.len-place.result } in
    let is : h.value ≡ region = search rules in
    let at = found-at old.ops op c.requires.live in
    let done : is_ok c.push_region.result ≡ true = c.is_err.ensures.negation ∙ ap not c.if-is_err.false in
    let pushed : c.push_region.new.ops ≡ fill old.ops op (record (at.0) { regions = at.0.regions ++ id ∷ [] }) = c.push_region.ensures ∙ edited-at _ old.ops op at.0 at.1 ∙ ap (λ b. fill old.ops op (record (at.0) { regions = cond b (at.0.regions ++ c.index.result ∷ []) at.0.regions })) done ∙ ap (λ i. fill old.ops op (record (at.0) { regions = at.0.regions ++ i ∷ [] })) c.index.ensures in
    let made : c.insert_with-inserted.new.self ≡ fill old.regions id region = h.filled ∙ ap (fill old.regions id) is in
    let added = region-added old op at.0 at.1 c.push_region.new.ops c.insert_with-inserted.new.self c.lists_are_one.ensures c.lists_are_one-2.ensures c.requires.nested id region h.new_id refl refl pushed made
    (c.container_changes_keep_lists.ensures.inserted old.blocks old.regions (blocks_in (tree_of old)) c.requires.nested.block_lists id region h.new_id refl) in
    added.forest ∙ ap (add_region (forest_in old) op) (sym c.index-2.ensures)

pub returns-clause-op_ids : goal.returns-clause-op_ids
returns-clause-op_ids g c =
    let old = c.args.records.now in
    let op = c.args.op in
    let id = c.in-Ok.region.index in
    let h = c.in-Ok.ensures.inserted in
    let region : Region = record { index = id; parent = op; first = None; last = None; place = c.len-place.result } in
    let is : h.value ≡ region = search rules in
    let at = found-at old.ops op c.requires.live in
    let done : is_ok c.push_region.result ≡ true = c.is_err.ensures.negation ∙ ap not c.if-is_err.false in
    let pushed : c.push_region.new.ops ≡ fill old.ops op (record (at.0) { regions = at.0.regions ++ id ∷ [] }) = c.push_region.ensures ∙ edited-at _ old.ops op at.0 at.1 ∙ ap (λ b. fill old.ops op (record (at.0) { regions = cond b (at.0.regions ++ c.index.result ∷ []) at.0.regions })) done ∙ ap (λ i. fill old.ops op (record (at.0) { regions = at.0.regions ++ i ∷ [] })) c.index.ensures in
    let made : c.insert_with-inserted.new.self ≡ fill old.regions id region = h.filled ∙ ap (fill old.regions id) is in
    subst (λ a. SameIds old.ops a) (sym pushed) (SameIds-written old.ops op _ c.requires.live)

pub returns-clause-nested : goal.returns-clause-nested
returns-clause-nested g c =
    let old = c.args.records.now in
    let op = c.args.op in
    let id = c.in-Ok.region.index in
    let h = c.in-Ok.ensures.inserted in
    let region : Region = record { index = id; parent = op; first = None; last = None; place = c.len-place.result } in
    let is : h.value ≡ region = search rules in
    let at = found-at old.ops op c.requires.live in
    let done : is_ok c.push_region.result ≡ true = c.is_err.ensures.negation ∙ ap not c.if-is_err.false in
    let pushed : c.push_region.new.ops ≡ fill old.ops op (record (at.0) { regions = at.0.regions ++ id ∷ [] }) = c.push_region.ensures ∙ edited-at _ old.ops op at.0 at.1 ∙ ap (λ b. fill old.ops op (record (at.0) { regions = cond b (at.0.regions ++ c.index.result ∷ []) at.0.regions })) done ∙ ap (λ i. fill old.ops op (record (at.0) { regions = at.0.regions ++ i ∷ [] })) c.index.ensures in
    let made : c.insert_with-inserted.new.self ≡ fill old.regions id region = h.filled ∙ ap (fill old.regions id) is in
    let added = region-added old op at.0 at.1 c.push_region.new.ops c.insert_with-inserted.new.self c.lists_are_one.ensures c.lists_are_one-2.ensures c.requires.nested id region h.new_id refl refl pushed made
    (c.container_changes_keep_lists.ensures.inserted old.blocks old.regions (blocks_in (tree_of old)) c.requires.nested.block_lists id region h.new_id refl) in
    added.nested

pub returns-clause-chains : goal.returns-clause-chains
returns-clause-chains g c =
    let old = c.args.records.now in
    let op = c.args.op in
    let id = c.in-Ok.region.index in
    let h = c.in-Ok.ensures.inserted in
    let region : Region = record { index = id; parent = op; first = None; last = None; place = c.len-place.result } in
    let is : h.value ≡ region = search rules in
    let at = found-at old.ops op c.requires.live in
    let done : is_ok c.push_region.result ≡ true = c.is_err.ensures.negation ∙ ap not c.if-is_err.false in
    let pushed : c.push_region.new.ops ≡ fill old.ops op (record (at.0) { regions = at.0.regions ++ id ∷ [] }) = c.push_region.ensures ∙ edited-at _ old.ops op at.0 at.1 ∙ ap (λ b. fill old.ops op (record (at.0) { regions = cond b (at.0.regions ++ c.index.result ∷ []) at.0.regions })) done ∙ ap (λ i. fill old.ops op (record (at.0) { regions = at.0.regions ++ i ∷ [] })) c.index.ensures in
    let made : c.insert_with-inserted.new.self ≡ fill old.regions id region = h.filled ∙ ap (fill old.regions id) is in
    let added = region-added old op at.0 at.1 c.push_region.new.ops c.insert_with-inserted.new.self c.lists_are_one.ensures c.lists_are_one-2.ensures c.requires.nested id region h.new_id refl refl pushed made
    (c.container_changes_keep_lists.ensures.inserted old.blocks old.regions (blocks_in (tree_of old)) c.requires.nested.block_lists id region h.new_id refl) in
    added.chains

pub returns-clause-linked : goal.returns-clause-linked
returns-clause-linked g c = subst AreLinked (sym (returns-clause-chains g c))

pub returns-clause-own : goal.returns-clause-own
returns-clause-own g c =
    let old = c.args.records.now in
    let op = c.args.op in
    let id = c.in-Ok.region.index in
    let h = c.in-Ok.ensures.inserted in
    let region : Region = record { index = id; parent = op; first = None; last = None; place = c.len-place.result } in
    let is : h.value ≡ region = search rules in
    let at = found-at old.ops op c.requires.live in
    let done : is_ok c.push_region.result ≡ true = c.is_err.ensures.negation ∙ ap not c.if-is_err.false in
    let pushed : c.push_region.new.ops ≡ fill old.ops op (record (at.0) { regions = at.0.regions ++ id ∷ [] }) = c.push_region.ensures ∙ edited-at _ old.ops op at.0 at.1 ∙ ap (λ b. fill old.ops op (record (at.0) { regions = cond b (at.0.regions ++ c.index.result ∷ []) at.0.regions })) done ∙ ap (λ i. fill old.ops op (record (at.0) { regions = at.0.regions ++ i ∷ [] })) c.index.ensures in
    let made : c.insert_with-inserted.new.self ≡ fill old.regions id region = h.filled ∙ ap (fill old.regions id) is in
    let added = region-added old op at.0 at.1 c.push_region.new.ops c.insert_with-inserted.new.self c.lists_are_one.ensures c.lists_are_one-2.ensures c.requires.nested id region h.new_id refl refl pushed made
    (c.container_changes_keep_lists.ensures.inserted old.blocks old.regions (blocks_in (tree_of old)) c.requires.nested.block_lists id region h.new_id refl) in
    added.own
