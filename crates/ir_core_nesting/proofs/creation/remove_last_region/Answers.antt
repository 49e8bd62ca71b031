use Rattle.std.proofs.Common.{◌≡◌, ◌∷◌, ◌++◌, [], List, OnSome, sym, ap, subst, ◌∙◌}
use Rattle.ir_model.specs.declared.ids.ArenaIndex.{ArenaIndex}
use Rattle.ir_model.specs.Ids.{Distinct}
use Rattle.ir_model.specs.Changes.{on_op, on_regions}
use Rattle.ir_model.specs.Nesting.{regions_of}
use Rattle.ir_base_arenas.specs.Arena.{Arena, get, fill, cut}
use Rattle.ir_base_arenas.specs.Lists.{SameIds}
use Rattle.ir_core_records.specs.declared.record.Region.{Region}
use Rattle.ir_core_records.specs.Growth.{Clears}
use Rattle.ir_core_records.specs.Chains.{AreLinked}
use Rattle.ir_core_records.specs.Lists.{in_record}
use Rattle.ir_core_records.specs.Meaning.{forest_in}
use Rattle.ir_core_records.specs.Tree.{tree_of, blocks_in, op_regions}
use Rattle.ir_core_nesting.specs.Leaves.{without_region}
use Rattle.ir_core_nesting.proofs.Readings.{found-at, edited-at}
use Rattle.ir_core_nesting.proofs.Growths.{Clears-cut, SameIds-written, removed}
use Rattle.ir_core_nesting.proofs.RegionLists.{last-same, regions-read, empty-region, region-left}
use Rattle.ir_core_nesting.proofs.creation.remove_last_region.Goals as goal

pub returns-clause-forest : goal.returns-clause-forest
returns-clause-forest g c =
    let old = c.args.records.now in
    let op = c.args.op in
    let at = found-at old.ops op c.requires.live in
    let r = c.pop_region-region.result in
    let pop = c.pop_region-region.ensures in
    let last : regions_of (forest_in old) op ≡ pop.0 ++ r ∷ [] = regions-read old op ∙ pop.1 in
    let splits : at.0.regions ≡ pop.0 ++ r ∷ [] = ap (in_record op_regions []) (sym at.1) ∙ pop.1 in
    let empty = empty-region old r (c.requires.empty pop.0 r last) in
    let popped : c.pop_region-region.new.ops ≡ fill old.ops op (record (at.0) { regions = pop.0 }) = pop.2 ∙ edited-at _ old.ops op at.0 at.1 in
    let cleared : c.remove.new.self ≡ cut old.regions r = removed old.regions c.remove.new.self r c.remove.result empty.0 (c.remove.ensures.value ∙ ap (get old.regions) c.from_index.ensures) (subst (λ (u : ArenaIndex). OnSome c.remove.result (c.remove.new.self ≡ cut old.regions u)) c.from_index.ensures c.remove.ensures.cut) in
    let left = region-left old op at.0 at.1 c.pop_region-region.new.ops c.remove.new.self c.lists_are_one.ensures c.lists_are_one-2.ensures c.requires.nested pop.0 r splits
    (subst (λ (xs : List ArenaIndex). Distinct xs) (regions-read old op ∙ ap (in_record op_regions []) at.1) c.requires.once) empty.0 popped cleared
    (c.container_changes_keep_lists.ensures.removed old.blocks old.regions (blocks_in (tree_of old)) c.requires.nested.block_lists r empty.0 empty.1) in
    λ rest region e.
    let same = last-same pop.0 rest r region (sym last ∙ e) in
    left.forest ∙ (λ i. without_region (on_op (forest_in old) op (on_regions (λ _. same.0 i))) (same.1 i))

pub returns-clause-cleared : goal.returns-clause-cleared
returns-clause-cleared g c =
    let old = c.args.records.now in
    let op = c.args.op in
    let at = found-at old.ops op c.requires.live in
    let r = c.pop_region-region.result in
    let pop = c.pop_region-region.ensures in
    let last : regions_of (forest_in old) op ≡ pop.0 ++ r ∷ [] = regions-read old op ∙ pop.1 in
    let splits : at.0.regions ≡ pop.0 ++ r ∷ [] = ap (in_record op_regions []) (sym at.1) ∙ pop.1 in
    let empty = empty-region old r (c.requires.empty pop.0 r last) in
    let popped : c.pop_region-region.new.ops ≡ fill old.ops op (record (at.0) { regions = pop.0 }) = pop.2 ∙ edited-at _ old.ops op at.0 at.1 in
    let cleared : c.remove.new.self ≡ cut old.regions r = removed old.regions c.remove.new.self r c.remove.result empty.0 (c.remove.ensures.value ∙ ap (get old.regions) c.from_index.ensures) (subst (λ (u : ArenaIndex). OnSome c.remove.result (c.remove.new.self ≡ cut old.regions u)) c.from_index.ensures c.remove.ensures.cut) in
    λ rest region e.
    let same = last-same pop.0 rest r region (sym last ∙ e) in
    subst (λ (u : ArenaIndex). Clears old.regions c.remove.new.self (u ∷ [])) same.1
    (subst (λ (a : Arena Region). Clears old.regions a (r ∷ [])) (sym cleared) (Clears-cut old.regions r empty.0))

pub returns-clause-op_ids : goal.returns-clause-op_ids
returns-clause-op_ids g c =
    let old = c.args.records.now in
    let op = c.args.op in
    let at = found-at old.ops op c.requires.live in
    let pop = c.pop_region-region.ensures in
    let popped : c.pop_region-region.new.ops ≡ fill old.ops op (record (at.0) { regions = pop.0 }) = pop.2 ∙ edited-at _ old.ops op at.0 at.1 in
    subst (λ a. SameIds old.ops a) (sym popped) (SameIds-written old.ops op _ c.requires.live)

pub returns-clause-nested : goal.returns-clause-nested
returns-clause-nested g c =
    let old = c.args.records.now in
    let op = c.args.op in
    let at = found-at old.ops op c.requires.live in
    let r = c.pop_region-region.result in
    let pop = c.pop_region-region.ensures in
    let last : regions_of (forest_in old) op ≡ pop.0 ++ r ∷ [] = regions-read old op ∙ pop.1 in
    let splits : at.0.regions ≡ pop.0 ++ r ∷ [] = ap (in_record op_regions []) (sym at.1) ∙ pop.1 in
    let empty = empty-region old r (c.requires.empty pop.0 r last) in
    let popped : c.pop_region-region.new.ops ≡ fill old.ops op (record (at.0) { regions = pop.0 }) = pop.2 ∙ edited-at _ old.ops op at.0 at.1 in
    let cleared : c.remove.new.self ≡ cut old.regions r = removed old.regions c.remove.new.self r c.remove.result empty.0 (c.remove.ensures.value ∙ ap (get old.regions) c.from_index.ensures) (subst (λ (u : ArenaIndex). OnSome c.remove.result (c.remove.new.self ≡ cut old.regions u)) c.from_index.ensures c.remove.ensures.cut) in
    let left = region-left old op at.0 at.1 c.pop_region-region.new.ops c.remove.new.self c.lists_are_one.ensures c.lists_are_one-2.ensures c.requires.nested pop.0 r splits
    (subst (λ (xs : List ArenaIndex). Distinct xs) (regions-read old op ∙ ap (in_record op_regions []) at.1) c.requires.once) empty.0 popped cleared
    (c.container_changes_keep_lists.ensures.removed old.blocks old.regions (blocks_in (tree_of old)) c.requires.nested.block_lists r empty.0 empty.1) in
    left.nested

pub returns-clause-chains : goal.returns-clause-chains
returns-clause-chains g c =
    let old = c.args.records.now in
    let op = c.args.op in
    let at = found-at old.ops op c.requires.live in
    let r = c.pop_region-region.result in
    let pop = c.pop_region-region.ensures in
    let last : regions_of (forest_in old) op ≡ pop.0 ++ r ∷ [] = regions-read old op ∙ pop.1 in
    let splits : at.0.regions ≡ pop.0 ++ r ∷ [] = ap (in_record op_regions []) (sym at.1) ∙ pop.1 in
    let empty = empty-region old r (c.requires.empty pop.0 r last) in
    let popped : c.pop_region-region.new.ops ≡ fill old.ops op (record (at.0) { regions = pop.0 }) = pop.2 ∙ edited-at _ old.ops op at.0 at.1 in
    let cleared : c.remove.new.self ≡ cut old.regions r = removed old.regions c.remove.new.self r c.remove.result empty.0 (c.remove.ensures.value ∙ ap (get old.regions) c.from_index.ensures) (subst (λ (u : ArenaIndex). OnSome c.remove.result (c.remove.new.self ≡ cut old.regions u)) c.from_index.ensures c.remove.ensures.cut) in
    let left = region-left old op at.0 at.1 c.pop_region-region.new.ops c.remove.new.self c.lists_are_one.ensures c.lists_are_one-2.ensures c.requires.nested pop.0 r splits
    (subst (λ (xs : List ArenaIndex). Distinct xs) (regions-read old op ∙ ap (in_record op_regions []) at.1) c.requires.once) empty.0 popped cleared
    (c.container_changes_keep_lists.ensures.removed old.blocks old.regions (blocks_in (tree_of old)) c.requires.nested.block_lists r empty.0 empty.1) in
    left.chains

pub returns-clause-linked : goal.returns-clause-linked
returns-clause-linked g c = subst AreLinked (sym (returns-clause-chains g c))

pub returns-clause-own : goal.returns-clause-own
returns-clause-own g c =
    let old = c.args.records.now in
    let op = c.args.op in
    let at = found-at old.ops op c.requires.live in
    let r = c.pop_region-region.result in
    let pop = c.pop_region-region.ensures in
    let last : regions_of (forest_in old) op ≡ pop.0 ++ r ∷ [] = regions-read old op ∙ pop.1 in
    let splits : at.0.regions ≡ pop.0 ++ r ∷ [] = ap (in_record op_regions []) (sym at.1) ∙ pop.1 in
    let empty = empty-region old r (c.requires.empty pop.0 r last) in
    let popped : c.pop_region-region.new.ops ≡ fill old.ops op (record (at.0) { regions = pop.0 }) = pop.2 ∙ edited-at _ old.ops op at.0 at.1 in
    let cleared : c.remove.new.self ≡ cut old.regions r = removed old.regions c.remove.new.self r c.remove.result empty.0 (c.remove.ensures.value ∙ ap (get old.regions) c.from_index.ensures) (subst (λ (u : ArenaIndex). OnSome c.remove.result (c.remove.new.self ≡ cut old.regions u)) c.from_index.ensures c.remove.ensures.cut) in
    let left = region-left old op at.0 at.1 c.pop_region-region.new.ops c.remove.new.self c.lists_are_one.ensures c.lists_are_one-2.ensures c.requires.nested pop.0 r splits
    (subst (λ (xs : List ArenaIndex). Distinct xs) (regions-read old op ∙ ap (in_record op_regions []) at.1) c.requires.once) empty.0 popped cleared
    (c.container_changes_keep_lists.ensures.removed old.blocks old.regions (blocks_in (tree_of old)) c.requires.nested.block_lists r empty.0 empty.1) in
    left.own
