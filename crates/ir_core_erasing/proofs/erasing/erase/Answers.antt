use Rattle.std.proofs.Common.{◌≡◌, ◌∙◌, ◌+◌, ap, arith}
use Rattle.ir_base_arenas.specs.Arena.{Arena}
use Rattle.ir_core_records.specs.declared.record.Region.{Region}
use Rattle.ir_core_records.specs.Meaning.{entity_of, forest_in}
use Rattle.ir_core_erasing.specs.Erasing.{removals}
use Rattle.ir_core_erasing.proofs.Bare.{drop-bare}
use Rattle.ir_core_erasing.proofs.Drops.{drop-first, drop-unnamed}
use Rattle.ir_core_erasing.proofs.Erasures.{drop-size}
use Rattle.ir_core_erasing.proofs.Unnamed.{drop-formed}
use Rattle.ir_core_erasing.proofs.erasing.erase.Goals as goal

pub tear_down-requires-clause-formed : goal.tear_down-requires-clause-formed
tear_down-requires-clause-formed g c =
    let old = c.args.records.now in
    let mid = c.drop_all_uses.new.records in
    let e = entity_of c.args.entity in
    let d = c.drop_all_uses.ensures in
    (c.requires.formed.0, drop-formed (forest_in old) (forest_in mid) e c.requires.formed.0 c.requires.formed.1 d.forest)

pub tear_down-requires-clause-bare : goal.tear_down-requires-clause-bare
tear_down-requires-clause-bare g c =
    let old = c.args.records.now in
    let mid = c.drop_all_uses.new.records in
    let e = entity_of c.args.entity in
    let d = c.drop_all_uses.ensures in
    drop-bare (forest_in old) (forest_in mid) e d.forest

pub tear_down-requires-clause-unnamed : goal.tear_down-requires-clause-unnamed
tear_down-requires-clause-unnamed g c =
    let old = c.args.records.now in
    let mid = c.drop_all_uses.new.records in
    let e = entity_of c.args.entity in
    let d = c.drop_all_uses.ensures in
    drop-unnamed (forest_in old) (forest_in mid) e d.forest c.requires.closed

pub returns-clause-removed : goal.returns-clause-removed
returns-clause-removed g c =
    let old = c.args.records.now in
    let mid = c.drop_all_uses.new.records in
    let e = entity_of c.args.entity in
    let d = c.drop_all_uses.ensures in
    let new = c.tear_down.new.records in
    drop-first (forest_in old) (forest_in mid) e d.forest (forest_in new) c.tear_down.ensures.removed

pub returns-clause-once : goal.returns-clause-once
returns-clause-once g c =
    let old = c.args.records.now in
    let mid = c.drop_all_uses.new.records in
    let e = entity_of c.args.entity in
    let d = c.drop_all_uses.ensures in
    let once = c.tear_down.ensures.once in
    let ops = d.keeps.op_ids.removals in
    let blocks = d.keeps.block_ids.removals in
    let regions = ap (λ (a : Arena Region). a.removals) d.keeps.regions in
    let same : removals mid ≡ removals old = omega (arith, ops, blocks, regions) in
    (once.0, drop-size (forest_in old) (forest_in mid) e once.0 d.forest once.1, once.2 ∙ ap (λ n. n + once.0) same)
