use Rattle.std.proofs.Common.{◌≡◌, ◌<◌, Some, length, slice_index_or, sym, ap, ◌∙◌}
use Rattle.std.proofs.lemmas.Option.{slice_get-get_or}
use Rattle.ir_model.specs.declared.ids.ArenaIndex.{ArenaIndex}
use Rattle.ir_model.proofs.TwoRuns.{id_tells}
use Rattle.ir_core_queries.proofs.Places.{found-item, missed-item}
use Rattle.ir_core_queries.proofs.region.index_of_item.Goals as goal

pub returns-then-eq : goal.returns-then-eq
returns-then-eq c =
    let xs = c.args.items.now in
    let none : ArenaIndex = record { slot = 0; version = 0 } in
    let within : c.args.likely < length xs = c.if-likely-items.true in
    let is : slice_index_or xs c.args.likely none ≡ c.args.item = (id_tells (slice_index_or xs c.args.likely none) c.args.item).0 (sym c.eq.ensures ∙ c.if-eq.true) in
    slice_get-get_or xs c.args.likely none within ∙ ap Some is

pub returns : goal.returns
returns c = found-item c.args.items.now c.args.item c.in-Some.index (sym c.find_item.ensures ∙ c.in-Some.is)

pub unreachable-requires : goal.unreachable-requires
unreachable-requires c = missed-item c.args.items.now c.args.item (sym c.find_item.ensures ∙ c.in-None.is) c.requires
