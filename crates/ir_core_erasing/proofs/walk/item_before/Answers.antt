use Rattle.std.proofs.Common.{◌≡◌, ◌-◌, ◌<◌, suc, Some, slice_get, slice_index_or, sym, ap, ◌∙◌, length, arith}
use Rattle.std.proofs.lemmas.Option.{slice_get-get_or}
use Rattle.ir_model.specs.declared.ids.ArenaIndex.{ArenaIndex}
use Rattle.ir_model.proofs.TwoRuns.{id_tells}
use Rattle.ir_core_erasing.proofs.Siblings.{before-at}
use Rattle.ir_core_erasing.proofs.walk.item_before.Goals as goal

pub returns-then-eq : goal.returns-then-eq
returns-then-eq c =
    let xs = c.args.items.now in
    let place = c.likely_place-place.result in
    let none : ArenaIndex = record { slot = 0; version = 0 } in
    let next : suc (place - 1) ≡ place = omega (arith, c.if-place-gt0.true) in
    let within : place < length xs = c.if-place-items.true in
    let before : place - 1 < length xs = omega arith in
    let is : slice_index_or xs place none ≡ c.args.item = (id_tells (slice_index_or xs place none) c.args.item).0 (sym c.eq.ensures ∙ c.if-eq.true) in
    sym (before-at _ c.args.item (slice_index_or xs (place - 1) none) xs (place - 1) c.requires (slice_get-get_or xs (place - 1) none before)
    (ap (slice_get xs) next ∙ slice_get-get_or xs place none within ∙ ap Some is))
