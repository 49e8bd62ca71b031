use Rattle.std.proofs.Common.{◌<◌, ◌∙◌, ◌∷◌, [], ◌++◌, refl, sym, ap, length, get_or, take, add-one, arith}
use Rattle.std.proofs.lemmas.Option.{slice_get_read}
use Rattle.ir_model.specs.Edits.{these}
use Rattle.ir_run_sessions.specs.SessionLists.{Each-at, these-push}
use Rattle.ir_run_sessions.proofs.lookups.picked.Goals as goal

pub loop-number-preserved : goal.loop-number-preserved
loop-number-preserved g c =
    let table = c.args.table.now in
    let numbers = c.args.numbers.now in
    let i = c.loop-number.number-index in
    let x = c.index-table-number.result in
    let below : get_or numbers i 0 < length table = Each-at (λ n. n < length table) numbers i c.loop-number-test.true c.requires in
    let there = slice_get_read table (length table) (get_or numbers i 0) x refl below c.index-table-number.is in (
      c.push_reserved.ensures.items ∙ ap (λ xs. xs ++ x ∷ []) c.loop-number.invariant.0 ∙ sym (these-push table numbers i x c.loop-number-test.true there) ∙ ap (λ k. these table (take k numbers)) (sym (add-one i)),
      omega (arith, c.push_reserved.ensures.len, c.loop-number.invariant.1),
      cc (c.push_reserved.ensures.capacity, c.loop-number.invariant.2),
    )
