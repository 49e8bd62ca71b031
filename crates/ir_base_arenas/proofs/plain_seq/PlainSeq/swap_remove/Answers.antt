use Rattle.std.proofs.Common.{◌≡◌, ◌<◌, ◌≤◌, length, refl, sym, ◌∙◌, arith, length-take-le}
use Rattle.std.proofs.lemmas.Option.{slice_get_read}
use Rattle.ir_base_arenas.proofs.PlainLists.{take-swap_remove}
use Rattle.ir_base_arenas.proofs.plain_seq.PlainSeq.swap_remove.Goals as goal

pub returns-in-Inline-clause-items : goal.returns-in-Inline-clause-items
returns-in-Inline-clause-items g c =
    let within = rw (← c.self.view_is, c.in-Inline.is) at c.requires in
    let placed = rw c.in-Inline.is at c.self.invariant in
    let long : c.in-Inline.len ≤ length c.in-Inline.cells.xs = omega (arith, placed.0, placed.1) in
    let below : c.args.index < c.in-Inline.len = omega (arith, within, length-take-le c.in-Inline.len c.in-Inline.cells.xs long) in
    let same : c.copied.result ≡ c.index-cells-len.result = c.copied.ensures ∙ sym c.index-cells-len.is in
    rw (← c.self.view_is, c.in-Inline.is) (take-swap_remove c.in-Inline.len c.in-Inline.cells.xs c.args.index c.copied.result c.copied-item.result below long (rw same c.index-cells-len.is))

pub returns-in-Heap-clause-value : goal.returns-in-Heap-clause-value
returns-in-Heap-clause-value g c =
    let within = rw (← c.self.view_is, c.in-Heap.is) at c.requires in
    rw (← c.self.view_is, c.in-Heap.is) (slice_get_read c.in-Heap.items.items _ c.args.index _ refl within c.swap_remove.ensures.value)
