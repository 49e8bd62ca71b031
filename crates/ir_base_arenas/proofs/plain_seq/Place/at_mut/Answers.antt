use Rattle.std.proofs.Common.{length, refl}
use Rattle.std.proofs.lemmas.Option.{slice_get_read}
use Rattle.ir_base_arenas.proofs.plain_seq.Place.at_mut.Goals as goal

pub returns-in-Heap : goal.returns-in-Heap
returns-in-Heap g c =
    let within = rw c.in-Heap.is at c.requires.within in
    let lent = rw c.in-Heap.is at c.index_mut.ensures in
    rw c.in-Heap.is ((refl, λ w. refl), record { writes_back = tt; value = slice_get_read c.in-Heap.items.items (length c.in-Heap.items.items) c.args.index c.index_mut.result.now refl within lent.value })
