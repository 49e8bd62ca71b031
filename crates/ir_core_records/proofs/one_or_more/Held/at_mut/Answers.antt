use Rattle.std.proofs.Common.{length, refl}
use Rattle.std.proofs.lemmas.Option.{slice_get_read}
use Rattle.ir_core_records.proofs.one_or_more.Held.at_mut.Goals as goal

pub returns-in-More : goal.returns-in-More
returns-in-More g c =
    let within = rw c.in-More.is at c.requires in
    let lent = rw c.in-More.is at c.index_mut.ensures in
    rw c.in-More.is ((refl, λ w. refl), record { writes_back = tt; value = slice_get_read c.in-More.items.items (length c.in-More.items.items) c.args.index c.index_mut.result.now refl within lent.value })
