use Rattle.std.proofs.Common.{refl}
use Rattle.ir_core_records.proofs.HeldLists.{items-held_with}
use Rattle.ir_core_records.proofs.one_or_more.OneOrMore.at_mut.Goals as goal

pub returns : goal.returns
returns g c =
    let within = rw (← c.self.view_is) at c.requires in
    rw (← c.self.view_is) (
      (refl, λ w. items-held_with c.self.inside.held c.args.index w within),
      record { writes_back = tt; value = c.at_mut.ensures.value },
    )
