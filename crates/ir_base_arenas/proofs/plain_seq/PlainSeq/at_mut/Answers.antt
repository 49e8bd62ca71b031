use Rattle.std.proofs.Common.{refl}
use Rattle.ir_base_arenas.proofs.PlainLists.{items-place_with}
use Rattle.ir_base_arenas.proofs.plain_seq.PlainSeq.at_mut.Goals as goal

pub returns : goal.returns
returns g c =
    let within = rw (← c.self.view_is) at c.requires in
    rw (← c.self.view_is) (
      (refl, λ w. items-place_with c.self.inside.place c.args.index w c.self.invariant within),
      record { writes_back = tt; value = c.at_mut.ensures.value },
    )
