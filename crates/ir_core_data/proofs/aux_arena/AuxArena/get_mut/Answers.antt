use Rattle.std.proofs.Common.{None, Some, refl, ap, ◌∙◌, inl, inr}
use Rattle.ir_core_data.proofs.WrappedArenas.{fill-kept, found-some, lent-some, seen-fill, seen-get}
use Rattle.ir_core_data.proofs.aux_arena.AuxArena.get_mut.Goals as goal

pub returns-in_err-self-inside : goal.returns-in_err-self-inside
returns-in_err-self-inside g c =
    rw (c.from_residual.ensures, ← c.from_index.ensures) (
      ap inr c.self.view_is,
      record { writes_back = tt; value = seen-get c.self.inside.items c.args.self.now c.self.invariant c.self.view_is c.from_index.result.index None c.in_err-self-inside.ensures.value },
    )

pub invariant_of-self-lent : goal.invariant_of-self-lent
invariant_of-self-lent g c =
    let kept = fill-kept c.self.inside.items c.args.self.now c.self.invariant c.self.view_is c.from_index.result.index in
    let some = found-some c.self.inside.items c.args.self.now c.self.invariant c.self.view_is c.from_index.result.index c.in_ok-self-inside.field-0.now c.in_ok-self-inside.ensures.value in
    λ lent. (λ w. kept (Some w) refl, kept c.in_ok-self-inside.field-0.now some)

pub returns : goal.returns
returns g c =
    let some = found-some c.self.inside.items c.args.self.now c.self.invariant c.self.view_is c.from_index.result.index c.in_ok-self-inside.field-0.now c.in_ok-self-inside.ensures.value in
    let lent = lent-some c.as_mut.result c.in_ok-self-inside.field-0.now c.as_mut.ensures.value some in
    rw (← c.from_index.ensures) (
      rw lent.1 (λ i. inl (lent.0.ghost_name, λ w. seen-fill c.self.inside.items c.args.self.now c.self.invariant c.self.view_is c.from_index.result.index w i)),
      record { writes_back = tt; value = c.as_mut.ensures.value ∙ seen-get c.self.inside.items c.args.self.now c.self.invariant c.self.view_is c.from_index.result.index (Some c.in_ok-self-inside.field-0.now) c.in_ok-self-inside.ensures.value },
    )
