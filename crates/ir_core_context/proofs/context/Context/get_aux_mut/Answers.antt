use Rattle.std.proofs.Common.{◌≡◌, refl, sym, ap}
use Rattle.ir_core_data.specs.Side.{with_written}
use Rattle.ir_core_context.specs.State.{ContextState}
use Rattle.ir_core_context.specs.AuxLending.{with_aux_written}
use Rattle.ir_core_context.proofs.Aside.{aside-rest, aside-sound, lent-both}
use Rattle.ir_core_context.proofs.context.Context.get_aux_mut.Goals as goal

-- whatever is written under the index, the context is sound
pub invariant_of-self-lent : goal.invariant_of-self-lent
invariant_of-self-lent g c =
    let i = c.self.inside in
    let s : ContextState _ _ _ _ _ _ _ = record { records = i.records; types = i.types; next_value = i.next_value; next_use = i.next_use; side = i.side; limits = i.limits } in
    let keeps = c.self.invariant.counted.aux_slots in
    λ lent. (
      λ w. aside-sound s (with_written i.side c.args.index.index w) c.self.invariant (record { limit = keeps.limit; last_version = keeps.last_version }),
      c.self.invariant,
    )

pub returns : goal.returns
returns g c =
    let index = c.args.index.index in (
      lent-both _ _ _ _ _ (λ w. ap (λ s. with_aux_written s index w) c.self.view_is) c.self.view_is,
      record {
        writes_back = tt;
        value = rw (sym c.self.view_is) c.get_aux_mut.ensures.value;
        written = λ some. rw (sym c.self.view_is) (record {
          beside = c.get_aux_mut.ensures.written some;
          same = λ v. record { forest = refl; store = refl; passed = refl; limits = refl };
        });
      },
    )
